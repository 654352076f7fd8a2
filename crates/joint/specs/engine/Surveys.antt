-- What calls of one step tell of the tree as it stands.
use Rattle.std.specs.Prelude.{◌≡◌, ℕ}
use Rattle.std.specs.FinMap.{len}
use Rattle.judge.specs.Answer.{Pairs}
use Rattle.congee.specs.Heap.{Node}
use Rattle.congee.specs.Keys.{IsMapOf}
use Rattle.congee.specs.owned.Stats.{IsTally, capped}
use Rattle.joint.specs.declared.refusal.Refusal.TheVariants.{Memory}
use Rattle.joint.specs.declared.steps.Done.TheVariants.{Keys, Empty, Stats}
use Rattle.joint.specs.declared.steps.Outcome.{Outcome}
use Rattle.joint.specs.declared.steps.Outcome.TheVariants.{Done, Refused}
use Rattle.joint.specs.declared.steps.Survey.{Survey}
use Rattle.joint.specs.declared.steps.Survey.TheVariants as survey
use Rattle.joint.specs.nodes.Levels.{nodes_of}
use Rattle.joint.specs.nodes.Survey.{IsEmptiness, keys_of}

-- all keys of the pairs that stand, in ascending order
abbrev pub TellsKeys : {V : Type 0} → (ℕ → Node V) → Outcome V → Type 0
TellsKeys {V} h (Done (Keys keys)) = (m : Pairs V) → IsMapOf h m → keys.items ≡ keys_of m
TellsKeys h (Refused Memory) = Unit {0}
TellsKeys h _ = ⊥

-- whether there is no pair
abbrev pub TellsEmpty : {V : Type 0} → (ℕ → Node V) → Outcome V → Type 0
TellsEmpty {V} h (Done (Empty b)) = (m : Pairs V) → IsMapOf h m → IsEmptiness m b
TellsEmpty h _ = ⊥

-- how the nodes of the tree are spread, and how many pairs there are
abbrev pub TellsStats : {V : Type 0} → (ℕ → Node V) → Outcome V → Type 0
TellsStats {V} h (Done (Stats stats)) = (m : Pairs V) → IsMapOf h m → IsTally stats (nodes_of h) (len m)
TellsStats h (Refused Memory) = Unit {0}
TellsStats h _ = ⊥

-- what a call of one step tells, by what it asks
abbrev pub TellsOf : {V : Type 0} → (ℕ → Node V) → Survey → Outcome V → Type 0
TellsOf h survey.Keys o = TellsKeys h o
TellsOf h survey.IsEmpty o = TellsEmpty h o
TellsOf h survey.Stats o = TellsStats h o

-- the same on the map m alone: of the nodes it says how many pairs there are
abbrev pub MapTells : {V : Type 0} → Pairs V → Survey → Outcome V → Type 0
MapTells m k (Refused e) = Unit {0}
MapTells m survey.Keys (Done (Keys keys)) = keys.items ≡ keys_of m
MapTells m survey.IsEmpty (Done (Empty b)) = IsEmptiness m b
MapTells m survey.Stats (Done (Stats stats)) = stats.kv_pairs ≡ capped (len m)
MapTells m k o = ⊥

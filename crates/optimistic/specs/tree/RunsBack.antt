-- What a node tells of the keys up to one, as many as it has, from that one down.
use Rattle.std.specs.Prelude.{◌≡◌, ℕ, ◌+◌, ◌<◌, ◌≤◌, leb, List, [], ◌∷◌, Option, None, Some, IfSome, if◌then◌else◌}
use Rattle.std.specs.List.{AllPairs, Contains}
use Rattle.optimistic.specs.declared.drain.nexts.Pair.{Pair}
use Rattle.optimistic.specs.declared.tree.place.Place.{Place}
use Rattle.optimistic.specs.declared.tree.run.Bit.{Bit}
use Rattle.optimistic.specs.declared.tree.run.Bit.TheVariants.{Told, Down}
use Rattle.optimistic.specs.declared.tree.run.Run.{Run}
use Rattle.optimistic.specs.declared.words.rule.Entry.{Entry}
use Rattle.optimistic.specs.declared.words.rule.Moment.{Moment}
use Rattle.optimistic.specs.declared.words.rule.View.{View}
use Rattle.optimistic.specs.forms.Children.{IsForm}
use Rattle.optimistic.specs.words.Kept.{word_at, value_of, Since, Sound}
use Rattle.optimistic.specs.tree.Drained.{pair_of}
use Rattle.optimistic.specs.tree.Reads.{Agrees, IsPlace}
use Rattle.optimistic.specs.tree.Runs.{Gives, NodeMakes}
use Rattle.optimistic.specs.tree.Sights.{Stood}
use Rattle.optimistic.specs.tree.Trails.{IsTurn}
use Rattle.optimistic.specs.tree.Trees.{IsTree}

-- the least key that was told, of those from a first one on, where this one is next
abbrev pub lowest : ℕ → Option ℕ → ℕ
lowest first None = first
lowest first (Some next) = next + 1

-- a pair that isn't before the first key
abbrev pub not_before : ℕ → Option Pair → List Pair
not_before first None = []
not_before first (Some p) = if leb first p.key then p ∷ [] else []

-- the pairs that a log makes of the keys from one on and below another, in descending order
pub record IsDrainedBack (log : List Entry) (from to : ℕ) (pairs : List Pair) : Type 0 where
  pub descending : AllPairs (λ p q. q.key < p.key) pairs
  pub told : (p : Pair) → Contains pairs p → (from ≤ p.key) × (p.key < to) × (value_of p.key log ≡ Some p.value)
  pub all : (key value : ℕ) → from ≤ key → key < to → value_of key log ≡ Some value → Contains pairs (pair_of key value)

-- what a child tells of the keys down from one is what a log makes of them
abbrev pub BackHolds : List Entry → ℕ → Bit → Type 0
BackHolds log from (Told pair first) = Gives log first from pair
BackHolds log from (Down p) = Unit {0}

-- the keys that are told aren't behind the one that was asked for, and the node that is next on the way is known
abbrev pub KnowsBack : ℕ → Bit → View → Type 0
KnowsBack from (Told pair first) v = first ≤ from
KnowsBack from (Down p) v = IsPlace p v

-- the children of a node that was looked at meanwhile tell this of the keys down from one
abbrev pub ShowsBack : Place → ℕ → Bit → View → View → Type 0
ShowsBack at from bit v w = (f : ℕ → ℕ) → Agrees at.node at.form v w f → IsForm at.form f → (log : List Entry) → NodeMakes at f from log → BackHolds log from bit

-- the pairs of the keys from one on, up to that which was asked for, are these
abbrev pub ShowsRunBack : Place → (from low : ℕ) → List Pair → View → View → Type 0
ShowsRunBack at from low pairs v w = (f : ℕ → ℕ) → Agrees at.node at.form v w f → IsForm at.form f → (log : List Entry) → NodeMakes at f from log → IsDrainedBack log low (from + 1) pairs

-- What a node told of the keys down from one holds whenever the node has the version at which it was told
pub record IsRunBack (r : Run) (from first places : ℕ) (pairs : List Pair) (v : View) : Type 0 where
  pub place : IsPlace r.at v
  pub turn : IsTurn r.turn v
  pub least : r.version ≤ word_at v.seen.words r.at.node 0
  pub few : r.count ≤ places
  pub order : lowest first r.next ≤ from + 1
  pub inside : IfSome r.next (λ k. first ≤ k)
  pub holds : (m : Moment) → Since v.seen m → Sound IsTree m → word_at m.words r.at.node 0 ≡ r.version → IsDrainedBack m.log (lowest first r.next) (from + 1) pairs

-- it held at one moment, and of one key at least
pub record WasToldBack (r : Run) (from first places : ℕ) (pairs : List Pair) (v w : View) : Type 0 where
  pub few : r.count ≤ places
  pub later : lowest first r.next ≤ from
  pub inside : IfSome r.next (λ k. first ≤ k)
  pub stood : Stood (λ log. IsDrainedBack log (lowest first r.next) (from + 1) pairs) v w

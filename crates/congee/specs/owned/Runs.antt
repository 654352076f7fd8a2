-- Runs of writing calls on an owned tree in which none goes on without a lesser node that it wants.
use Rattle.std.specs.Prelude.{◌≡◌, ℕ, Bool, List, [], ◌∷◌, Option}
use Rattle.congee.specs.owned.Content.{Content, Inserts, IsBare, Modifies, Unchanged}
use Rattle.congee.specs.owned.Full.{AllFilled, NoneSkipped}
use Rattle.congee.specs.owned.Going.{Going}
use Rattle.congee.specs.owned.Owners.{Owners, OwnerInserts, OwnerModifies}
use Rattle.judge.specs.declared.journal.Call.{Call}
use Rattle.judge.specs.declared.journal.Reply.{Reply}

-- a run, by what each of its calls leaves
abbrev pub IsRun : {S : Type 0} → (S → S → Type 0) → S → List S → S → Type 0
IsRun next first [] last = last ≡ first
IsRun next first (now ∷ rest) last = next first now × IsRun next now rest last

-- such a call: it inserted, it let nodes go and skipped none, it left all as it was, or it took all out
pub data GoesOn {V A D : Type 0} (same : V → V → Bool) (charged limit : A → ℕ) (old new : Content V A D) : Type 0 where
  Inserted : (key : ℕ) (call : Call V) (reply : Reply V) → Inserts same charged limit old new key call reply → GoesOn same charged limit old new
  Modified : (going : Option Going) (call : Call V) (reply : Reply V) → Modifies same charged limit old new going call reply → NoneSkipped old.bytes new.bytes going → GoesOn same charged limit old new
  Left : Unchanged old new → GoesOn same charged limit old new
  Cleared : IsBare new → GoesOn same charged limit old new

-- the nodes of a tree have enough children after any such calls on one that lacked none
abbrev pub StaysFilled : {V A D : Type 0} → (V → V → Bool) → (A → ℕ) → (A → ℕ) → Content V A D → Type 0
StaysFilled {V} {A} {D} same charged limit last = (first : Content V A D) (calls : List (Content V A D)) → first.lacking ≡ 0 → IsRun (GoesOn same charged limit) first calls last → AllFilled last.nodes

-- the same on a tree of owners
pub data OwnerGoesOn {V : Type 0} (old new : Owners V) : Type 0 where
  OwnerInserted : (key : ℕ) (call : Call V) (reply : Reply V) → OwnerInserts old new key call reply → OwnerGoesOn old new
  OwnerModified : (going : Option Going) (call : Call V) (reply : Reply V) → OwnerModifies old new going call reply → NoneSkipped old.bytes new.bytes going → OwnerGoesOn old new
  OwnerLeft : new ≡ old → OwnerGoesOn old new

-- the same of a tree of owners
abbrev pub OwnersStayFilled : {V : Type 0} → Owners V → Type 0
OwnersStayFilled {V} last = (first : Owners V) (calls : List (Owners V)) → first.lacking ≡ 0 → IsRun OwnerGoesOn first calls last → AllFilled last.nodes

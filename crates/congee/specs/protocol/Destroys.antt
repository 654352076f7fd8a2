-- A store that destroys nodes which no call names, between the steps of calls.
use Rattle.std.specs.Prelude.{◌≡◌, ℕ, ◌⊎◌, Bool, true, false, List, Some, slice_get}
use Rattle.std.specs.List.{All}
use Rattle.congee.specs.declared.protocol.machine.Machine.{Machine}
use Rattle.congee.specs.Heap.{Node}
use Rattle.congee.specs.Notes.{Note}
use Rattle.congee.specs.protocol.Answers.{SameMap}
use Rattle.congee.specs.protocol.Holdings.{Holdings}
use Rattle.congee.specs.protocol.Names.{names}
use Rattle.congee.specs.protocol.Play.{ProtocolAt, Settled}

-- a node that had been handed over is destroyed; its name stays used
pub record Lost {V : Type 0} (p q : Node V) : Type 0 where
  pub handed : p.retired ≡ true
  pub stood : p.destroyed ≡ false
  pub destroyed : q.destroyed ≡ true
  pub made : q.made ≡ true

-- some nodes that had been handed over are destroyed, and none that a call names; each other node is as it was
pub record Destroys {C V : Type 0} (number : C → ℕ) (h : ℕ → Node V) (ms : List (Machine C V)) (h' : ℕ → Node V) : Type 0 where
  pub each : (n : ℕ) → (h' n ≡ h n) ⊎ Lost (h n) (h' n)
  pub named : (i : ℕ) (m : Machine C V) → slice_get ms i ≡ Some m → All (λ n. h' n ≡ h n) (names number m.phase)

-- that leaves the tree, its map, and what each call knows and holds
abbrev pub Spares : {C V : Type 0} → (C → ℕ) → (V → V → Bool) → Bool → (ℕ → Node V) → List (Machine C V) → Type 0
Spares {C} {V} number same always h ms = (a : ℕ → Note) (h' : ℕ → Node V) → ProtocolAt number same always a h ms → Holdings number a h ms → Destroys number h ms h'
    → Settled number same always h' ms × SameMap h h'

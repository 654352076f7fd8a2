-- Where each node is that was ever made.
use Rattle.std.specs.Prelude.{◌≡◌, ℕ, true, Some, slice_get, ◌⊎◌}
use Rattle.congee.specs.declared.protocol.machine.Machine.{Machine}
use Rattle.congee.specs.protocol.Handing.{InTree, IsOut}
use Rattle.congee.specs.Heap.{Stands}
use Rattle.congee.specs.protocol.Holdings.{TakenBy}
use Rattle.joint.specs.declared.id.Id.{Id}
use Rattle.joint.specs.nodes.Nodes.{nodes}
use Rattle.joint.specs.nodes.View.{id_number}
use Rattle.joint.specs.engine.Engine.{World, IsHeldBy}

-- a call in flight has made it, and neither hung it nor given it back
pub record IsHeld {V : Type 0} (s : World V) (n : ℕ) : Type 0 where
  pub stands : Stands (nodes s.forest n)
  pub worker : ℕ
  pub held : IsHeldBy s worker n

-- a path from the root leads to it
pub record IsInTree {V : Type 0} (s : World V) (n : ℕ) : Type 0 where
  pub path : InTree (nodes s.forest) n

-- it stands out of the tree, and no call holds it as made by it
pub record IsWaiting {V : Type 0} (s : World V) (n : ℕ) : Type 0 where
  pub stands : Stands (nodes s.forest n)
  pub out : IsOut (nodes s.forest) n
  pub unheld : (worker : ℕ) → IsHeldBy s worker n → ⊥

-- it is destroyed
pub record IsDestroyed {V : Type 0} (s : World V) (n : ℕ) : Type 0 where
  pub gone : (nodes s.forest n).destroyed ≡ true

-- the call has taken it out of the tree, and has not yet handed it over
abbrev pub IsTakenBy : {V : Type 0} → World V → ℕ → ℕ → Type 0
IsTakenBy {V} s worker n = (m : Machine Id V) × (slice_get s.machines worker ≡ Some m) × TakenBy id_number m.phase n

-- exactly one of the four; one call alone holds what is held, and what waits was handed over, or will be by the call that
-- took it out
pub record IsSomewhere {V : Type 0} (s : World V) (n : ℕ) : Type 0 where
  pub one : (IsHeld s n ⊎ IsInTree s n) ⊎ (IsWaiting s n ⊎ IsDestroyed s n)
  pub held_or_hung : IsHeld s n → IsInTree s n → ⊥
  pub held_or_waiting : IsHeld s n → IsWaiting s n → ⊥
  pub held_or_destroyed : IsHeld s n → IsDestroyed s n → ⊥
  pub hung_or_waiting : IsInTree s n → IsWaiting s n → ⊥
  pub hung_or_destroyed : IsInTree s n → IsDestroyed s n → ⊥
  pub waiting_or_destroyed : IsWaiting s n → IsDestroyed s n → ⊥
  pub holder : (i j : ℕ) → IsHeldBy s i n → IsHeldBy s j n → i ≡ j
  pub handed : IsWaiting s n → ((nodes s.forest n).retired ≡ true) ⊎ ((worker : ℕ) × IsTakenBy s worker n)

-- each node is
abbrev pub AllSomewhere : {V : Type 0} → World V → Type 0
AllSomewhere s = (n : ℕ) → (nodes s.forest n).made ≡ true → IsSomewhere s n

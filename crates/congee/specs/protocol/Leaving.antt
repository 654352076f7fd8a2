-- What a step of a call leaves of names and nodes, for whoever keeps a history of them.
use Rattle.std.specs.Prelude.{◌≡◌, ℕ, true, ◌⊎◌}
use Rattle.std.specs.List.{Contains}
use Rattle.congee.specs.declared.protocol.machine.Machine.{Machine}
use Rattle.congee.specs.Heap.{Node, Stands}
use Rattle.congee.specs.protocol.Holdings.{MadeBy}
use Rattle.congee.specs.Notes.{Note, Gone, Held, is_published}
use Rattle.congee.specs.protocol.Names.{names}

-- a destroyed node stays as it is, and a used name stays used; what is out of the tree had been in reach before the step;
-- each name of the call is of a node that is or was in reach, or of one that it made and holds; and the step destroys
-- only nodes that the call has made
pub record StepLeaves {C V : Type 0} (number : C → ℕ) (i : ℕ) (a a' : ℕ → Note) (h h' : ℕ → Node V) (m m' : Machine C V) : Type 0 where
  pub dead : (n : ℕ) → (h n).made ≡ true → (h n).destroyed ≡ true → h' n ≡ h n
  pub used : (n : ℕ) → (h n).made ≡ true → (h' n).made ≡ true
  pub gone : (n : ℕ) → (a' n).status ≡ Gone → is_published (a n).status ≡ true
  pub named : (n : ℕ) → Contains (names number m'.phase) n → (is_published (a' n).status ≡ true) ⊎ MadeBy number m'.phase n
  pub mine : (n : ℕ) → MadeBy number m'.phase n → (a' n).status ≡ Held i
  pub lost : (n : ℕ) → Stands (h n) → Stands (h' n) ⊎ MadeBy number m.phase n

-- Nodes of which a version was taken.
use Rattle.std.specs.Prelude.{◌≡◌, ℕ, ◌≤◌, true}
use Rattle.congee.specs.Heap.{Node, is_taken}
use Rattle.congee.specs.Notes.{Note, is_published}

-- a node of which a version was taken
pub record Stamped {V : Type 0} (a : ℕ → Note) (h : ℕ → Node V) (n v : ℕ) : Type 0 where
  pub published : is_published (a n).status ≡ true
  pub up : v ≤ (h n).version

-- and what is true of it as long as its lock word is the one taken
pub record Fresh {V : Type 0} (a : ℕ → Note) (h : ℕ → Node V) (n v : ℕ) (Q : Node V → Type 0) : Type 0 where
  pub stamped : Stamped a h n v
  pub holds : is_taken (h n) v ≡ true → Q (h n)

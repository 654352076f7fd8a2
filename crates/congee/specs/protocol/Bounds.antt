-- Versions and the greatest one that a lock word has.
use Rattle.std.specs.Prelude.{◌≡◌, ℕ, ◌<◌, ◌≤◌, true}
use Rattle.congee.specs.Heap.{Node, Stands}

-- the version is at most the greatest, and less where the node is locked: its unlocking has one to rise to
pub record Bounded {V : Type 0} (most : ℕ) (n : Node V) : Type 0 where
  pub low : n.version ≤ most
  pub locked : n.locked ≡ true → n.version < most

-- of each node that stands
abbrev pub Within : {V : Type 0} → ℕ → (ℕ → Node V) → Type 0
Within most h = (n : ℕ) → Stands (h n) → Bounded most (h n)

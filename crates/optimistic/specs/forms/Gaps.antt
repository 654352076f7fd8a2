-- Bytes at which a node has no child.
use Rattle.std.specs.Prelude.{◌≡◌, ℕ, ◌+◌, ◌<◌, ◌≤◌, List, length, get_or}
use Rattle.optimistic.specs.forms.Children.{first_of}
use Rattle.optimistic.specs.forms.Wide.{bit_in}

-- a node of these words has no child from one byte on and below another
abbrev pub IsGap : ℕ → (ℕ → ℕ) → ℕ → ℕ → Type 0
IsGap form w from to = (key b : ℕ) → from ≤ b → b < to → first_of form w key b ≡ 0

-- each of its children is at a byte whose bit is set
abbrev pub HasOnly : ℕ → (ℕ → ℕ) → List ℕ → Type 0
HasOnly form w masks = (key b : ℕ) → b < 256 → bit_in masks b ≡ 0 → first_of form w key b ≡ 0

-- the node has these words, from its third on
abbrev pub HasWords : List ℕ → (ℕ → ℕ) → Type 0
HasWords words w = (i : ℕ) → i < length words → w (2 + i) ≡ get_or words i 0

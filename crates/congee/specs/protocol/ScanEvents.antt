-- What a scan's read of a node finds.
use Rattle.std.specs.Prelude.{◌≡◌, ℕ, ◌<◌, ◌≤◌, Bool, true, false}
use Rattle.congee.specs.declared.protocol.store.Least.{Least}
use Rattle.congee.specs.declared.protocol.store.Least.TheVariants as least
use Rattle.congee.specs.Heap.{Node, Hung, Nothing, Below, Holds, is_taken}

-- the child of the least byte within bounds
pub record IsLeastChild {V : Type 0} (n : Node V) (from last byte : ℕ) (x : Hung V) : Type 0 where
  pub past : from ≤ byte
  pub within : byte ≤ last
  pub here : n.children byte ≡ x
  pub before : (q : ℕ) → from ≤ q → q < byte → n.children q ≡ Nothing

-- what is found at a node whose lock word is the one taken
abbrev pub LeastTruly : {C V : Type 0} → (C → ℕ) → Node V → ℕ → ℕ → Least C V → Type 0
LeastTruly number n from last least.Nothing = (q : ℕ) → from ≤ q → q ≤ last → n.children q ≡ Nothing
LeastTruly number n from last (least.Node byte c) = IsLeastChild n from last byte (Below (number c))
LeastTruly number n from last (least.Value byte v) = IsLeastChild n from last byte (Holds v)
LeastTruly {C} {V} number n from last least.Uncopied = (byte : ℕ) × (v : V) × IsLeastChild n from last byte (Holds v)

-- a byte has eight bits, and a copy fails only where copies may
abbrev pub IsAny : {C V : Type 0} → Bool → Least C V → Type 0
IsAny always least.Nothing = Unit {0}
IsAny always (least.Node byte c) = byte < 256
IsAny always (least.Value byte v) = byte < 256
IsAny always least.Uncopied = always ≡ false

-- what a read gives, which is true where the lock word is the one taken
abbrev pub LeastGives : {C V : Type 0} → (C → ℕ) → Bool → Node V → ℕ → ℕ → ℕ → Least C V → Type 0
LeastGives number always n v from last r = IsAny always r × (is_taken n v ≡ true → LeastTruly number n from last r)

-- What the callers of a desk keep, and what each step tells.
use Rattle.std.specs.Prelude.{◌≡◌, ◌≢◌, ℕ, ◌<◌, ◌∷◌, length, slice_index, Option, Some}
use mathlib.Core.Option.{some}
use lib.ListN.{get_elem?}
use Rattle.atomic_table.specs.Table.{State, Me, Step, rest}

-- While the word is 0 a value is there, and the fact holds of it. Each caller knows the key
pub record Lent {T K : Type 0} (fact : K → T → Type 0) (key : K) (s : State (Option T) K) : Type 0 where
  pub some_word : 0 < length s.words
  pub there : slice_index s.words 0 ≡ 0 → (x : T) × (get_elem? s.homes 0 ≡ some (some (Some x))) × fact key x
  pub each : (i : ℕ) (v : K) → get_elem? s.views i ≡ some v → v ≡ key

module _ {T K : Type 0} where
  abbrev pub arrived : Step (Option T) → Me (Option T) K → ℕ → Me (Option T) K → Type 0
  arrived st m found m' = m' ≡ m

  -- it has the value from now on, if it was there
  abbrev pub taken : (K → T → Type 0) → Step (Option T) → Me (Option T) K → ℕ → Me (Option T) K → Type 0
  taken fact st m found m' = (found ≡ 0 → (x : T) × (m' ≡ (m.0, (0, Some x) ∷ m.1)) × fact m.0 x) × (found ≢ 0 → m' ≡ m)

  abbrev pub given : Step (Option T) → Me (Option T) K → ℕ → Me (Option T) K → Type 0
  given st m found m' = m' ≡ (m.0, rest m.1)

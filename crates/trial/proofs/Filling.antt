-- Places that a scan fills.
use Rattle.std.proofs.Common.{◌≡◌, ℕ, ◌<◌, ◌≤◌, zero, suc, arith, List, [], ◌∷◌, ◌++◌, length, set, Result, Ok, Err, refl, ap}
use Rattle.std.specs.Prelude.{IfOk}
use Rattle.congee.specs.protocol.Scans.{written}

module _ {V : Type 0} where
  -- a pair is written into a place that is there by setting it
  pub written_within : (places : List (ℕ × V)) (place : ℕ) (p : ℕ × V) → place < length places → set places place p ≡ written places place p
  written_within [] place p l = absurd (omega (arith, l))
  written_within (x ∷ places) zero p l = refl
  written_within (x ∷ places) (suc place) p l = ap (λ t. x ∷ t) (written_within places place p (omega (arith, l)))

  -- a pair is written past the last place by putting it behind
  pub written_past : (places : List (ℕ × V)) (place : ℕ) (p : ℕ × V) → length places ≤ place → places ++ p ∷ [] ≡ written places place p
  written_past [] place p l = refl
  written_past (x ∷ places) zero p l = absurd (omega (arith, l))
  written_past (x ∷ places) (suc place) p l = ap (λ t. x ∷ t) (written_past places place p (omega (arith, l)))

-- what follows from a call's promise
pub if_ok : {A E : Type 0} (P Q : A → Type 0) (r : Result A E) → ((a : A) → P a → Q a) → IfOk r P → IfOk r Q
if_ok P Q (Ok a) f h = f a h
if_ok P Q (Err e) f h = tt

-- A child whose second word begins otherwise than a key.
use Rattle.std.proofs.Common.{◌≡◌, ◌≢◌, ℕ, ◌+◌, ◌-◌, ◌*◌, ◌/◌, ◌^◌, ◌<◌, Bool, true, false, refl, ap, ◌∙◌, arith, bit_xor, shr-shr}
use Rattle.std.proofs.lemmas.Bool.{eqb-true}
use Rattle.std.proofs.lemmas.Nat.{xor_shr}
use Rattle.std.specs.Int.Bits.{xor_self}
use Rattle.optimistic.specs.Layout.{tag_of, level_of, where_of}
use Rattle.optimistic.specs.tree.Levels.{goes_on}
use Rattle.optimistic.proofs.lemmas.forms.Prefixes.{where_head}
use Rattle.optimistic.proofs.lemmas.tree.Reading.{goes_where}

-- a child whose second word begins otherwise than a key doesn't go on to it
pub apart_ends : (f x key l : ℕ) → 0 < tag_of f → tag_of f < 9 → l ≡ level_of f → bit_xor x key / 2 ^ 1 / 2 ^ (63 - 8 * l) ≢ 0 → goes_on f x key ≡ false
apart_ends f x key l some low is apart = last (goes_on f x key) (λ on. apart (shr-shr (bit_xor x key) 1 (63 - 8 * l) ∙ (ap (λ (z : ℕ). bit_xor x key / 2 ^ z) bits ∙ same on)))
  where
    k : ℕ
    k = 64 - 8 * level_of f

    bits : 1 + (63 - 8 * l) ≡ k
    bits = omega (arith, is)

    begins : goes_on f x key ≡ true → x / 2 ^ k ≡ key / 2 ^ k
    begins on = ap (λ (z : ℕ). z / 2 ^ k) (eqb-true x (where_of (tag_of f) (level_of f) key) (goes_where f x key some low ∙ on)) ∙ where_head (tag_of f) (level_of f) key (omega arith) (omega arith)

    same : goes_on f x key ≡ true → bit_xor x key / 2 ^ k ≡ 0
    same on = xor_shr x key k ∙ (ap (λ (z : ℕ). bit_xor z (key / 2 ^ k)) (begins on) ∙ xor_self (key / 2 ^ k))

    last : (b : Bool) → (b ≡ true → ⊥) → b ≡ false
    last false h = refl
    last true h = absurd (h refl)

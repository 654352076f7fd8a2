-- Bytes at which a node has no child.
use Rattle.std.proofs.Common.{◌≡◌, ◌≢◌, ℕ, zero, suc, [], ◌∷◌, ◌+◌, ◌*◌, ◌/◌, ◌%◌, ◌<◌, ◌≤◌, Bool, true, false, arith, ap, refl, sym, ◌∙◌, inl, inr, if◌then◌else◌, List, get_or, length}
use Rattle.std.specs.Prelude.{is_some}
use Rattle.std.specs.FinMap as map
use Rattle.std.specs.Int.{bit_at}
use Rattle.optimistic.specs.Layout.{room, leaf_of}
use Rattle.optimistic.specs.forms.Bytes.{byte_of, key_of}
use Rattle.optimistic.specs.forms.Children.{is_inner, byte_in, mask_of, taken_in, firsts, first_of, second_of, put_first, IsForm}
use Rattle.optimistic.specs.forms.Gaps.{IsGap, HasOnly, HasWords}
use Rattle.optimistic.specs.forms.Wide.{bit_in, HasPlace}
use Rattle.optimistic.proofs.lemmas.drain.Leasts.{none_at}
use Rattle.optimistic.proofs.lemmas.forms.ChildLemmas.{either, first_inner, first_values, second_is}
use Rattle.optimistic.proofs.lemmas.forms.FormLemmas.{values_form, wide_finds}
use Rattle.optimistic.proofs.lemmas.forms.PlaceLemmas.{byte_narrow, taken_narrow}

line_of : (i r n m : ℕ) → i < r → r ≤ 8 * n → m ≡ n → i / 8 < m
line_of i r n m l few long = omega arith

module _ (form : ℕ) (w : ℕ → ℕ) (is : IsForm form w) where
  -- a bit is set for each byte that a taken place has
  only_bits : (key : ℕ → ℕ) (mask : ℕ) (masks : List ℕ) → ((i : ℕ) → i < room form → byte_in form w i ≡ key i) → ((i : ℕ) → i < room form → taken_in form w i ≡ bit_at mask i)
      → ((b : ℕ) → b < 256 → HasPlace key (bit_at mask) b → bit_in masks b ≡ 1) → HasOnly form w masks
  only_bits key mask masks bytes takes all k b low absent = none_at form w is k b (λ i l taken e.
      let there : bit_in masks b ≡ 1 = all b low record { place = i; taken_there = sym (takes i l) ∙ taken; byte = sym (bytes i l) ∙ e } in
      absurd (omega (arith, there, absent)))

  -- the same of the words that have a node's bytes, and its mask
  pub only_narrow : (words masks : List ℕ) (mask n : ℕ) → room form ≢ 256 → room form ≤ 8 * n → length words ≡ n → HasWords words w → mask_of form w ≡ mask
      → ((b : ℕ) → b < 256 → HasPlace (key_of words) (bit_at mask) b → bit_in masks b ≡ 1) → HasOnly form w masks
  only_narrow words masks mask n narrow few long has same all = only_bits (key_of words) mask masks
      (λ i l. byte_narrow form w i narrow ∙ ap (λ (z : ℕ). byte_of z (i % 8)) (has (i / 8) (line_of i (room form) n (length words) l few long)))
      (λ i l. taken_narrow form w i narrow ∙ ap (λ (z : ℕ). bit_at z i) same)
      all

-- the bits of a node of 256 values
pub only_values : (w : ℕ → ℕ) (masks : List ℕ) → length masks ≡ 4 → HasWords masks w → HasOnly 8 w masks
only_values w masks long has k b low absent = none_at 8 w (values_form w) k b (λ i l taken (e : i ≡ b).
    let word : w (2 + i / 64) ≡ get_or masks (i / 64) 0 = has (i / 64) (omega (arith, l, long)) in
    let there : bit_in masks i ≡ 1 = ap (λ (z : ℕ). bit_at z (i % 64)) (sym word) ∙ taken in
    let none : bit_in masks i ≡ 0 = ap (bit_in masks) e ∙ absent in
    absurd (omega (arith, there, none)))

-- bytes whose bits aren't set
pub only_gap : (form : ℕ) (w : ℕ → ℕ) (masks : List ℕ) (from to : ℕ) → HasOnly form w masks → to ≤ 256 → ((k : ℕ) → from ≤ k → k < to → bit_in masks k ≡ 0) → IsGap form w from to
only_gap form w masks from to only high none k b above below = only k b (omega arith) (none b above below)

-- the children of a node of 256
pub gap_wide : (w : ℕ → ℕ) (from to : ℕ) → to ≤ 256 → ((b : ℕ) → from ≤ b → b < to → w (8 + 2 * b) ≡ 0) → IsGap 4 w from to
gap_wide w from to high none k b above below = (wide_finds w b (omega arith)).first k ∙ none b above below

-- A child at a byte of one key is one at that byte of each
module _ (form : ℕ) (w : ℕ → ℕ) (key b : ℕ) where
  pub first_none_each : first_of form w key b ≡ 0 → (k : ℕ) → first_of form w k b ≡ 0
  first_none_each e k = elim (either (is_inner form)) [
    | inl i ↦ first_inner form w k b i ∙ sym (first_inner form w key b i) ∙ e
    | inr v ↦ first_values form w k b v ∙ none (is_some (map.get (firsts form w) b)) (sym (first_values form w key b v) ∙ e)
  ]
    where
      none : (t : Bool) → (if t then leaf_of key else 0) ≡ 0 → (if t then leaf_of k else 0) ≡ 0
      none true e = let z : leaf_of key ≡ 0 = e in absurd (omega (arith, z))
      none false e = refl

  pub first_each : (x : ℕ) → first_of form w key b ≡ x → x ≢ 0 → (k : ℕ) → first_of form w k b ≡ put_first form x k
  first_each x is some k = elim (either (is_inner form)) [
    | inl i ↦ first_inner form w k b i ∙ sym (first_inner form w key b i) ∙ is ∙ sym (ap (λ (c : Bool). if c then x else leaf_of k) i)
    | inr v ↦ first_values form w k b v ∙ there (is_some (map.get (firsts form w) b)) (sym (first_values form w key b v) ∙ is) ∙ sym (ap (λ (c : Bool). if c then x else leaf_of k) v)
  ]
    where
      there : (t : Bool) → (if t then leaf_of key else 0) ≡ x → (if t then leaf_of k else 0) ≡ leaf_of k
      there true e = refl
      there false e = absurd (some (sym e))

  pub second_each : (x : ℕ) → second_of form w key b ≡ x → (k : ℕ) → second_of form w k b ≡ x
  second_each x is k = second_is form w k b ∙ sym (second_is form w key b) ∙ is

-- words that were read one by one
pub has_one : (w : ℕ → ℕ) (a : ℕ) → w 2 ≡ a → HasWords (a ∷ []) w
has_one w a p2 zero l = p2
has_one w a p2 (suc i) l = absurd (omega arith)

pub has_two : (w : ℕ → ℕ) (a b : ℕ) → w 2 ≡ a → w 3 ≡ b → HasWords (a ∷ b ∷ []) w
has_two w a b p2 p3 zero l = p2
has_two w a b p2 p3 (suc zero) l = p3
has_two w a b p2 p3 (suc (suc i)) l = absurd (omega arith)

pub has_four : (w : ℕ → ℕ) (a b c d : ℕ) → w 2 ≡ a → w 3 ≡ b → w 4 ≡ c → w 5 ≡ d → HasWords (a ∷ b ∷ c ∷ d ∷ []) w
has_four w a b c d p2 p3 p4 p5 zero l = p2
has_four w a b c d p2 p3 p4 p5 (suc zero) l = p3
has_four w a b c d p2 p3 p4 p5 (suc (suc zero)) l = p4
has_four w a b c d p2 p3 p4 p5 (suc (suc (suc zero))) l = p5
has_four w a b c d p2 p3 p4 p5 (suc (suc (suc (suc i)))) l = absurd (omega arith)

pub has_six : (w : ℕ → ℕ) (a b c d e f : ℕ) → w 2 ≡ a → w 3 ≡ b → w 4 ≡ c → w 5 ≡ d → w 6 ≡ e → w 7 ≡ f → HasWords (a ∷ b ∷ c ∷ d ∷ e ∷ f ∷ []) w
has_six w a b c d e f p2 p3 p4 p5 p6 p7 zero l = p2
has_six w a b c d e f p2 p3 p4 p5 p6 p7 (suc zero) l = p3
has_six w a b c d e f p2 p3 p4 p5 p6 p7 (suc (suc zero)) l = p4
has_six w a b c d e f p2 p3 p4 p5 p6 p7 (suc (suc (suc zero))) l = p5
has_six w a b c d e f p2 p3 p4 p5 p6 p7 (suc (suc (suc (suc zero)))) l = p6
has_six w a b c d e f p2 p3 p4 p5 p6 p7 (suc (suc (suc (suc (suc zero))))) l = p7
has_six w a b c d e f p2 p3 p4 p5 p6 p7 (suc (suc (suc (suc (suc (suc i)))))) l = absurd (omega arith)

-- Children by byte beside a mask.
use Rattle.std.proofs.Common.{◌≡◌, ◌≢◌, ℕ, zero, suc, ◌<◌, ◌≤◌, ◌+◌, ◌-◌, ◌/◌, ◌%◌, eqb, cond, List, [], ◌∷◌, length, get_or, set, replicate, Option, None, Some, IsSome, refl, inl, inr, sym, ap, ◌∙◌, arith}
use Rattle.std.proofs.lemmas.Bool.Decides.{nat_tests}
use Rattle.std.proofs.lemmas.Bool.{cases_lt, cases_eq}
use Rattle.std.proofs.lemmas.List.{get_or_past, get_or-set_same, get_or-set_other, length-set}
use Rattle.std.proofs.lemmas.Nat.Bits.{bit_at-zero}
use Rattle.std.specs.Int.{bit_at}
use Rattle.std.specs.Ordering.{nat_cmp}
use Rattle.std.specs.FinMap as map
use Rattle.congee.specs.forms.Bytes.{IsFirst}
use Rattle.congee.specs.forms.Mask.{bit_of, SetAt, masked, masked_map, IsMasked}
use Rattle.congee.proofs.lemmas.forms.MapLemmas.{len_new, len_again, len_less, some_len}
use Rattle.congee.proofs.lemmas.forms.ByteLemmas.{get_by, len_by, within_by, empty_by, insert_by, remove_by}
use Rattle.congee.proofs.lemmas.forms.IndexLemmas.{by_byte}

module _ {X : Type 0} where
  masked_at : (mask : List ℕ) (q b i : ℕ) (xs : List X) (d : X) → i < length xs → q ≡ b + i → get_or (masked mask b xs) i None ≡ cond (eqb (bit_of mask q) 1) (Some (get_or xs i d)) None
  masked_at mask q b i [] d l e = absurd (omega arith)
  masked_at mask q b zero (x ∷ xs) d l e = let same : b ≡ q = omega arith in ap (λ n. cond (eqb (bit_of mask n) 1) (Some x) None) same
  masked_at mask q b (suc i) (x ∷ xs) d l e = masked_at mask q (b + 1) i xs d (omega arith) (omega arith)

  length_masked : (mask : List ℕ) (b : ℕ) (xs : List X) → length (masked mask b xs) ≡ length xs
  length_masked mask b [] = refl
  length_masked mask b (x ∷ xs) = ap suc (length_masked mask (b + 1) xs)

  kept : (n : ℕ) (o : Option X) → n ≡ 1 → cond (eqb n 1) o None ≡ o
  kept n o e = grind (arith, nat_tests)

  gone : (n : ℕ) (o : Option X) → n ≢ 1 → cond (eqb n 1) o None ≡ None
  gone n o e = grind (arith, nat_tests)

  blank_at : (mask : List ℕ) (q b i : ℕ) (xs : List X) → q ≡ b + i → bit_of mask q ≢ 1 → get_or (masked mask b xs) i None ≡ None
  blank_at mask q b i [] e n = refl
  blank_at mask q b zero (x ∷ xs) e n = let same : b ≡ q = omega arith in ap (λ k. cond (eqb (bit_of mask k) 1) (Some x) None) same ∙ gone (bit_of mask q) (Some x) n
  blank_at mask q b (suc i) (x ∷ xs) e n = blank_at mask q (b + 1) i xs (omega arith) n

module _ {X : Type 0} {count : ℕ} {mask : List ℕ} {xs : List X} (ok : IsMasked count mask xs) where
  -- what has a child is a byte
  pub is_byte : (b : ℕ) → IsSome (map.get (masked_map mask xs) b) → b < 256
  is_byte b s = omega (arith, within_by (masked mask 0 xs) b s, length_masked mask 0 xs, ok.places)

  -- there are 256 children at most
  pub count_fits : count ≤ 256
  count_fits = omega (arith, len_by (masked mask 0 xs), length_masked mask 0 xs, ok.places, ok.counted)

  get_is : (b : ℕ) (d : X) → b < 256 → map.get (masked_map mask xs) b ≡ cond (eqb (bit_of mask b) 1) (Some (get_or xs b d)) None
  get_is b d l = get_by (masked mask 0 xs) b ∙ masked_at mask b 0 b xs d (omega (arith, ok.places)) (omega arith)

  -- a byte whose bit is set has the child at its place
  pub get_there : (b : ℕ) (d : X) → b < 256 → bit_of mask b ≡ 1 → map.get (masked_map mask xs) b ≡ Some (get_or xs b d)
  get_there b d l e = get_is b d l ∙ kept (bit_of mask b) _ e

  -- a byte whose bit isn't set has no child
  pub get_none : (b : ℕ) → bit_of mask b ≢ 1 → map.get (masked_map mask xs) b ≡ None
  get_none b n = get_by (masked mask 0 xs) b ∙ blank_at mask b 0 b xs (omega arith) n

  -- the bit of a byte with a child is set
  pub some_bit : (b : ℕ) → IsSome (map.get (masked_map mask xs) b) → bit_of mask b ≡ 1
  some_bit b s = elim (cases_eq (bit_of mask b) 1) [ inl e ↦ e | inr n ↦ let none = get_none b n in absurd (cc (s, none)) ]

  -- the first byte from one on whose bit is set is the first with a child
  pub is_first : (from b : ℕ) (d : X) → b < 256 → from ≤ b → bit_of mask b ≡ 1 → ((q : ℕ) → from ≤ q → q < b → bit_of mask q ≡ 0) → IsFirst (masked_map mask xs) from b (get_or xs b d)
  is_first from b d l h e before = record { past = h; here = get_there b d l e; before = λ q g m. get_none q (omega (arith, before q g m)) }

  -- where no bit is set from a byte on, no byte there has a child
  pub none_from : (from : ℕ) → ((q : ℕ) → from ≤ q → q < 256 → bit_of mask q ≡ 0) → (q : ℕ) → from ≤ q → map.get (masked_map mask xs) q ≡ None
  none_from from h q g = elim (cases_lt q 256) [
    | inl l ↦ get_none q (omega (arith, h q g l))
    | inr l ↦ get_by (masked mask 0 xs) q ∙ get_or_past (masked mask 0 xs) q None (omega (arith, length_masked mask 0 xs, ok.places))
  ]

  -- other bits and children at one byte alone
  points : (ms : List ℕ) (ys : List X) (b : ℕ) (o : Option X) (d : X) → length ys ≡ 256 → b < 256 → cond (eqb (bit_of ms b) 1) (Some (get_or ys b d)) None ≡ o
      → ((q : ℕ) → q < 256 → q ≢ b → (bit_of ms q ≡ bit_of mask q) × (get_or ys q d ≡ get_or xs q d))
      → (q : ℕ) → get_or (masked ms 0 ys) q None ≡ cond (eqb q b) o (get_or (masked mask 0 xs) q None)
  points ms ys b o d len l same other q = elim (cases_lt q 256) [
    | inl h ↦ by_byte q b _ o _
        (λ e. masked_at ms q 0 q ys d (omega (arith, len)) (omega arith) ∙ ap (λ k. cond (eqb (bit_of ms k) 1) (Some (get_or ys k d)) None) e ∙ same)
        (λ n. let both = other q h n in
        masked_at ms q 0 q ys d (omega (arith, len)) (omega arith) ∙ rw (both.0, both.1) (sym (masked_at mask q 0 q xs d (omega (arith, ok.places)) (omega arith))))
    | inr h ↦ by_byte q b _ o _
        (λ e. absurd (omega (arith, e)))
        (λ n. get_or_past (masked ms 0 ys) q None (omega (arith, length_masked ms 0 ys, len)) ∙ sym (get_or_past (masked mask 0 xs) q None (omega (arith, length_masked mask 0 xs, ok.places))))
  ]

  -- a child at a byte whose bit is set with it
  pub inserted_map : (b : ℕ) (c : X) (ms : List ℕ) → b < 256 → map.get (masked_map mask xs) b ≡ None → SetAt mask b 1 ms
      → IsMasked (count + 1) ms (set xs b c) × (masked_map ms (set xs b c) ≡ map.insert (masked_map mask xs) b c)
  inserted_map b c ms l none at =
      let e : masked_map ms (set xs b c) ≡ map.insert (masked_map mask xs) b c = insert_by (masked mask 0 xs) (masked ms 0 (set xs b c)) b c (points ms (set xs b c) b (Some c) c (length-set xs b c ∙ ok.places) l
      (kept (bit_of ms b) _ at.here ∙ ap Some (get_or-set_same xs b c c (omega (arith, ok.places))))
      (λ q h n. (at.others q h n, get_or-set_other xs b q c c n))) in
      (record { size = at.size ∙ ok.size; places = length-set xs b c ∙ ok.places; counted = ap map.len e ∙ len_new (masked_map mask xs) b c none ∙ ap (λ k. k + 1) ok.counted }, e)

  -- another child at a byte whose bit stands
  pub changed_map : (b : ℕ) (c : X) → b < 256 → IsSome (map.get (masked_map mask xs) b)
      → IsMasked count mask (set xs b c) × (masked_map mask (set xs b c) ≡ map.insert (masked_map mask xs) b c)
  changed_map b c l s =
      let e : masked_map mask (set xs b c) ≡ map.insert (masked_map mask xs) b c = insert_by (masked mask 0 xs) (masked mask 0 (set xs b c)) b c (points mask (set xs b c) b (Some c) c (length-set xs b c ∙ ok.places) l
      (kept (bit_of mask b) _ (some_bit b s) ∙ ap Some (get_or-set_same xs b c c (omega (arith, ok.places))))
      (λ q h n. (refl, get_or-set_other xs b q c c n))) in
      (record { size = ok.size; places = length-set xs b c ∙ ok.places; counted = ap map.len e ∙ len_again (masked_map mask xs) b c s ∙ ok.counted }, e)

  -- children of which a byte has one are counted as one at least
  pub some_count : (b : ℕ) → IsSome (map.get (masked_map mask xs) b) → 0 < count
  some_count b s = omega (arith, some_len (masked_map mask xs) b s, ok.counted)

  -- a byte whose bit is cleared, and a blank put there
  pub removed_map : (b : ℕ) (c : X) (ms : List ℕ) → b < 256 → IsSome (map.get (masked_map mask xs) b) → SetAt mask b 0 ms
      → IsMasked (count - 1) ms (set xs b c) × (masked_map ms (set xs b c) ≡ map.remove (masked_map mask xs) b)
  removed_map b c ms l s at =
      let e : masked_map ms (set xs b c) ≡ map.remove (masked_map mask xs) b = remove_by (masked mask 0 xs) (masked ms 0 (set xs b c)) b (points ms (set xs b c) b None c (length-set xs b c ∙ ok.places) l
      (gone (bit_of ms b) _ (omega (arith, at.here)))
      (λ q h n. (at.others q h n, get_or-set_other xs b q c c n))) in
      (record { size = at.size ∙ ok.size; places = length-set xs b c ∙ ok.places; counted = ap map.len e ∙ omega (arith, len_less (masked_map mask xs) b s, ok.counted) }, e)

module _ {X : Type 0} where
  -- a mask without a bit set, beside 256 places, has no children
  pub no_children : (mask : List ℕ) (xs : List X) → length mask ≡ 32 → ((b : ℕ) → bit_of mask b ≡ 0) → length xs ≡ 256 → IsMasked 0 mask xs × (masked_map mask xs ≡ map.empty)
  no_children mask xs size none places =
      let e : masked_map mask xs ≡ map.empty = empty_by (masked mask 0 xs) (λ q. blank_at mask q 0 q xs (omega arith) (omega (arith, none q))) in
      (record { size = size; places = places; counted = ap map.len e ∙ map.len-empty nat_cmp X }, e)

-- a mask in which no bit is set
abbrev pub no_mask : List ℕ
no_mask = replicate 32 0

-- no byte's bit is set in it
pub no_bits : (b : ℕ) → bit_of no_mask b ≡ 0
no_bits b = ap (λ m. bit_at m (b % 8)) (zero_at 32 (b / 8)) ∙ bit_at-zero (b % 8)
  where
    zero_at : (n i : ℕ) → ◌≡◌ {A = ℕ} (get_or (replicate n 0) i 0) 0
    zero_at zero i = refl
    zero_at (suc n) zero = refl
    zero_at (suc n) (suc i) = zero_at n i

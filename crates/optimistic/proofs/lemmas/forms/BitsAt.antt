-- One bit of a mask changed.
use Rattle.std.proofs.Common.{◌≡◌, ◌≢◌, ℕ, zero, suc, ◌+◌, ◌*◌, ◌/◌, ◌%◌, ◌^◌, ◌<◌, ◌≤◌, arith, ap, sym, ◌∙◌, refl, inl, inr, bit_and, bit_or, w64, List, get_or, set, length, pow_pos, eqb, cond, None}
use lib.Count.{ones, ones_in}
use Rattle.std.proofs.lemmas.Nat.{mod-pow-add, ones_cat, mod_below}
use Rattle.std.specs.Ordering.{nat_cmp}
use Rattle.std.specs.Cmp.{nat_cmp_total}
use Rattle.std.specs.FinMap as map
use Rattle.std.proofs.lemmas.Nat.Bits.{bit_at_set_same, bit_at_set_other, bit_at_clear_same, bit_at_clear_other, bit_at_and, bit_at_above, bit_at-lt, same_from_bits_below}
use Rattle.std.proofs.lemmas.Bool.{cases_lt, cases_eq}
use Rattle.std.proofs.lemmas.List.{get_or-set_same, get_or-set_other}
use Rattle.std.specs.Int.{bit_at, bit_not}
use Rattle.optimistic.specs.forms.Bytes.{byte_of, with_at, key_of}
use Rattle.optimistic.specs.forms.Held.{IsNode, held}
use Rattle.optimistic.specs.forms.Wide.{bit_in}
use Rattle.optimistic.proofs.lemmas.forms.Trick.{bit_in_byte}
use Rattle.optimistic.proofs.lemmas.forms.Maps.{with_here, with_other, get_none, taken_step, free_step, none_step}

pub set_bit : (m p q : ℕ) → p < 64 → bit_at (bit_or m (1 * 2 ^ p % 2 ^ 64)) q ≡ with_at (bit_at m) p 1 q
set_bit m p q l = elim (cases_eq q p) [
  | inl e ↦ ap (bit_at (bit_or m (1 * 2 ^ p % 2 ^ 64))) e ∙ bit_at_set_same w64 m p l ∙ sym (ap (with_at (bit_at m) p 1) e ∙ with_here (bit_at m) p 1)
  | inr d ↦ bit_at_set_other w64 m p l q d ∙ sym (with_other (bit_at m) p 1 q d)
]

-- no bit of a 64-bit number is set from 64 on
clear_high : (m x q : ℕ) → m < 2 ^ 64 → 64 ≤ q → bit_at (bit_and m x) q ≡ bit_at m q
clear_high m x q f g = omega (arith, bit_at_and m x q, bit_at_above m 64 q f g)

pub clear_bit : (m p q : ℕ) → m < 2 ^ 64 → p < 64 → bit_at (bit_and m (bit_not w64 (1 * 2 ^ p % 2 ^ 64))) q ≡ with_at (bit_at m) p 0 q
clear_bit m p q f l = elim (cases_eq q p) [
  | inl e ↦ ap (bit_at (bit_and m (bit_not w64 (1 * 2 ^ p % 2 ^ 64)))) e ∙ bit_at_clear_same w64 m p l ∙ sym (ap (with_at (bit_at m) p 0) e ∙ with_here (bit_at m) p 0)
  | inr d ↦ elim (cases_lt q 64) [
    | inl h ↦ bit_at_clear_other w64 m p l q h d
    | inr h ↦ clear_high m (bit_not w64 (1 * 2 ^ p % 2 ^ 64)) q f h
  ] ∙ sym (with_other (bit_at m) p 0 q d)
]

-- the bytes of a list of words with another byte at a place
pub key_put : (words : List ℕ) (word w p b q : ℕ) → p / 8 < length words → get_or words (p / 8) 0 ≡ word → ((i : ℕ) → byte_of w i ≡ with_at (byte_of word) (p % 8) b i) → key_of (set words (p / 8) w) q ≡ with_at (key_of words) p b q
key_put words word w p b q l is put = elim (cases_eq (q / 8) (p / 8)) [
  | inl e ↦
      let a : key_of (set words (p / 8) w) q ≡ with_at (byte_of word) (p % 8) b (q % 8) =
      ap (λ j. byte_of (get_or (set words (p / 8) w) j 0) (q % 8)) e ∙ ap (λ v. byte_of v (q % 8)) (get_or-set_same words (p / 8) w 0 l) ∙ put (q % 8) in
      elim (cases_eq q p) [
        | inl s ↦ a ∙ ap (λ x. with_at (byte_of word) (p % 8) b (x % 8)) s ∙ with_here (byte_of word) (p % 8) b ∙ sym (ap (with_at (key_of words) p b) s ∙ with_here (key_of words) p b)
        | inr d ↦ a ∙ with_other (byte_of word) (p % 8) b (q % 8) (λ m. d (omega (arith, e, m))) ∙ sym (with_other (key_of words) p b q d ∙ ap (λ j. byte_of (get_or words j 0) (q % 8)) e ∙ ap (λ v. byte_of v (q % 8)) is)
      ]
  | inr d ↦ ap (λ v. byte_of v (q % 8)) (get_or-set_other words (p / 8) (q / 8) w 0 d) ∙ sym (with_other (key_of words) p b q (λ e. d (ap (λ x. x / 8) e)))
]

-- a byte by its bits
pub same_byte : (a b j : ℕ) → ((r : ℕ) → r < 8 → bit_at a (8 * j + r) ≡ bit_at b (8 * j + r)) → byte_of a j ≡ byte_of b j
same_byte a b j h = same_from_bits_below 8 (byte_of a j) (byte_of b j) (omega arith) (omega arith) (λ r l. sym (bit_in_byte a j r l) ∙ h r l ∙ bit_in_byte b j r l)

-- a bit by its byte
pub same_bit : (a b k : ℕ) → byte_of a (k / 8) ≡ byte_of b (k / 8) → bit_at a k ≡ bit_at b k
same_bit a b k e =
    let s : k ≡ 8 * (k / 8) + k % 8 = omega arith in
    ap (bit_at a) s ∙ bit_in_byte a (k / 8) (k % 8) (omega arith) ∙ ap (λ x. x / 2 ^ (k % 8) % 2) e ∙ sym (bit_in_byte b (k / 8) (k % 8) (omega arith)) ∙ sym (ap (bit_at b) s)

pub with_shift : (f : ℕ → ℕ) (s p x q : ℕ) → with_at f (s + p) x (s + q) ≡ with_at (λ i. f (s + i)) p x q
with_shift f s p x q = elim (cases_eq q p) [
  | inl e ↦ ap (λ y. with_at f (s + p) x (s + y)) e ∙ with_here f (s + p) x ∙ sym (ap (with_at (λ i. f (s + i)) p x) e ∙ with_here (λ i. f (s + i)) p x)
  | inr d ↦ with_other f (s + p) x (s + q) (λ e. d (omega (arith, e))) ∙ sym (with_other (λ i. f (s + i)) p x q d)
]

pub with_same : (f g : ℕ → ℕ) (p x q : ℕ) → f q ≡ g q → with_at f p x q ≡ with_at g p x q
with_same f g p x q e = ap (λ y. cond (eqb q p) x y) e

-- four places in one word
pub four_keys : (w r p x i : ℕ) → ((q : ℕ) → bit_at r q ≡ with_at (bit_at w) (32 + p) x q) → i < 4 → byte_of r i ≡ byte_of w i
four_keys w r p x i h l = same_byte r w i (λ j m. h (8 * i + j) ∙ with_other (bit_at w) (32 + p) x (8 * i + j) (omega arith))

pub four_takes : (w r p x q : ℕ) → ((q : ℕ) → bit_at r q ≡ with_at (bit_at w) (32 + p) x q) → bit_at r (32 + q) ≡ with_at (λ i. bit_at w (32 + i)) p x q
four_takes w r p x q h = h (32 + q) ∙ with_shift (bit_at w) 32 p x q

pub four_bits : (w r p b q x : ℕ) → p < 4 → ((i : ℕ) → byte_of r i ≡ with_at (byte_of w) p b i) → with_at (λ i. bit_at r (32 + i)) p x q ≡ with_at (λ i. bit_at w (32 + i)) p x q
four_bits w r p b q x l h =
    let d : (32 + q) / 8 ≢ p = λ e. absurd (omega (arith, e, l)) in
    let s : byte_of r ((32 + q) / 8) ≡ byte_of w ((32 + q) / 8) = h ((32 + q) / 8) ∙ with_other (byte_of w) p b ((32 + q) / 8) d in
    with_same (λ i. bit_at r (32 + i)) (λ i. bit_at w (32 + i)) p x q (same_bit r w (32 + q) s)

ones_0 : ones 0 ≡ 0
unfolding ones ones_in
ones_0 = refl

ones_1 : ones 1 ≡ 1
unfolding ones ones_in
ones_1 = refl

mod_one : (m : ℕ) → m % 1 ≡ 0
mod_one m = omega arith

-- how many places are taken
len_step : (m : map.FinMap nat_cmp ℕ) (k x : ℕ) → map.get m k ≡ None → map.len (map.insert m k x) ≡ map.len m + 1
len_step m k x e = map.len-insert nat_cmp_total m k x ∙ rw e refl

bit_count : (m k : ℕ) → ones (m % 2 ^ suc k) ≡ ones (bit_at m k) + ones (m % 2 ^ k)
bit_count m k =
    let e : suc k ≡ 1 + k = omega arith in
    ap (λ x. ones (m % 2 ^ x)) e ∙ ap ones (mod-pow-add m 1 k) ∙ ones_cat k (bit_at m k) (m % 2 ^ k) (mod_below m (2 ^ k) (pow_pos k))

pub len_held : (m n : ℕ) (key word : ℕ → ℕ) → IsNode key (bit_at m) n → map.len (held key (bit_at m) word n) ≡ ones (m % 2 ^ n)
len_held m zero key word node = ap map.len (none_step key (bit_at m) word) ∙ map.len-empty nat_cmp ℕ ∙ sym (ap ones (mod_one m) ∙ ones_0)
len_held m (suc k) key word node =
    let before = len_held m k key word (λ a b c d e. node a b c (omega arith) e) in
    elim (cases_eq (bit_at m k) 1) [
      | inl e ↦
          let none = get_none key (bit_at m) word k (key k) (λ i l t. node k i l (omega arith) e) in
          ap map.len (taken_step key (bit_at m) word k e) ∙ len_step _ (key k) (word k) none ∙ sym (bit_count m k ∙ ap (λ x. ones x + ones (m % 2 ^ k)) e ∙ omega (arith, before, ones_1))
      | inr d ↦
          let z : bit_at m k ≡ 0 = omega (arith, d, bit_at-lt m k) in
          ap map.len (free_step key (bit_at m) word k d) ∙ before ∙ sym (bit_count m k ∙ ap (λ x. ones x + ones (m % 2 ^ k)) z ∙ omega (arith, ones_0))
    ]

-- the bits of a list of words with another bit at a place
pub bit_put : (masks : List ℕ) (mask r p x q : ℕ) → p / 64 < length masks → get_or masks (p / 64) 0 ≡ mask → ((i : ℕ) → bit_at r i ≡ with_at (bit_at mask) (p % 64) x i) → bit_in (set masks (p / 64) r) q ≡ with_at (bit_in masks) p x q
bit_put masks mask r p x q l is put = elim (cases_eq (q / 64) (p / 64)) [
  | inl e ↦
      let a : bit_in (set masks (p / 64) r) q ≡ with_at (bit_at mask) (p % 64) x (q % 64) =
      ap (λ j. bit_at (get_or (set masks (p / 64) r) j 0) (q % 64)) e ∙ ap (λ v. bit_at v (q % 64)) (get_or-set_same masks (p / 64) r 0 l) ∙ put (q % 64) in
      elim (cases_eq q p) [
        | inl s ↦ a ∙ ap (λ y. with_at (bit_at mask) (p % 64) x (y % 64)) s ∙ with_here (bit_at mask) (p % 64) x ∙ sym (ap (with_at (bit_in masks) p x) s ∙ with_here (bit_in masks) p x)
        | inr d ↦ a ∙ with_other (bit_at mask) (p % 64) x (q % 64) (λ m. d (omega (arith, e, m))) ∙ sym (with_other (bit_in masks) p x q d ∙ ap (λ j. bit_at (get_or masks j 0) (q % 64)) e ∙ ap (λ v. bit_at v (q % 64)) is)
      ]
  | inr d ↦ ap (λ v. bit_at v (q % 64)) (get_or-set_other masks (p / 64) (q / 64) r 0 d) ∙ sym (with_other (bit_in masks) p x q (λ e. d (ap (λ y. y / 64) e)))
]

-- all places are taken
pub all_ones : (m n : ℕ) → ((i : ℕ) → i < n → bit_at m i ≡ 1) → ones (m % 2 ^ n) ≡ n
all_ones m zero all = ap ones (mod_one m) ∙ ones_0
all_ones m (suc k) all = bit_count m k ∙ ap (λ x. ones x + ones (m % 2 ^ k)) (all k (omega arith)) ∙ omega (arith, ones_1, all_ones m k (λ i l. all i (omega arith)))

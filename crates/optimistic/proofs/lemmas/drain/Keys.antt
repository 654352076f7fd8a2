-- Keys that share their first bytes.
use Rattle.std.proofs.Common.{◌≡◌, ◌≢◌, ℕ, ◌+◌, ◌-◌, ◌*◌, ◌/◌, ◌%◌, ◌^◌, ◌<◌, ◌≤◌, ◌⊎◌, Bool, false, arith, ap, sym, ◌∙◌, subst, inl, inr, eq-eqb, ne_eqb, if◌then◌else◌, bit_or, pow_pos, pow-add, shr-shr, Option, None, Some}
use Rattle.std.proofs.Math.Nat.{div-mul-le_self}
use Rattle.std.proofs.lemmas.Bool.{eqb-true}
use Rattle.std.proofs.lemmas.Nat.{or_shifted, one_shl, shl_whole, shl-shr, shr_below, div_below, le-div, mod_below, mul-le, div-add-mod'}
use Rattle.optimistic.specs.Layout.{prefix_of, where_of, byte_at, tag_of, level_of, leaf_of}
use Rattle.optimistic.specs.tree.Levels.{goes_on, pair_value}
use Rattle.optimistic.specs.tree.Nexts.{IsSilent}
use Rattle.optimistic.proofs.lemmas.forms.Levels.{key_step, where_low}
use Rattle.optimistic.proofs.lemmas.tree.Nodes.{clash, not_true}
use Rattle.optimistic.proofs.lemmas.tree.Reading.{goes_where, tag_ends, none_ends, none_value}

-- a key down to the byte that a level tells apart
pub down_to : (key level : ℕ) → level < 8 → key / 2 ^ (56 - 8 * level) ≡ prefix_of key level * 256 + byte_at key level
down_to key level l =
    let e : 56 - 8 * level ≡ 64 - 8 * (level + 1) = omega arith in
    ap (λ (x : ℕ). key / 2 ^ x) e ∙ key_step key level l

with_byte : (key level byte : ℕ) → level < 8 → key / 2 ^ (56 - 8 * level) / 256 * 256 + byte ≡ prefix_of key level * 256 + byte
with_byte key level byte l =
    let e : 56 - 8 * level + 8 ≡ 64 - 8 * level = omega arith in
    ap (λ (x : ℕ). x * 256 + byte) (shr-shr key (56 - 8 * level) 8 ∙ ap (λ (x : ℕ). key / 2 ^ x) e)

one_more : (x p : ℕ) → 0 < p → x * p + (p - 1) + 1 ≡ (x + 1) * p
one_more x p l = omega arith

prefix_small : (key level : ℕ) → level < 8 → key < 2 ^ 64 → prefix_of key level < 2 ^ (8 * level)
prefix_small key level l small =
    let e : 64 ≡ 8 * level + (64 - 8 * level) = omega arith in
    shr_below key (8 * level) (64 - 8 * level) (subst (λ (x : ℕ). key < 2 ^ x) e small)

byte_fits : (key level byte : ℕ) → level < 8 → key < 2 ^ 64 → byte < 256 → prefix_of key level * 256 + byte < 2 ^ (8 * level + 8)
byte_fits key level byte l small b = omega (arith, prefix_small key level l small, pow-add 2 (8 * level) 8)

pub last_is : (key level byte : ℕ) → level < 8 → key < 2 ^ 64 → byte < 256
    → bit_or ((key / 2 ^ (56 - 8 * level) / 256 * 256 + byte) * 2 ^ (56 - 8 * level) % 18446744073709551616) (1 * 2 ^ (56 - 8 * level) % 18446744073709551616 - 1) + 1
    ≡ (prefix_of key level * 256 + byte + 1) * 2 ^ (56 - 8 * level)
last_is key level byte l small b =
    let s = 56 - 8 * level in
    let x = prefix_of key level * 256 + byte in
    let whole : (x * 2 ^ s) % 2 ^ 64 ≡ x * 2 ^ s = shl_whole x (8 * level + 8) s 64 (byte_fits key level byte l small b) (omega arith) in
    let one : (1 * 2 ^ s) % 2 ^ 64 ≡ 2 ^ s = one_shl s 64 (omega arith) in
    let both : bit_or (x * 2 ^ s) (2 ^ s - 1) ≡ x * 2 ^ s + (2 ^ s - 1) = or_shifted x s (2 ^ s - 1) (omega (arith, pow_pos s)) in
    ap (λ (z : ℕ). bit_or (z * 2 ^ s % 18446744073709551616) (1 * 2 ^ s % 18446744073709551616 - 1) + 1) (with_byte key level byte l)
    ∙ ap (λ (z : ℕ). bit_or z (1 * 2 ^ s % 18446744073709551616 - 1) + 1) whole ∙ ap (λ (z : ℕ). bit_or (x * 2 ^ s) (z - 1) + 1) one ∙ ap (λ (z : ℕ). z + 1) both
    ∙ one_more x (2 ^ s) (pow_pos s)

-- the keys from one on up to the last that has its first bytes and then no higher one than this
module _ (key level byte last : ℕ) (l : level < 8) (b : byte < 256) (end : last + 1 ≡ (prefix_of key level * 256 + byte + 1) * 2 ^ (56 - 8 * level)) where
  pub between : (k : ℕ) → key ≤ k → k ≤ last → (prefix_of k level ≡ prefix_of key level) × (byte_at key level ≤ byte_at k level) × (byte_at k level ≤ byte)
  between k above below =
      let s = 56 - 8 * level in
      let p : 0 < 2 ^ s = pow_pos s in
      let before : k < (prefix_of key level * 256 + byte + 1) * 2 ^ s = subst (λ (x : ℕ). k < x) end (omega arith) in
      let up : k / 2 ^ s < prefix_of key level * 256 + byte + 1 = div_below k (2 ^ s) (prefix_of key level * 256 + byte + 1) p before in
      let least : key / 2 ^ s * 2 ^ s ≤ key = div-mul-le_self key (2 ^ s) in
      let down : key / 2 ^ s ≤ k / 2 ^ s = le-div (key / 2 ^ s) k (2 ^ s) p (omega (arith, least)) in
      narrow (prefix_of key level) (prefix_of k level) (byte_at key level) (byte_at k level) byte (omega arith) b
      (subst (λ (x : ℕ). x < prefix_of key level * 256 + byte + 1) (down_to k level l) up)
      (subst (λ (x : ℕ). prefix_of key level * 256 + byte_at key level ≤ x) (down_to k level l) (subst (λ (x : ℕ). x ≤ k / 2 ^ s) (down_to key level l) down))
    where
      narrow : (p q c d byte : ℕ) → d < 256 → byte < 256 → q * 256 + d < p * 256 + byte + 1 → p * 256 + c ≤ q * 256 + d → (q ≡ p) × (c ≤ d) × (d ≤ byte)
      narrow p q c d byte m b up down = (omega arith, omega arith, omega arith)

-- the last of the keys with these first bytes, and then no higher one than this, isn't before one with a lower one
pub reaches : (key level byte last : ℕ) → level < 8 → last + 1 ≡ (prefix_of key level * 256 + byte + 1) * 2 ^ (56 - 8 * level) → byte_at key level ≤ byte → key ≤ last
reaches key level byte last l end m =
    let s = 56 - 8 * level in
    let p : 0 < 2 ^ s = pow_pos s in
    let whole : key / 2 ^ s * 2 ^ s + key % 2 ^ s ≡ key = div-add-mod' key (2 ^ s) in
    let low : key % 2 ^ s < 2 ^ s = mod_below key (2 ^ s) p in
    let most : (key / 2 ^ s + 1) * 2 ^ s ≤ (prefix_of key level * 256 + byte + 1) * 2 ^ s = mul-le (key / 2 ^ s + 1) (2 ^ s) (prefix_of key level * 256 + byte + 1) (2 ^ s) (omega (arith, down_to key level l)) (omega arith) in
    last_step key last (key / 2 ^ s) (2 ^ s) (key % 2 ^ s) whole low (subst (λ (x : ℕ). (key / 2 ^ s + 1) * 2 ^ s ≤ x) (sym end) most)
  where
    last_step : (key last q p r : ℕ) → q * p + r ≡ key → r < p → (q + 1) * p ≤ last + 1 → key ≤ last
    last_step key last q p r e m n = omega arith

-- keys with the same bytes down to a level and at it
pub near_more : (level key k : ℕ) → level < 8 → prefix_of k level ≡ prefix_of key level → byte_at k level ≡ byte_at key level → prefix_of k (level + 1) ≡ prefix_of key (level + 1)
near_more level key k l p b = key_step k level l ∙ ap (λ (x : ℕ). x * 256 + byte_at k level) p ∙ ap (λ (x : ℕ). prefix_of key level * 256 + x) b ∙ sym (key_step key level l)

pub near_less : (level key k : ℕ) → level < 8 → prefix_of k (level + 1) ≡ prefix_of key (level + 1) → (prefix_of k level ≡ prefix_of key level) × (byte_at k level ≡ byte_at key level)
near_less level key k l e = split (prefix_of k level) (prefix_of key level) (byte_at k level) (byte_at key level) (omega arith) (omega arith) (sym (key_step k level l) ∙ e ∙ key_step key level l)
  where
    split : (p q c d : ℕ) → c < 256 → d < 256 → p * 256 + c ≡ q * 256 + d → (p ≡ q) × (c ≡ d)
    split p q c d l m e = (omega arith, omega arith)

pub near_first : (level key k : ℕ) → level < 8 → prefix_of k (level + 1) ≡ prefix_of key (level + 1) → k / 2 ^ 56 ≡ key / 2 ^ 56
near_first level key k l e =
    let d : 64 - 8 * (level + 1) + 8 * level ≡ 56 = omega arith in
    let first = λ (x : ℕ). shr-shr x (64 - 8 * (level + 1)) (8 * level) ∙ ap (λ (z : ℕ). x / 2 ^ z) d in
    sym (first k) ∙ ap (λ (z : ℕ). z / 2 ^ (8 * level)) e ∙ first key

-- the keys from one on up to the last with its byte are near it
pub near_to : (key level byte last k : ℕ) → level < 8 → byte ≡ byte_at key level → last + 1 ≡ (prefix_of key level * 256 + byte + 1) * 2 ^ (56 - 8 * level) → key ≤ k → k ≤ last → prefix_of k (level + 1) ≡ prefix_of key (level + 1)
near_to key level byte last k l is end above below =
    let b : byte < 256 = omega (arith, is) in
    let t = between key level byte last l b end k above below in
    near_more level key k l t.0 (omega (arith, t.1, t.2, is))

-- The first of the keys that have a key's first bytes, and then this one
pub first_is : (key level byte : ℕ) → level < 8 → key < 2 ^ 64 → byte < 256
    → (key / 2 ^ (56 - 8 * level) / 256 * 256 + byte) * 2 ^ (56 - 8 * level) % 18446744073709551616 ≡ (prefix_of key level * 256 + byte) * 2 ^ (56 - 8 * level)
first_is key level byte l small b =
    let s = 56 - 8 * level in
    let x = prefix_of key level * 256 + byte in
    let whole : (x * 2 ^ s) % 2 ^ 64 ≡ x * 2 ^ s = shl_whole x (8 * level + 8) s 64 (byte_fits key level byte l small b) (omega arith) in
    ap (λ (z : ℕ). z * 2 ^ s % 18446744073709551616) (with_byte key level byte l) ∙ whole

module _ (key level byte first : ℕ) (l : level < 8) (b : byte < 256) (is : first ≡ (prefix_of key level * 256 + byte) * 2 ^ (56 - 8 * level)) where
  abbrev unit : ℕ
  unit = 2 ^ (56 - 8 * level)

  pub starts : (prefix_of first level ≡ prefix_of key level) × (byte_at first level ≡ byte)
  starts = split (prefix_of first level) (prefix_of key level) (byte_at first level) byte (omega arith) b
      (sym (down_to first level l) ∙ ap (λ (z : ℕ). z / unit) is ∙ shl-shr (prefix_of key level * 256 + byte) (56 - 8 * level))
    where
      split : (p q c d : ℕ) → c < 256 → d < 256 → p * 256 + c ≡ q * 256 + d → (p ≡ q) × (c ≡ d)
      split p q c d m n e = (omega arith, omega arith)

  pub precedes : byte ≤ byte_at key level → first ≤ key
  precedes m =
      let least : key / unit * unit ≤ key = div-mul-le_self key unit in
      let e = down_to key level l in
      let low : prefix_of key level * 256 + byte ≤ key / unit = subst (λ (z : ℕ). prefix_of key level * 256 + byte ≤ z) (sym e) (omega (arith, m)) in
      let most : (prefix_of key level * 256 + byte) * unit ≤ key / unit * unit = mul-le (prefix_of key level * 256 + byte) unit (key / unit) unit low (omega arith) in
      omega (arith, least, most, is)

  -- the keys from it on up to one with that byte are near that one
  pub near_back : byte ≡ byte_at key level → (k : ℕ) → first ≤ k → k ≤ key → prefix_of k (level + 1) ≡ prefix_of key (level + 1)
  near_back same k above below =
      let p : 0 < unit = pow_pos (56 - 8 * level) in
      let start : first ≡ key / unit * unit = is ∙ ap (λ (z : ℕ). (prefix_of key level * 256 + z) * unit) same ∙ ap (λ (z : ℕ). z * unit) (sym (down_to key level l)) in
      let down : key / unit ≤ k / unit = le-div (key / unit) k unit p (omega (arith, start, above)) in
      let least : k / unit * unit ≤ k = div-mul-le_self k unit in
      let up : k / unit ≤ key / unit = le-div (k / unit) key unit p (omega (arith, least, below)) in
      let e : 64 - 8 * (level + 1) ≡ 56 - 8 * level = omega arith in
      ap (λ (z : ℕ). k / 2 ^ z) e ∙ (let q : k / unit ≡ key / unit = omega (arith, up, down) in q) ∙ ap (λ (z : ℕ). key / 2 ^ z) (sym e)

-- what a child that is no node says of a key
pub pair_there : (c x key : ℕ) → c ≡ leaf_of key → pair_value c x key ≡ Some x
unfolding pair_value
pair_there c x key e = ap (λ (b : Bool). if b then Some x else None) (eq-eqb c (leaf_of key) e)

pub pair_none : (c x key : ℕ) → c ≢ leaf_of key → pair_value c x key ≡ None
unfolding pair_value
pair_none c x key d = ap (λ (b : Bool). if b then Some x else None) (ne_eqb c (leaf_of key) d)

pub no_pair : (x : ℕ) (o : Option ℕ) → o ≡ Some x → o ≡ None → ⊥
no_pair x o a b = absurd (cc)

pub silent_none : (c x key : ℕ) → c ≡ 0 → IsSilent c x key
silent_none c x key e = (ap (λ (z : ℕ). goes_on z x key) e ∙ none_ends x key, ap (λ (z : ℕ). pair_value z x key) e ∙ none_value x key)

-- A child of the words c and x that says nothing of the key `from`, and a later key
module _ (c x from k : ℕ) (later : from ≤ k) (off : goes_on c x from ≡ false) (none : pair_value c x from ≡ None) where
  -- a node covers a range of keys, from its where on
  node_off : 0 < tag_of c → tag_of c < 9 → (k < x / 256 * 256) ⊎ (x / 256 * 256 ≤ from) → goes_on c x k ≡ false
  node_off some low side = not_true (goes_on c x k) (λ on.
      let t = tag_of c in
      let l = level_of c in
      let deep : l < 8 = omega arith in
      let is : x ≡ where_of t l k = eqb-true x (where_of t l k) (goes_where c x k some low ∙ on) in
      let d = 2 ^ (64 - 8 * l) in
      let pos : 0 < d = pow_pos (64 - 8 * l) in
      let p = k / d in
      let start : x / 256 * 256 ≡ p * d = head x p d t l (is) (ap (λ (z : ℕ). z % 256) is ∙ where_low t l k deep (omega arith)) in
      let most : p * d ≤ k = div-mul-le_self k d in
      elim side [
        | inl m ↦ absurd (omega (arith, m, start, most))
        | inr m ↦
            let fewer : from / d * d ≤ from = div-mul-le_self from d in
            let up : from / d ≤ p = le-div (from / d) k d pos (omega (arith, fewer)) in
            let down : p ≤ from / d = le-div p from d pos (omega (arith, start, m)) in
            let same : p ≡ from / d = omega (arith, up, down) in
            clash (goes_on c x from) (sym (goes_where c x from some low) ∙ eq-eqb x (where_of t l from) (is ∙ ap (λ (z : ℕ). z * d + 8 * t + l) same)) off
      ])
    where
      head : (x p d t l : ℕ) → x ≡ p * d + 8 * t + l → x % 256 ≡ 8 * t + l → x / 256 * 256 ≡ p * d
      head x p d t l e m = omega arith

  leaf_off : k / 2 ^ 56 ≡ from / 2 ^ 56 → (n : ℕ) → n ≡ from / 2 ^ 56 * 2 ^ 56 + c / 256 → (k < n) ⊎ (n ≤ from) → pair_value c x k ≡ None
  leaf_off near n is side = pair_none c x k (λ e.
      let same : n ≡ k = whole c k n from near is e in
      elim side [
        | inl m ↦ absurd (omega (arith, m, same))
        | inr m ↦ let here : k ≡ from = omega (arith, m, same) in no_pair x (pair_value c x from) (pair_there c x from (e ∙ ap leaf_of here)) none
      ])
    where
      whole : (c k n from : ℕ) → k / 2 ^ 56 ≡ from / 2 ^ 56 → n ≡ from / 2 ^ 56 * 2 ^ 56 + c / 256 → c ≡ leaf_of k → n ≡ k
      whole c k n from near is e = omega arith

  pub silent_node : 0 < tag_of c → tag_of c < 9 → (k < x / 256 * 256) ⊎ (x / 256 * 256 ≤ from) → IsSilent c x k
  silent_node some low side = (node_off some low side, pair_none c x k (λ (e : c ≡ leaf_of k). absurd (omega (arith, e, low))))

  pub silent_leaf : (0 < tag_of c → tag_of c < 9 → ⊥) → k / 2 ^ 56 ≡ from / 2 ^ 56 → (n : ℕ) → n ≡ from / 2 ^ 56 * 2 ^ 56 + c / 256 → (k < n) ⊎ (n ≤ from) → IsSilent c x k
  silent_leaf no_form near n is side = (tag_ends c x k no_form, leaf_off near n is side)

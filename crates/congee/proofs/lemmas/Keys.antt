-- Keys as bytes, and the finite map after a change at one key.
use Rattle.std.proofs.Common.{◌≡◌, ◌≢◌, ℕ, zero, suc, ◌<◌, ◌≤◌, ◌^◌, ◌⊎◌, inl, inr, List, length, refl, sym, ◌∙◌, ap, subst, arith}
use Rattle.std.specs.Int.{from_be_bytes, w64}
use Rattle.std.proofs.lemmas.Nat.{from_be_bytes-to_be_bytes_8}
use Rattle.std.specs.Ordering.{nat_cmp}
use Rattle.std.specs.Cmp.{nat_cmp_total}
use Rattle.std.specs.FinMap.{FinMap, get, same_map, nat_cmp-IsAntisymmetric}
use Rattle.congee.specs.Heap.{Node, value_at}
use Rattle.congee.proofs.lemmas.Tree.{same_or_not}
use Rattle.congee.specs.Keys.{key_bytes, IsMapOf}

lt_or_le : (m n : ℕ) → (m < n) ⊎ (n ≤ m)
lt_or_le m zero = inr (omega arith)
lt_or_le zero (suc n) = inl (omega arith)
lt_or_le (suc m) (suc n) = elim (lt_or_le m n) [ inl p ↦ inl (omega arith) | inr p ↦ inr (omega arith) ]

-- a key has eight bytes
pub key_length : (k : ℕ) → length (key_bytes k) ≡ 8
key_length k = refl

-- different keys have different bytes
pub key_apart : (k l : ℕ) → k < 2 ^ 64 → l < 2 ^ 64 → k ≢ l → key_bytes k ≢ key_bytes l
key_apart k l p q ne e = ne (sym (from_be_bytes-to_be_bytes_8 k p) ∙ (ap (from_be_bytes w64) e ∙ from_be_bytes-to_be_bytes_8 l q))

-- a finite map is told by its look-ups, so one alone stands in the tree
pub standing_one : {V : Type 0} (h : ℕ → Node V) (m n : FinMap nat_cmp V) → IsMapOf h m → IsMapOf h n → m ≡ n
standing_one h m n s t = same_map nat_cmp_total nat_cmp-IsAntisymmetric m n (λ q. elim (lt_or_le q (2 ^ 64)) [
  | inl p ↦ s.at q p ∙ sym (t.at q p)
  | inr p ↦ s.none_beyond q p ∙ sym (t.none_beyond q p)
])

-- a tree in which every key has the value that it had
pub standing_same : {V : Type 0} (h h' : ℕ → Node V) (m : FinMap nat_cmp V) → ((x : List ℕ) → length x ≡ 8 → value_at h' x ≡ value_at h x)
    → IsMapOf h m → IsMapOf h' m
standing_same h h' m e s = record {
  at = λ k p. s.at k p ∙ sym (e (key_bytes k) (key_length k));
  none_beyond = s.none_beyond;
}

-- a tree in which one key's value changed, and a finite map that differs in that key as it does
pub standing_changed : {V : Type 0} (h h' : ℕ → Node V) (m n : FinMap nat_cmp V) (key : ℕ) → key < 2 ^ 64
    → ((x : List ℕ) → length x ≡ 8 → x ≢ key_bytes key → value_at h' x ≡ value_at h x)
    → get n key ≡ value_at h' (key_bytes key) → ((q : ℕ) → q ≢ key → get n q ≡ get m q)
    → IsMapOf h m → IsMapOf h' n
standing_changed h h' m n key small rest here apart s = record {
  at = λ k p. elim (same_or_not k key) [
    | inl e ↦ (let P : ℕ → Type 0 = λ x. get n x ≡ value_at h' (key_bytes x) in subst P (sym e) here)
    | inr ne ↦ apart k ne ∙ (s.at k p ∙ sym (rest (key_bytes k) (key_length k) (key_apart k key p small ne)))
  ];
  none_beyond = λ k p. apart k (λ e. absurd (omega (arith, e))) ∙ s.none_beyond k p;
}

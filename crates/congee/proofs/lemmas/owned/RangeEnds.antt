-- The pairs within a range of keys, taken from both ends.
use Rattle.std.proofs.Common.{◌≡◌, ℕ, ◌<◌, ◌≤◌, ◌+◌, ◌^◌, List, [], ◌∷◌, ◌++◌, refl, inl, inr, ap, ◌∙◌, arith}
use Rattle.std.specs.Prelude.{None}
use Rattle.std.proofs.lemmas.Bool.Decides.{nat_tests}
use Rattle.std.proofs.lemmas.Bool.{cases_lt}
use Rattle.std.specs.Ordering.{nat_cmp}
use Rattle.std.specs.FinMap as map
use Rattle.congee.specs.forms.Places.{AllKeys, Rises}
use Rattle.congee.specs.owned.Nearest.{IsGreatestPair, IsLeastPair}
use Rattle.congee.specs.owned.Ranges.{in_range}
use Rattle.congee.proofs.lemmas.forms.BetweenLemmas.{rises_entries}
use Rattle.congee.proofs.lemmas.owned.RangeLemmas.{range_first, range_none}

module _ {X : Type 0} where
  none_low : (start end k : ℕ) (es : List (ℕ × X)) → AllKeys (λ j. k < j) es → end ≤ k + 1 → in_range start end es ≡ []
  none_low start end k [] a l = refl
  none_low start end k ((j, x) ∷ es) a l =
      let rest = none_low start end k es a.1 l in
      let more : k < j = a.0 in
      grind (arith, nat_tests, more, l, rest)

  split_at : (start middle end : ℕ) (es : List (ℕ × X)) → Rises es → start ≤ middle → middle ≤ end → in_range start end es ≡ in_range start middle es ++ in_range middle end es
  split_at start middle end [] r l m = refl
  split_at start middle end ((k, x) ∷ es) r l m =
      let rest = split_at start middle end es r.1 l m in
      elim (cases_lt k start) [
        | inl low ↦ grind (arith, nat_tests, low, l, rest)
        | inr from ↦ elim (cases_lt k middle) [
          | inl less ↦ grind (arith, nat_tests, from, less, m, rest)
          | inr up ↦ (let none : in_range start middle es ≡ [] = none_low start middle k es r.0 (omega (arith, up)) in
              elim (cases_lt k end) [
                | inl under ↦ grind (arith, nat_tests, from, up, under, none, rest)
                | inr over ↦ grind (arith, nat_tests, from, up, over, none, rest)
              ])
        ]
      ]

  -- a range that ends where it starts has no pairs
  pub range_empty : (m : map.FinMap nat_cmp X) (start end : ℕ) → end ≤ start → in_range start end (map.entries m) ≡ []
  range_empty m start end l = range_none m start end (λ q a b. absurd (omega (arith, a, b, l)))

  -- nor has one that starts past every key
  pub range_beyond : (m : map.FinMap nat_cmp X) (start end : ℕ) → ((q : ℕ) → 2 ^ 64 ≤ q → map.get m q ≡ None) → 2 ^ 64 ≤ start → in_range start end (map.entries m) ≡ []
  range_beyond m start end none l = range_none m start end (λ q a b. none q (omega (arith, a, l)))

  -- the pairs of a range are those before its last one, and that
  pub range_last : (m : map.FinMap nat_cmp X) (start end k : ℕ) (x : X) → IsGreatestPair m end k x → start ≤ k
      → in_range start end (map.entries m) ≡ in_range start k (map.entries m) ++ (k, x) ∷ []
  range_last m start end k x g l =
      let first : IsLeastPair m k k x = record { past = omega arith; here = g.here; before = λ q a b. absurd (omega (arith, a, b)) } in
      let one : in_range k end (map.entries m) ≡ (k, x) ∷ [] = range_first m k end k x first g.below ∙ ap (λ r. (k, x) ∷ r) (range_none m (k + 1) end (λ q a b. g.after q (omega (arith, a)) b)) in
      split_at start k end (map.entries m) (rises_entries m) l (omega (arith, g.below)) ∙ ap (λ r. in_range start k (map.entries m) ++ r) one

  -- where the greatest pair lies before the range, it has none
  pub range_before : (m : map.FinMap nat_cmp X) (start end k : ℕ) (x : X) → IsGreatestPair m end k x → k < start → in_range start end (map.entries m) ≡ []
  range_before m start end k x g l = range_none m start end (λ q a b. g.after q (omega (arith, a, l)) b)

  -- where the least pair lies past the range, it has none
  pub range_past : (m : map.FinMap nat_cmp X) (start end k : ℕ) (x : X) → IsLeastPair m start k x → end ≤ k → in_range start end (map.entries m) ≡ []
  range_past m start end k x g l = range_none m start end (λ q a b. g.before q a (omega (arith, b, l)))

  -- a range starts as one does before whose start no key has a value
  pub range_after : (m : map.FinMap nat_cmp X) (start n end : ℕ) → start ≤ n → n ≤ end → ((q : ℕ) → start ≤ q → q < n → map.get m q ≡ None) → in_range start end (map.entries m) ≡ in_range n end (map.entries m)
  range_after m start n end l h none = split_at start n end (map.entries m) (rises_entries m) l h ∙ ap (λ r. r ++ in_range n end (map.entries m)) (range_none m start n none)

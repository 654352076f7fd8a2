-- What an iterator over a range of keys has left, as it gives a pair at one end.
use Rattle.std.proofs.Common.{◌≡◌, ℕ, ◌<◌, ◌≤◌, ◌+◌, ◌-◌, Bool, true, false, cond, List, [], ◌∷◌, ◌++◌, sym, ap, ◌∙◌, arith}
use Rattle.std.specs.Prelude.{None}
use Rattle.std.specs.Ordering.{nat_cmp}
use Rattle.std.specs.FinMap as map
use Rattle.congee.specs.owned.Nearest.{IsGreatestPair, IsLeastPair}
use Rattle.congee.specs.owned.Ranges.{in_range}
use Rattle.congee.proofs.lemmas.owned.RangeEnds.{range_before, range_empty, range_last, range_past}
use Rattle.congee.proofs.lemmas.owned.RangeLemmas.{range_first, range_none}

module _ {X : Type 0} (m : map.FinMap nat_cmp X) (over : Bool) (from last : ℕ) (old : List (ℕ × X)) (is : cond over [] (in_range from (last + 1) (map.entries m)) ≡ old) where
  -- where it is over, nothing is left
  pub over_none : over ≡ true → old ≡ []
  over_none e = sym is ∙ ap (λ b. cond b [] (in_range from (last + 1) (map.entries m))) e

  going : over ≡ false → old ≡ in_range from (last + 1) (map.entries m)
  going e = sym is ∙ ap (λ b. cond b [] (in_range from (last + 1) (map.entries m))) e

  module _ (on : over ≡ false) where
    -- where no pair comes from the first number on, nothing is left
    pub nothing_left : ((q : ℕ) → from ≤ q → map.get m q ≡ None) → old ≡ []
    nothing_left none = going on ∙ range_none m from (last + 1) (λ q l h. none q l)

    -- or none up to the last
    pub nothing_behind : ((q : ℕ) → q < last + 1 → map.get m q ≡ None) → old ≡ []
    nothing_behind none = going on ∙ range_none m from (last + 1) (λ q l h. none q h)

    module _ (k : ℕ) (x : X) where
      -- the next pair comes after the last number
      pub past_end : IsLeastPair m from k x → last < k → old ≡ []
      past_end f l = going on ∙ range_past m from (last + 1) k x f (omega (arith, l))

      -- or at it
      pub at_end : IsLeastPair m from k x → k ≤ last → last ≤ k → old ≡ (k, x) ∷ []
      at_end f l h = going on ∙ (range_first m from (last + 1) k x f (omega (arith, l)) ∙ ap (λ r. (k, x) ∷ r) (range_empty m (k + 1) (last + 1) (omega (arith, h))))

      -- or before it
      pub first_of : IsLeastPair m from k x → k < last → old ≡ (k, x) ∷ cond over [] (in_range (k + 1) (last + 1) (map.entries m))
      first_of f l =
          let rest : List (ℕ × X) = in_range (k + 1) (last + 1) (map.entries m) in
          going on ∙ (range_first m from (last + 1) k x f (omega (arith, l)) ∙ ap (λ b. (k, x) ∷ cond b [] rest) (sym on))

      -- the last pair comes before the first number
      pub before_start : IsGreatestPair m (last + 1) k x → k < from → old ≡ []
      before_start f l = going on ∙ range_before m from (last + 1) k x f l

      -- or at it
      pub at_start : IsGreatestPair m (last + 1) k x → k ≤ from → from ≤ k → old ≡ (k, x) ∷ []
      at_start f l h = going on ∙ (range_last m from (last + 1) k x f h ∙ ap (λ r. r ++ (k, x) ∷ []) (range_empty m from k l))

      -- or after it
      pub last_of : IsGreatestPair m (last + 1) k x → from < k → old ≡ cond over [] (in_range from (k - 1 + 1) (map.entries m)) ++ (k, x) ∷ []
      last_of f l =
          let e : k ≡ k - 1 + 1 = omega (arith, l) in
          let rest : List (ℕ × X) = in_range from (k - 1 + 1) (map.entries m) in
          going on ∙ (range_last m from (last + 1) k x f (omega (arith, l)) ∙ (ap (λ n. in_range from n (map.entries m) ++ (k, x) ∷ []) e ∙ ap (λ b. cond b [] rest ++ (k, x) ∷ []) (sym on)))

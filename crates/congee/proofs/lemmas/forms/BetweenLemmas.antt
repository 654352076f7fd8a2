-- The pairs of a map within a range of bytes.
use Rattle.std.proofs.Common.{◌≡◌, ◌≢◌, ℕ, suc, ◌<◌, ◌≤◌, ◌+◌, ◌-◌, MatchOption, Bool, true, false, T, List, [], ◌∷◌, Option, None, Some, IsSome, refl, inl, inr, sym, ap, ◌∙◌, subst, arith}
use Rattle.std.proofs.lemmas.Bool.Decides.{nat_tests}
use Rattle.std.proofs.lemmas.Bool.{cases_lt, cases_eq}
use Rattle.std.specs.Ordering.{nat_cmp, is_lt}
use Rattle.std.specs.List.{slice_get}
use Rattle.std.specs.Option.{option_map}
use Rattle.std.specs.FinMap as map
use Rattle.std.specs.FinMap.Entries.{below_all}
use Rattle.congee.specs.forms.Bytes.{IsFirst, between}
use Rattle.congee.specs.forms.Places.{AllKeys, Rises}
use Rattle.congee.proofs.lemmas.Fits.{both_true}
use Rattle.congee.proofs.lemmas.forms.Entries.{find}
use Rattle.congee.proofs.lemmas.forms.EntryLemmas.{find_below}
use Rattle.congee.proofs.lemmas.forms.MapLemmas.{find_std}

-- a test that is known to hold is true
pub true_of_T : (b : Bool) → T b → b ≡ true
true_of_T true t = refl
true_of_T false t = absurd t

-- a number that compares as less is less
pub less_of_cmp : (a b : ℕ) → is_lt (nat_cmp a b) ≡ true → a < b
less_of_cmp a b e = grind (arith, nat_tests, e)

module _ {X : Type 0} where
  below_of : (k : ℕ) (es : List (ℕ × X)) → below_all nat_cmp k es ≡ true → AllKeys (λ j. k < j) es
  below_of k [] e = tt
  below_of k ((j, x) ∷ r) e = (less_of_cmp k j (both_true _ _ e).0, below_of k r (both_true _ _ e).1)

  rises_true : (es : List (ℕ × X)) → map.is_sorted nat_cmp es ≡ true → Rises es
  rises_true [] e = tt
  rises_true ((k, x) ∷ r) e = (below_of k r (both_true _ _ e).0, rises_true r (both_true _ _ e).1)

  -- the entries of a map stand in ascending order of their keys
  pub rises_entries : (m : map.FinMap nat_cmp X) → Rises (map.entries m)
  rises_entries m = rises_true (map.entries m) (true_of_T _ (map.entries_sorted m))

  none_between : (from end : ℕ) (es : List (ℕ × X)) → Rises es → ((q : ℕ) → from ≤ q → q ≤ end → find q es ≡ None) → between from end es ≡ []
  none_between from end [] r h = refl
  none_between from end ((k, x) ∷ es) r h =
      let step = λ (out : (q : ℕ) → from ≤ q → q ≤ end → q ≢ k). none_between from end es r.1 (λ q l m. let n = out q l m in grind (arith, nat_tests, n, h q l m)) in
      elim (cases_lt k from) [
        | inl l ↦ let t = step (λ q a b e. omega (arith, e)) in grind (arith, nat_tests, l, t)
        | inr l ↦ elim (cases_lt end k) [
          | inl m ↦ let t = step (λ q a b e. omega (arith, e)) in grind (arith, nat_tests, l, m, t)
          | inr m ↦ let here = h k l m in absurd (grind (arith, nat_tests, here))
        ]
      ]

  between_up : (from b end : ℕ) (es : List (ℕ × X)) → from ≤ b → AllKeys (λ j. b < j) es → between from end es ≡ between (b + 1) end es
  between_up from b end [] l a = refl
  between_up from b end ((k, x) ∷ es) l a = grind (arith, nat_tests, a.0, between_up from b end es l a.1)

  first_between : (from b end : ℕ) (x : X) (es : List (ℕ × X)) → Rises es → from ≤ b → b ≤ end → find b es ≡ Some x → ((q : ℕ) → from ≤ q → q < b → find q es ≡ None) → between from end es ≡ (b, x) ∷ between (b + 1) end es
  first_between from b end x [] r l m e h = absurd (cc e)
  first_between from b end x ((k, y) ∷ es) r l m e h =
      elim (cases_lt k from) [
        | inl n ↦
            let there : find b es ≡ Some x = grind (arith, nat_tests, n, e) in
            let t = first_between from b end x es r.1 l m there (λ q a g. let before = h q a g in grind (arith, nat_tests, n, before)) in
            grind (arith, nat_tests, n, t)
        | inr n ↦ elim (cases_lt k b) [
          | inl g ↦ let before = h k n g in absurd (grind (arith, nat_tests, before))
          | inr g ↦ elim (cases_eq k b) [
            | inl same ↦
                let is : y ≡ x = grind (arith, nat_tests, same, e) in
                let t = between_up from b end es l (subst (λ j. AllKeys (λ i. j < i) es) same r.0) in
                grind (arith, nat_tests, same, is, t, m, n)
            | inr other ↦
                let none = find_below b ((k, y) ∷ es) (omega (arith, g, other), less_all es r.0 (omega (arith, g, other))) in
                absurd (cc (e, none))
          ]
        ]
      ]
    where
      less_all : (es : List (ℕ × X)) → AllKeys (λ j. k < j) es → b < k → AllKeys (λ j. b < j) es
      less_all [] a l = tt
      less_all ((j, z) ∷ r) a l = (omega (arith, a.0), less_all r a.1 l)

  -- a map's look-up is one in its list
  pub get_find : (m : map.FinMap nat_cmp X) (q : ℕ) → map.get m q ≡ find q (map.entries m)
  get_find m q = map.get-entries m q ∙ find_std q (map.entries m)

  -- no child lies in the range
  pub between_none : (m : map.FinMap nat_cmp X) (from end : ℕ) → ((q : ℕ) → from ≤ q → q ≤ end → map.get m q ≡ None) → between from end (map.entries m) ≡ []
  between_none m from end h = none_between from end (map.entries m) (rises_entries m) (λ q l g. sym (get_find m q) ∙ h q l g)

  -- the first child that does
  pub between_first : (m : map.FinMap nat_cmp X) (from end b : ℕ) (x : X) → IsFirst m from b x → b ≤ end → between from end (map.entries m) ≡ (b, x) ∷ between (b + 1) end (map.entries m)
  between_first m from end b x f l = first_between from b end x (map.entries m) (rises_entries m) f.past l (sym (get_find m b) ∙ f.here) (λ q h g. sym (get_find m q) ∙ f.before q h g)

  -- ---- the child at a place

  -- what holds for each key that a list has holds for all its pairs
  pub all_found : (P : ℕ → Type 0) (es : List (ℕ × X)) → ((b : ℕ) → IsSome (find b es) → P b) → AllKeys P es
  all_found P [] h = tt
  all_found P ((k, x) ∷ es) h =
      let here : P k = h k (grind (arith, nat_tests)) in (
        here,
        all_found P es (λ b s. elim (cases_eq b k) [
          | inl e ↦ subst P (sym e) here
          | inr n ↦ h b (grind (arith, nat_tests, n, s))
        ]),
      )

  all_between : (es : List (ℕ × X)) → AllKeys (λ b. b < 256) es → between 0 255 es ≡ es
  all_between [] a = refl
  all_between ((k, x) ∷ es) a = grind (arith, nat_tests, a.0, all_between es a.1)

  -- the pairs between bytes 0 and 255 of a map whose keys are bytes are all of them
  pub between_all : (m : map.FinMap nat_cmp X) → ((b : ℕ) → IsSome (map.get m b) → b < 256) → between 0 255 (map.entries m) ≡ map.entries m
  between_all m h = all_between (map.entries m) (all_found (λ b. b < 256) (map.entries m) (λ b s. h b (subst IsSome (sym (get_find m b)) s)))

  -- the first child from a byte on of a map whose keys are bytes is at 255 or before it
  pub first_byte : (m : map.FinMap nat_cmp X) (from b : ℕ) (x : X) → ((b : ℕ) → IsSome (map.get m b) → b < 256) → IsFirst m from b x → b ≤ 255
  first_byte m from b x h f = let some : IsSome (map.get m b) = cc f.here in omega (arith, h b some)

  -- a child is passed by
  pub one_passed : (m : map.FinMap nat_cmp X) (from b i p : ℕ) (x : X) (o : Option (ℕ × X)) → IsFirst m from b x → b ≤ 255 → p < i → slice_get (between from 255 (map.entries m)) (i - p) ≡ o → slice_get (between (b + 1) 255 (map.entries m)) (i - (p + 1)) ≡ o
  one_passed m from b i p x o f l h e =
      let up : i - p ≡ suc (i - (p + 1)) = omega arith in
      sym (ap (λ es. slice_get es (suc (i - (p + 1)))) (between_first m from 255 b x f l)) ∙ ap (slice_get (between from 255 (map.entries m))) (sym up) ∙ e

  -- what stands first
  pub first_there : {A : Type 0} (byte : A → ℕ) (child : A → X) (r : Option A) (m : map.FinMap nat_cmp X) (from : ℕ) → ((b : ℕ) → IsSome (map.get m b) → b < 256)
      → MatchOption r ((b : ℕ) → from ≤ b → map.get m b ≡ None) (λ a. IsFirst m from (byte a) (child a))
      → option_map (λ a. (byte a, child a)) r ≡ slice_get (between from 255 (map.entries m)) 0
  first_there byte child None m from h none = ap (λ es. slice_get es 0) (sym (between_none m from 255 (λ q l g. none q l)))
  first_there byte child (Some a) m from h f = ap (λ es. slice_get es 0) (sym (between_first m from 255 (byte a) (child a) f (first_byte m from (byte a) (child a) h f)))

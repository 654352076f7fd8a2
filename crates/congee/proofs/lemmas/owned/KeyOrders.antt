-- Keys whose words stand in the keys' own order ascend with their words.
use Rattle.std.proofs.Common.{◌≡◌, ℕ, ◌<◌, ◌↔◌, List, [], ◌∷◌, sym, ap, ◌∙◌, subst, arith}
use Rattle.std.specs.Prelude.{IsSome}
use Rattle.std.specs.FinMap as map
use Rattle.std.specs.List.{AllByRecursion}
use Rattle.std.specs.List.Sorted.{IsStrictlySortedBy}
use Rattle.std.specs.Ordering.{nat_cmp}
use Rattle.std.specs.declared.cmp.Ordering.{Ordering}
use Rattle.std.specs.declared.cmp.Ordering.TheVariants.{Less}
use Rattle.congee.specs.forms.Places.{AllKeys, Rises}
use Rattle.congee.specs.owned.Iterating.{AreWords}
use Rattle.congee.specs.owned.Ranges.{keys_by}
use Rattle.congee.proofs.lemmas.forms.BetweenLemmas.{all_found, get_find, rises_entries}

module _ {K : Type 0} (fits : K → Type 0) (word : K → ℕ) (of_word : ℕ → K) (cmp : K → K → Ordering) (back : (k : K) → fits k → of_word (word k) ≡ k)
    (order : (a b : K) → fits a → fits b → (cmp a b ≡ Less) ↔ (word a < word b)) where
  abbrev Kept : ℕ → Type 0
  Kept q = (k : K) × fits k × (word k ≡ q)

  less : (p q : ℕ) → Kept p → Kept q → p < q → cmp (of_word p) (of_word q) ≡ Less
  less p q a b l =
      let x : of_word p ≡ a.0 = ap of_word (sym a.2) ∙ back a.0 a.1 in
      let y : of_word q ≡ b.0 = ap of_word (sym b.2) ∙ back b.0 b.1 in
      rw (x, y) ((order a.0 b.0 a.1 b.1).1 (omega (arith, a.2, b.2, l)))

  all_less : {X : Type 0} (p : ℕ) (es : List (ℕ × X)) → Kept p → AllKeys Kept es → AllKeys (λ j. p < j) es → AllByRecursion (λ y. cmp (of_word p) y ≡ Less) (keys_by of_word es)
  all_less p [] a k l = tt
  all_less p ((q, x) ∷ es) a k l = (less p q a k.0 l.0, all_less p es a k.1 l.1)

  ascend : {X : Type 0} (es : List (ℕ × X)) → AllKeys Kept es → Rises es → IsStrictlySortedBy cmp (keys_by of_word es)
  unfolding IsStrictlySortedBy
  ascend [] k r = tt
  ascend ((q, x) ∷ es) k r = (all_less q es k.0 k.1 r.0, ascend es k.1 r.1)

  pub keys_in_order : {X : Type 0} (m : map.FinMap nat_cmp X) → AreWords fits word m → IsStrictlySortedBy cmp (keys_by of_word (map.entries m))
  keys_in_order m h = ascend (map.entries m) (all_found Kept (map.entries m) (λ b s. h b (subst IsSome (sym (get_find m b)) s))) (rises_entries m)

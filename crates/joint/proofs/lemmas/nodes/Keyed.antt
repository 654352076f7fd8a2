-- A list that has all keys of a map and ascends is that of its keys; how many there can be.
use Rattle.std.proofs.Common.{◌≡◌, ℕ, suc, ◌+◌, ◌^◌, ◌<◌, ◌≤◌, Bool, true, false, ◌&&◌, cond, T, List, [], ◌∷◌, length, map, refl, sym, ◌∙◌, ap, subst, inl, inr, arith}
use Rattle.std.specs.Prelude.{None, Some, IsSome, ◌↔◌}
use Rattle.std.specs.FinMap.{entries, entries_sorted, get, get-entries, len, len-entries}
use Rattle.std.specs.FinMap.Entries.{below_all, is_sorted, find}
use Rattle.std.specs.Ordering.{nat_cmp, eq_by_cmp}
use Rattle.std.proofs.lemmas.Bool.{cases_lt}
use Rattle.std.proofs.lemmas.Bool.Decides.{nat_tests}
use Rattle.std.proofs.lemmas.List.{length-map}
use Rattle.judge.specs.Answer.{Pairs}
use Rattle.joint.specs.nodes.Survey.{AllAbove, Ascend, Has, AreKeys, keys_of}
use Rattle.congee.proofs.Laws.{true_of_T, less_of_cmp}

both : (a b : Bool) → T (a && b) → T a × T b
both true b t = (tt, t)
both false b t = absurd t

tied : (a b : ℕ) → eq_by_cmp nat_cmp a b ≡ true → b ≡ a
tied a b e = grind (arith, nat_tests, e)

untied : (a b : ℕ) → eq_by_cmp nat_cmp a b ≡ false → b ≡ a → ⊥
untied a b e is = grind (arith, nat_tests, e, is)

module _ {V : Type 0} where
  above_of : (k : ℕ) (es : List (ℕ × V)) → T (below_all nat_cmp k es) → AllAbove k (map (λ e. e.0) es)
  above_of k [] t = tt
  above_of k (e ∷ es) t = let b = both _ _ t in (less_of_cmp k e.0 (true_of_T _ b.0), above_of k es b.1)

  ascends : (es : List (ℕ × V)) → T (is_sorted nat_cmp es) → Ascend (map (λ e. e.0) es)
  ascends [] t = tt
  ascends (e ∷ es) t = let b = both _ _ t in (above_of e.0 es b.0, ascends es b.1)

  -- the keys of entries are those that are found among them
  has_found : (k : ℕ) (es : List (ℕ × V)) → Has (map (λ e. e.0) es) k ↔ IsSome (find nat_cmp k es)
  has_found k [] = (λ x. absurd x, λ s. absurd (cc s))
  has_found k (e ∷ es) = elim (eq_by_cmp nat_cmp k e.0) as (λ b. eq_by_cmp nat_cmp k e.0 ≡ b → (Has (e.0 ∷ map (λ e. e.0) es) k ↔ IsSome (cond b (Some e.1) (find nat_cmp k es)))) [
    | true ↦ λ q. (λ x. refl, λ s. inl (tied k e.0 q))
    | false ↦ λ q. (
      λ x. elim x [ inl is ↦ absurd (untied k e.0 q is) | inr y ↦ (has_found k es).0 y ],
      λ s. inr ((has_found k es).1 s),
    )
  ] refl

above : (j k : ℕ) (ks : List ℕ) → AllAbove j ks → Has ks k → j < k
above j k [] a x = absurd x
above j k (i ∷ ks) a (inl e) = omega (arith, a.0, e)
above j k (i ∷ ks) a (inr x) = above j k ks a.1 x

beyond : (j k : ℕ) (ks : List ℕ) → j < k → Has (j ∷ ks) k → Has ks k
beyond j k ks l (inl e) = absurd (omega (arith, l, e))
beyond j k ks l (inr x) = x

-- lists that ascend and have the same numbers are the same
same : (xs ys : List ℕ) → Ascend xs → Ascend ys → ((k : ℕ) → Has xs k → Has ys k) → ((k : ℕ) → Has ys k → Has xs k) → xs ≡ ys
same [] [] a b f g = refl
same [] (y ∷ ys) a b f g = absurd (g y (inl refl))
same (x ∷ xs) [] a b f g = absurd (f x (inl refl))
same (x ∷ xs) (y ∷ ys) a b f g =
    let e : x ≡ y = elim (f x (inl refl)) [
      | inl p ↦ sym p
      | inr p ↦ elim (g y (inl refl)) [
        | inl q ↦ q
        | inr q ↦ (let l = above y x ys b.0 p in let r = above x y xs a.0 q in absurd (omega (arith, l, r)))
      ]
    ] in
    let rest : xs ≡ ys = same xs ys a.1 b.1
    (λ k h. let l = above x k xs a.0 h in beyond y k ys (omega (arith, l, e)) (f k (inr h)))
    (λ k h. let l = above y k ys b.0 h in beyond x k xs (omega (arith, l, e)) (g k (inr h))) in
    λ i. e i ∷ rest i

module _ {V : Type 0} (m : Pairs V) (ks : List ℕ) (a : AreKeys m ks) where
  -- an ascending list of all keys of a map, and no other, is the list of its keys
  pub keys_are : ks ≡ keys_of m
  keys_are = same ks (keys_of m) a.ascend (ascends (entries m) (entries_sorted m))
      (λ k x. (has_found k (entries m)).1 (subst IsSome (get-entries m k) ((a.each k).0 x)))
      (λ k x. (a.each k).1 (subst IsSome (sym (get-entries m k)) ((has_found k (entries m)).0 x)))

-- numbers that ascend from one on are no more than there are below another
room : (a n : ℕ) (ks : List ℕ) → Ascend ks → ((k : ℕ) → Has ks k → (a ≤ k) × (k < n)) → a ≤ n → a + length ks ≤ n
room a n [] asc f l = omega (arith, l)
room a n (k ∷ ks) asc f l =
    let x = f k (inl refl) in
    let r = room (k + 1) n ks asc.1 (λ j h. (let b = above k j ks asc.0 h in omega (arith, b), (f j (inr h)).1)) (omega (arith, x.1)) in
    omega (arith, r, x.0)

module _ {V : Type 0} (m : Pairs V) where
  -- there is no more than a pair for each key of 64 bits
  pub len_few : ((k : ℕ) → 2 ^ 64 ≤ k → get m k ≡ None) → len m ≤ 2 ^ 64
  len_few none =
      let small : (k : ℕ) → Has (keys_of m) k → k < 2 ^ 64 = λ k h. elim (cases_lt k (2 ^ 64)) [
        | inl l ↦ l
        | inr l ↦ absurd (
            let f : IsSome (find nat_cmp k (entries m)) = (has_found k (entries m)).0 h in
            let z : IsSome {T = V} None = subst IsSome (sym (get-entries m k) ∙ none k l) f in
            cc z)
      ] in
      let r = room 0 (2 ^ 64) (keys_of m) (ascends (entries m) (entries_sorted m)) (λ k h. (omega arith, small k h)) (omega arith) in
      let n : length (keys_of m) ≡ len m = length-map (entries m) (λ p. p.0) ∙ sym (len-entries m) in
      omega (arith, r, n)

  -- where there is one it has a key
  pub some_key : (n : ℕ) → len m ≡ suc n → (k : ℕ) × IsSome (get m k)
  some_key n e = by (entries m) refl where
    by : (es : List (ℕ × V)) → entries m ≡ es → (k : ℕ) × IsSome (get m k)
    by [] q = absurd (let z : suc n ≡ 0 = sym e ∙ len-entries m ∙ ap length q in omega (arith, z))
    by (x ∷ es) q = (x.0, subst IsSome (sym (get-entries m x.0 ∙ ap (find nat_cmp x.0) q)) ((has_found x.0 (x ∷ es)).0 (inl refl)))

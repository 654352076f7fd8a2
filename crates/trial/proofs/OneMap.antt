-- What a scan finds while one map stands: the first pairs of its range.
use Rattle.std.proofs.Common.{◌≡◌, ◌⊎◌, ℕ, ◌+◌, ◌<◌, ◌≤◌, zero, suc, arith, List, [], ◌∷◌, length, take, Option, None, Some, IsSome, refl, sym, ◌∙◌, ap, subst, inl, inr}
use Rattle.std.specs.Ordering.{nat_cmp}
use Rattle.std.specs.FinMap.{FinMap, get, entries}
use Rattle.congee.specs.forms.Places.{AllKeys, Rises}
use Rattle.congee.specs.owned.Ranges.{in_range}
use Rattle.congee.specs.protocol.Scans.{HasKey, Stood, AllStood, IsScan}
use Rattle.congee.proofs.Laws.{range_none, range_first}

some_or_none : {A : Type 0} (o : Option A) → IsSome o ⊎ (o ≡ None)
some_or_none None = inr refl
some_or_none (Some x) = inl refl

module _ {V : Type 0} (m : FinMap nat_cmp V) where
  -- each pair is one of the map's
  abbrev AllOf : List (ℕ × V) → Type 0
  AllOf [] = Unit {0}
  AllOf ((k, v) ∷ found) = (get m k ≡ Some v) × AllOf found

  stood_is : (k : ℕ) (v : V) → Stood (m ∷ []) k v → get m k ≡ Some v
  stood_is k v (inl e) = e
  stood_is k v (inr s) = absurd s

  all_of : (found : List (ℕ × V)) → AllStood (m ∷ []) found → AllOf found
  all_of [] s = tt
  all_of ((k, v) ∷ found) s = (stood_is k v s.0, all_of found s.1)

  -- each key of the range that the map has is found, or no place is left for it
  abbrev Complete : ℕ → ℕ → ℕ → List (ℕ × V) → Type 0
  Complete start end size found = (k : ℕ) → start ≤ k → k < end → IsSome (get m k) → HasKey found k ⊎ ((length found ≡ size) × AllKeys (λ q. q < k) found)

  key_past : (found : List (ℕ × V)) (k q : ℕ) → AllKeys (λ c. k < c) found → HasKey found q → k < q
  key_past [] k q a h = absurd h
  key_past ((j, v) ∷ found) k q a (inl e) = let P : ℕ → Type 0 = λ x. k < x in subst P e a.0
  key_past ((j, v) ∷ found) k q a (inr h) = key_past found k q a.1 h

  first_pairs : (start end size : ℕ) (found : List (ℕ × V)) → Rises found → length found ≤ size → AllKeys (λ k. (start ≤ k) × (k < end)) found → AllOf found
      → Complete start end size found → found ≡ take size (in_range start end (entries m))
  first_pairs start end zero [] r few within of complete = refl
  first_pairs start end (suc size) [] r few within of complete =
      let none : (q : ℕ) → start ≤ q → q < end → get m q ≡ None = λ q l n. elim (some_or_none (get m q)) [
        | inl s ↦ absurd (nothing q (complete q l n s))
        | inr e ↦ e
      ] in
      ap (take (suc size)) (sym (range_none m start end none))
    where
      nothing : (q : ℕ) → HasKey {V = V} [] q ⊎ ((0 ≡ suc size) × AllKeys {X = V} (λ x. x < q) []) → ⊥
      nothing q (inl h) = h
      nothing q (inr h) = absurd (omega (arith, h.0))
  first_pairs start end zero ((k, v) ∷ found) r few within of complete = absurd (omega (arith, few))
  first_pairs start end (suc size) ((k, v) ∷ found) r few within of complete =
      ap (λ t. (k, v) ∷ t) (first_pairs (k + 1) end size found r.1 (omega (arith, few)) (later found r.0 within.1) of.1 more)
      ∙ sym (ap (take (suc size)) (range_first m start end k v (record { past = within.0.0; here = of.0; before = before }) within.0.1))
    where
      later : (es : List (ℕ × V)) → AllKeys (λ c. k < c) es → AllKeys (λ c. (start ≤ c) × (c < end)) es → AllKeys (λ c. (k + 1 ≤ c) × (c < end)) es
      later [] a b = tt
      later ((c, w) ∷ es) a b = ((omega (arith, a.0), b.0.1), later es a.1 b.1)

      too_early : (q : ℕ) → q < k → HasKey ((k, v) ∷ found) q ⊎ ((suc (length found) ≡ suc size) × AllKeys (λ x. x < q) ((k, v) ∷ found)) → ⊥
      too_early q l (inl (inl e)) = absurd (omega (arith, l, e))
      too_early q l (inl (inr h)) = absurd (omega (arith, l, key_past found k q r.0 h))
      too_early q l (inr h) = absurd (omega (arith, l, h.1.0))

      before : (q : ℕ) → start ≤ q → q < k → get m q ≡ None
      before q a l = elim (some_or_none (get m q)) [
        | inl s ↦ absurd (too_early q l (complete q a (omega (arith, l, within.0.1)) s))
        | inr e ↦ e
      ]

      rest_has : (q : ℕ) → k + 1 ≤ q → HasKey ((k, v) ∷ found) q ⊎ ((suc (length found) ≡ suc size) × AllKeys (λ x. x < q) ((k, v) ∷ found))
          → HasKey found q ⊎ ((length found ≡ size) × AllKeys (λ x. x < q) found)
      rest_has q l (inl (inl e)) = absurd (omega (arith, l, e))
      rest_has q l (inl (inr h)) = inl h
      rest_has q l (inr h) = inr (omega (arith, h.0), h.1.1)

      more : Complete (k + 1) end size found
      more q l n s = rest_has q l (complete q (omega (arith, l, within.0.0)) n s)

  -- a scan during which this map stood
  pub scan_of_one : (start end size : ℕ) (found : List (ℕ × V)) → IsScan start end size (m ∷ []) found → found ≡ take size (in_range start end (entries m))
  scan_of_one start end size found s = first_pairs start end size found s.rises s.few s.within (all_of found s.stood) (λ k l n h. s.complete k l n (h, tt))

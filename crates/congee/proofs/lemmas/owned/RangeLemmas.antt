-- The pairs within a range of keys, one after the other.
use Rattle.std.proofs.Common.{◌≡◌, ℕ, zero, suc, ◌<◌, ◌≤◌, ◌+◌, ◌-◌, List, [], ◌∷◌, ◌++◌, length, take, drop, set, append-nil, append_assoc, IsSome, length-take-le, refl, inl, inr, sym, ap, ◌∙◌, subst, arith}
use Rattle.std.specs.Prelude.{Option, None, Some, MatchOption}
use Rattle.std.proofs.lemmas.Bool.Decides.{nat_tests}
use Rattle.std.proofs.lemmas.Bool.{cases_lt}
use Rattle.std.proofs.lemmas.Grind.{take-set_at}
use Rattle.std.proofs.lemmas.List.{drop-drop, drop-set-lt}
use Rattle.std.specs.Ordering.{nat_cmp}
use Rattle.std.specs.FinMap as map
use Rattle.congee.specs.forms.Bytes.{between}
use Rattle.congee.specs.owned.Nearest.{IsLeastPair}
use Rattle.congee.specs.owned.Ranges.{in_range, keys_by}
use Rattle.congee.specs.forms.Places.{AllKeys}
use Rattle.congee.proofs.lemmas.forms.BetweenLemmas.{between_none, between_first, all_found, get_find}

module _ {T : Type 0} where
  -- one more pair is written
  pub pair_written : (out : List T) (i room : ℕ) (p : T) (rest all : List T) → i < length out → room ≡ length out
      → take i out ++ take (room - i) (p ∷ rest) ≡ all → take (i + 1) (set out i p) ++ take (room - (i + 1)) rest ≡ all
  pair_written out i room p rest all l e h =
      let up : room - i ≡ suc (room - (i + 1)) = omega (arith, l, e) in
      ap (λ t. t ++ take (room - (i + 1)) rest) (take-set_at out i (i + 1) p refl l) ∙ append_one (take i out) p (take (room - (i + 1)) rest) ∙ ap (λ n. take i out ++ take n (p ∷ rest)) (sym up) ∙ h
    where
      append_one : (xs : List T) (p : T) (ys : List T) → (xs ++ p ∷ []) ++ ys ≡ xs ++ (p ∷ ys)
      append_one [] p ys = refl
      append_one (x ∷ xs) p ys = ap (λ t. x ∷ t) (append_one xs p ys)

  -- a pair that is written leaves the places after it as they were
  pub rest_kept : (out old : List T) (i : ℕ) (p : T) → i < length out → drop i out ≡ drop i old → drop (i + 1) (set out i p) ≡ drop (i + 1) old
  rest_kept out old i p l h = drop-set-lt (i + 1) out i p (omega arith) ∙ sym (drop-drop 1 i out) ∙ ap (drop 1) h ∙ drop-drop 1 i old

  -- the first of no pairs are none
  pub take_none : (n : ℕ) (es : List T) → es ≡ [] → take n es ≡ []
  take_none zero [] e = refl
  take_none (suc n) [] e = refl
  take_none n (x ∷ es) e = absurd (cc e)

  -- the range has no pair more
  pub range_ended : (out rest all : List T) (i n : ℕ) → take i out ++ take n rest ≡ all → rest ≡ [] → take i out ≡ all
  range_ended out rest all i n h e = sym (append-nil (take i out)) ∙ ap (λ t. take i out ++ t) (sym (take_none n rest e)) ∙ h

  -- pairs that fill a list's first places are as many as those places
  pub counted : (out all : List T) (i : ℕ) → i ≤ length out → take i out ≡ all → i ≡ length all
  counted out all i l e = sym (length-take-le i out l) ∙ ap length e

module _ {X : Type 0} where
  -- a range that ends before a number, and one that ends at it
  pub ends_before : (start e : ℕ) (es : List (ℕ × X)) → in_range start (suc e) es ≡ between start e es
  ends_before start e [] = refl
  ends_before start e ((k, x) ∷ r) =
      let rest = ends_before start e r in
      elim (cases_lt k start) [
        | inl l ↦ grind (arith, nat_tests, l, rest)
        | inr l ↦ elim (cases_lt e k) [
          | inl m ↦ grind (arith, nat_tests, l, m, rest)
          | inr m ↦ grind (arith, nat_tests, l, m, rest)
        ]
      ]

  none_before_zero : (start : ℕ) (es : List (ℕ × X)) → in_range start 0 es ≡ []
  none_before_zero start [] = refl
  none_before_zero start ((k, x) ∷ r) =
      let rest = none_before_zero start r in
      elim (cases_lt k start) [ inl l ↦ grind (arith, nat_tests, l, rest) | inr l ↦ grind (arith, nat_tests, l, rest) ]

  -- a range that ends before each number
  pub none_before : (start end : ℕ) (es : List (ℕ × X)) → (1 ≤ end → ⊥) → in_range start end es ≡ []
  none_before start zero es n = none_before_zero start es
  none_before start (suc end) es n = absurd (n (omega arith))

  -- a range without a key has no pairs
  pub range_none : (m : map.FinMap nat_cmp X) (start end : ℕ) → ((q : ℕ) → start ≤ q → q < end → map.get m q ≡ None) → in_range start end (map.entries m) ≡ []
  range_none m start zero h = none_before_zero start (map.entries m)
  range_none m start (suc e) h = ends_before start e (map.entries m) ∙ between_none m start e (λ q l n. h q l (omega (arith, n)))

  -- the pairs of a range are its first one and those after it
  pub range_first : (m : map.FinMap nat_cmp X) (start end k : ℕ) (x : X) → IsLeastPair m start k x → k < end → in_range start end (map.entries m) ≡ (k, x) ∷ in_range (k + 1) end (map.entries m)
  range_first m start zero k x f l = absurd (omega (arith, l))
  range_first m start (suc e) k x f l =
      ends_before start e (map.entries m) ∙ between_first m start e k x (record { past = f.past; here = f.here; before = f.before }) (omega (arith, l)) ∙ ap (λ r. (k, x) ∷ r) (sym (ends_before (k + 1) e (map.entries m)))

  range_of_all : (e : ℕ) (es : List (ℕ × X)) → AllKeys (λ k. k < e) es → in_range 0 e es ≡ es
  range_of_all e [] a = refl
  range_of_all e ((k, x) ∷ r) a = let rest = range_of_all e r a.1 in grind (arith, nat_tests, a.0, rest)

  -- a range that holds every key
  pub range_all : (m : map.FinMap nat_cmp X) (e : ℕ) → ((q : ℕ) → e ≤ q → map.get m q ≡ None) → in_range 0 e (map.entries m) ≡ map.entries m
  range_all m e h = range_of_all e (map.entries m) (all_found (λ k. k < e) (map.entries m) (λ k s. elim (cases_lt k e) [
    | inl l ↦ l
    | inr g ↦ (let there : IsSome (map.get m k) = subst IsSome (sym (get_find m k)) s in let none = h k g in absurd (cc (there, none)))
  ]))

  -- one more key is written
  pub key_written : {K : Type 0} (of_word : ℕ → K) (items all : List K) (es : List (ℕ × X)) (k : ℕ) (x : X) (rest : List (ℕ × X))
      → es ≡ (k, x) ∷ rest → items ++ keys_by of_word es ≡ all → (items ++ of_word k ∷ []) ++ keys_by of_word rest ≡ all
  key_written of_word items all es k x rest e h = append_assoc items (of_word k ∷ []) (keys_by of_word rest) ∙ ap (λ t. items ++ keys_by of_word t) (sym e) ∙ h

  -- where no pair is left, all keys are written
  pub keys_ended : {K : Type 0} (of_word : ℕ → K) (items all : List K) (es : List (ℕ × X)) → es ≡ [] → items ++ keys_by of_word es ≡ all → items ≡ all
  keys_ended of_word items all es e h = sym (append-nil items) ∙ ap (λ t. items ++ keys_by of_word t) (sym e) ∙ h

-- what is told where there is nothing
pub none_told : {T : Type 0} (o : Option T) (A : Type 0) (B : T → Type 0) → o ≡ None → MatchOption o A B → A
none_told None A B e m = m
none_told (Some x) A B e m = absurd (cc e)

-- A rising list is a finite map, and its words are the map's.
use Rattle.std.proofs.Common.{◌≡◌, ℕ, ◌<◌, ◌+◌, ◌-◌, inl, inr, true, cond, eqb, T, List, [], ◌∷◌, length, None, Some, IsSome, refl, sym, ap, ◌∙◌, subst, arith, rules, ◌≢◌}
use Rattle.std.proofs.lemmas.Bool.Decides.{nat_tests}
use Rattle.std.proofs.lemmas.Bool.{cases_eq}
use Rattle.std.specs.Ordering.{nat_cmp, is_lt, eq_by_cmp}
use Rattle.std.specs.Cmp.{nat_cmp_total}
use Rattle.std.specs.FinMap as map
use Rattle.std.specs.FinMap.Entries.{below_all}
use Rattle.std.specs.FinMap.{gets}
use Rattle.congee.specs.forms.Places.{AllKeys, Rises}
use Rattle.congee.proofs.lemmas.forms.Entries.{find, put, del}
use Rattle.congee.proofs.lemmas.forms.EntryLemmas.{rises_put, rises_del, find_del}
use Rattle.congee.proofs.lemmas.Fits.{and_true}

-- the map's test of equal keys is that of equal numbers
pub same_is : (a b : ℕ) → eq_by_cmp nat_cmp a b ≡ eqb a b
same_is a b = grind (arith, nat_tests)

-- the map's look-up in a list is the one by tests of numbers
pub find_std : {X : Type 0} (q : ℕ) (es : List (ℕ × X)) → map.find nat_cmp q es ≡ find q es
find_std q [] = refl
find_std q ((k, x) ∷ r) = rw (same_is q k) (ap (cond (eqb q k) (Some x)) (find_std q r))

-- the map's insertion into a list is the one by tests of numbers
put_std : {X : Type 0} (q : ℕ) (v : X) (es : List (ℕ × X)) → map.put nat_cmp q v es ≡ put q v es
put_std q v [] = refl
put_std q v ((k, x) ∷ r) = grind (arith, nat_tests, put_std q v r)

less_is : (a b : ℕ) → a < b → is_lt (nat_cmp a b) ≡ true
less_is a b l = grind (arith, nat_tests)

below_all_std : {X : Type 0} (k : ℕ) (es : List (ℕ × X)) → AllKeys (λ j. k < j) es → below_all nat_cmp k es ≡ true
below_all_std k [] a = refl
below_all_std k ((j, x) ∷ r) a = and_true _ _ (less_is k j a.0) (below_all_std k r a.1)

is_sorted_true : {X : Type 0} (es : List (ℕ × X)) → Rises es → map.is_sorted nat_cmp es ≡ true
is_sorted_true [] r = refl
is_sorted_true ((k, x) ∷ es) r = and_true _ _ (below_all_std k es r.0) (is_sorted_true es r.1)

-- a rising list is sorted as the map wants it
is_sorted_std : {X : Type 0} (es : List (ℕ × X)) → Rises es → T (map.is_sorted nat_cmp es)
is_sorted_std es r = subst T (sym (is_sorted_true es r)) tt

module _ {X : Type 0} where
  -- the map of a rising list
  abbrev map_of : List (ℕ × X) → map.FinMap nat_cmp X
  map_of es = map.from_sorted es

  entries_of : (es : List (ℕ × X)) → Rises es → map.entries (map_of es) ≡ es
  entries_of es r = map.entries-from_sorted nat_cmp es (is_sorted_std es r)

  -- the map of a rising list has what is found in the list
  pub get_of : (es : List (ℕ × X)) (q : ℕ) → Rises es → map.get (map_of es) q ≡ find q es
  get_of es q r = map.get-from_sorted nat_cmp es q (is_sorted_std es r) ∙ find_std q es

  -- the map of a rising list is as long as the list
  pub len_of : (es : List (ℕ × X)) → Rises es → map.len (map_of es) ≡ length es
  len_of es r = map.len-entries (map_of es) ∙ ap length (entries_of es r)

  -- a pair put in a rising list is put in its map
  pub put_of : (es : List (ℕ × X)) (q : ℕ) (x : X) → Rises es → map_of (put q x es) ≡ map.insert (map_of es) q x
  put_of es q x r = map.same_entries_map _ _ (entries_of (put q x es) (rises_put q x es r) ∙ sym (map.entries-insert nat_cmp_total (map_of es) q x ∙ ap (map.put nat_cmp q x) (entries_of es r) ∙ put_std q x es))

  -- a pair taken out of a rising list is taken out of its map
  pub del_of : (es : List (ℕ × X)) (q : ℕ) → Rises es → map_of (del q es) ≡ map.remove (map_of es) q
  del_of es q r = map.same_map nat_cmp_total map.nat_cmp-IsAntisymmetric _ _ (λ k.
      get_of (del q es) k (rises_del q es r) ∙ find_del q k es
      ∙ sym (map.get-remove nat_cmp_total (map_of es) q k ∙ rw (same_is k q, get_of es k r) refl))

module _ {X : Type 0} (m : map.FinMap nat_cmp X) (k : ℕ) where
  -- an insert of a new key lengthens a map by one
  pub len_new : (x : X) → map.get m k ≡ None → map.len (map.insert m k x) ≡ map.len m + 1
  len_new x e = map.len-insert nat_cmp_total m k x ∙ rw e refl

  -- an insert of a key that is there leaves the length
  pub len_again : (x : X) → IsSome (map.get m k) → map.len (map.insert m k x) ≡ map.len m
  len_again x s = map.len-insert nat_cmp_total m k x ∙ rw s refl

  -- a map that has a key isn't empty
  pub some_len : IsSome (map.get m k) → 0 < map.len m
  some_len s =
      elim (cases_eq (map.len m) 0) [
        | inl e ↦ let none : map.get m k ≡ None = ap (λ n. map.get n k) (map.empty_of_len m e) ∙ map.get-empty nat_cmp k in absurd (cc (s, none))
        | inr n ↦ omega (arith, n)
      ]

  -- the removal of a key that is there shortens a map by one
  pub len_less : IsSome (map.get m k) → map.len (map.remove m k) + 1 ≡ map.len m
  len_less s = let e : map.len (map.remove m k) ≡ map.len m - 1 = map.len-remove nat_cmp_total m k ∙ rw s refl in omega (arith, some_len s)

module _ {X : Type 0} where
  -- where a pair was put in, the map has it
  pub insert_at : (m : map.FinMap nat_cmp X) (k : ℕ) (x : X) → map.get (map.insert m k x) k ≡ Some x
  insert_at m k x = grind (gets, rules)

  -- a pair that is put in changes nothing at other keys
  pub insert_beside : (m : map.FinMap nat_cmp X) (k : ℕ) (x : X) (q : ℕ) → q ≢ k → map.get (map.insert m k x) q ≡ map.get m q
  insert_beside m k x q ne = grind (gets, rules, ne)

  -- where a pair was taken out, the map has nothing
  pub remove_at : (m : map.FinMap nat_cmp X) (k : ℕ) → map.get (map.remove m k) k ≡ None
  remove_at m k = grind (gets, rules)

  -- a pair that is taken out changes nothing at other keys
  pub remove_beside : (m : map.FinMap nat_cmp X) (k : ℕ) (q : ℕ) → q ≢ k → map.get (map.remove m k) q ≡ map.get m q
  remove_beside m k q ne = grind (gets, rules, ne)

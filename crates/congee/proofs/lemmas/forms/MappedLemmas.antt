-- What a finite map answers after each value was changed by its key.
use Rattle.std.proofs.Common.{◌≡◌, ℕ, suc, Bool, true, false, cond, ◌&&◌, T, List, [], ◌∷◌, length, Option, None, Some, refl, sym, ap, ◌∙◌, subst}
use Rattle.std.specs.Option.{option_map}
use Rattle.std.specs.Ordering.{nat_cmp, is_lt, eq_by_cmp}
use Rattle.std.specs.Cmp.{nat_cmp_total}
use Rattle.std.specs.FinMap as map
use Rattle.std.specs.FinMap.Entries.{below_all}
use Rattle.congee.specs.forms.Bytes.{IsFirst}
use Rattle.congee.specs.forms.Mapped.{pairs_by, mapped}
use Rattle.congee.proofs.lemmas.Fits.{equal_of_test}
use Rattle.congee.proofs.lemmas.forms.MapLemmas.{same_is}

module _ {X Y : Type 0} (f : ℕ → X → Y) where
  below_by : (k : ℕ) (es : List (ℕ × X)) → below_all nat_cmp k (pairs_by f es) ≡ below_all nat_cmp k es
  below_by k [] = refl
  below_by k ((b, x) ∷ es) = ap (λ r. is_lt (nat_cmp k b) && r) (below_by k es)

  sorted_by : (es : List (ℕ × X)) → map.is_sorted nat_cmp (pairs_by f es) ≡ map.is_sorted nat_cmp es
  sorted_by [] = refl
  sorted_by ((b, x) ∷ es) = rw (below_by b es, sorted_by es) refl

  length_by : (es : List (ℕ × X)) → length (pairs_by f es) ≡ length es
  length_by [] = refl
  length_by ((b, x) ∷ es) = ap suc (length_by es)

  find_by : (q : ℕ) (es : List (ℕ × X)) → map.find nat_cmp q (pairs_by f es) ≡ option_map (f q) (map.find nat_cmp q es)
  find_by q [] = refl
  find_by q ((b, x) ∷ es) = of (eq_by_cmp nat_cmp q b) refl (find_by q es)
    where
      of : (t : Bool) → eq_by_cmp nat_cmp q b ≡ t → map.find nat_cmp q (pairs_by f es) ≡ option_map (f q) (map.find nat_cmp q es)
          → cond t (Some (f b x)) (map.find nat_cmp q (pairs_by f es)) ≡ option_map (f q) (cond t (Some x) (map.find nat_cmp q es))
      of true e later = let p : q ≡ b = equal_of_test q b (sym (same_is q b) ∙ e) in ap (λ k. Some (f k x)) (sym p)
      of false e later = later

  entries_mapped : (m : map.FinMap nat_cmp X) → map.entries (mapped f m) ≡ pairs_by f (map.entries m)
  unfolding mapped
  entries_mapped m = map.entries-from_sorted nat_cmp (pairs_by f (map.entries m)) (subst T (sym (sorted_by (map.entries m))) (map.entries_sorted m))

  -- a changed map has at each key the changed value, if there was one
  pub get_mapped : (m : map.FinMap nat_cmp X) (q : ℕ) → map.get (mapped f m) q ≡ option_map (f q) (map.get m q)
  get_mapped m q =
      map.get-entries (mapped f m) q ∙ (ap (map.find nat_cmp q) (entries_mapped m) ∙ (find_by q (map.entries m) ∙ ap (option_map (f q)) (sym (map.get-entries m q))))

  -- a changed map is as long as before
  pub len_mapped : (m : map.FinMap nat_cmp X) → map.len (mapped f m) ≡ map.len m
  len_mapped m = map.len-entries (mapped f m) ∙ (ap length (entries_mapped m) ∙ (length_by (map.entries m) ∙ sym (map.len-entries m)))

  -- two maps that answer alike are equal
  pub same_answers : {Z : Type 0} (m n : map.FinMap nat_cmp Z) → ((q : ℕ) → map.get m q ≡ map.get n q) → m ≡ n
  same_answers m n e = map.same_map nat_cmp_total map.nat_cmp-IsAntisymmetric m n e

  -- the empty map stays empty
  pub mapped_empty : mapped f map.empty ≡ map.empty
  mapped_empty = same_answers _ _ (λ q. get_mapped map.empty q ∙ (ap (option_map (f q)) (map.get-empty _ q) ∙ sym (map.get-empty _ q)))

  -- a pair put in before the change is the changed pair put in after it
  pub mapped_insert : (m : map.FinMap nat_cmp X) (k : ℕ) (x : X) → mapped f (map.insert m k x) ≡ map.insert (mapped f m) k (f k x)
  mapped_insert m k x = same_answers _ _ (λ q.
      get_mapped (map.insert m k x) q ∙ (ap (option_map (f q)) (map.get-insert nat_cmp_total m k x q) ∙ (of q (eq_by_cmp nat_cmp q k) refl ∙ sym (map.get-insert nat_cmp_total (mapped f m) k (f k x) q))))
    where
      of : (q : ℕ) (t : Bool) → eq_by_cmp nat_cmp q k ≡ t → option_map (f q) (cond t (Some x) (map.get m q)) ≡ cond t (Some (f k x)) (map.get (mapped f m) q)
      of q true e = let p : q ≡ k = equal_of_test q k (sym (same_is q k) ∙ e) in ap (λ n. Some (f n x)) p
      of q false e = sym (get_mapped m q)

  -- a pair taken out before the change is taken out after it
  pub mapped_remove : (m : map.FinMap nat_cmp X) (k : ℕ) → mapped f (map.remove m k) ≡ map.remove (mapped f m) k
  mapped_remove m k = same_answers _ _ (λ q.
      get_mapped (map.remove m k) q ∙ (ap (option_map (f q)) (map.get-remove nat_cmp_total m k q) ∙ (of q (eq_by_cmp nat_cmp q k) ∙ sym (map.get-remove nat_cmp_total (mapped f m) k q))))
    where
      of : (q : ℕ) (t : Bool) → option_map (f q) (cond t None (map.get m q)) ≡ cond t None (map.get (mapped f m) q)
      of q true = refl
      of q false = sym (get_mapped m q)

  -- nothing there, before and after
  pub none_mapped : (m : map.FinMap nat_cmp X) (q : ℕ) → map.get m q ≡ None → map.get (mapped f m) q ≡ None
  none_mapped m q e = get_mapped m q ∙ ap (option_map (f q)) e

  -- where a value was, the changed one is
  pub some_mapped : (m : map.FinMap nat_cmp X) (q : ℕ) (x : X) → map.get m q ≡ Some x → map.get (mapped f m) q ≡ Some (f q x)
  some_mapped m q x e = get_mapped m q ∙ ap (option_map (f q)) e

  -- where nothing is after the change nothing was
  pub mapped_none : (m : map.FinMap nat_cmp X) (q : ℕ) → map.get (mapped f m) q ≡ None → map.get m q ≡ None
  mapped_none m q e = of (map.get m q) (sym (get_mapped m q) ∙ e)
    where
      of : (o : Option X) → option_map (f q) o ≡ None → o ≡ None
      of None e = refl
      of (Some x) e = absurd (cc)

  -- the first pair from a key on, changed, is the first of the changed map
  pub first_mapped : (m : map.FinMap nat_cmp X) (from b : ℕ) (x : X) → IsFirst m from b x → IsFirst (mapped f m) from b (f b x)
  first_mapped m from b x i = record { past = i.past; here = some_mapped m b x i.here; before = λ q lo hi. none_mapped m q (i.before q lo hi) }

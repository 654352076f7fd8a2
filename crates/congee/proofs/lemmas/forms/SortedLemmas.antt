-- Children in the order of their bytes, and what stands where.
use Rattle.std.proofs.Common.{◌≡◌, ℕ, zero, suc, ◌<◌, ◌≤◌, List, [], ◌∷◌, ◌++◌, length, get_or, take, drop, refl, arith, sym, None, Some, IsSome, ap, subst, ◌∙◌, true, false}
use Rattle.std.specs.List.{insert, remove, refill}
use Rattle.std.proofs.Common.{cond, eqb}
use Rattle.std.proofs.Math.ListN.{set}
use Rattle.std.proofs.lemmas.Bool.Decides.{nat_tests}
use Rattle.std.proofs.lemmas.List.{length-set}
use Rattle.std.proofs.Math.Seq.{take-append_seam}
use Rattle.std.proofs.lemmas.List.Edits.{length-insert, length-remove}
use Rattle.std.specs.Ordering.{nat_cmp}
use Rattle.std.specs.FinMap as map
use Rattle.congee.specs.forms.Bytes.{IsFirst}
use Rattle.congee.specs.forms.Places.{pairs, AllKeys, Rises, IsSorted, sorted_map}
use Rattle.congee.proofs.lemmas.forms.Entries.{find, put, del}
use Rattle.congee.proofs.lemmas.forms.EntryLemmas.{AllKeys-put, AllKeys-del, rises_put, rises_del, found_all}
use Rattle.congee.proofs.lemmas.forms.MapLemmas.{get_of, len_of, put_of, del_of}

-- p is the place of b: the keys before it are less, and the one there isn't
pub record IsPlaceOf (b p : ℕ) (ks : List ℕ) : Type 0 where
  pub within : p ≤ length ks
  pub below : (i : ℕ) → i < p → get_or ks i 0 < b
  pub at : p < length ks → b ≤ get_or ks p 0

next_stands : {b p k : ℕ} {ks : List ℕ} → IsPlaceOf b (suc p) (k ∷ ks) → IsPlaceOf b p ks
next_stands {b} {p} {k} {ks} s = record {
  within = omega (arith, s.within);
  below = λ i h. s.below (suc i) (omega arith);
  at = λ h. s.at (omega arith);
}

module _ {X : Type 0} where
  -- smaller than every key of an ascending list: absent
  find_above : (b k : ℕ) (r : List (ℕ × X)) → b ≤ k → AllKeys (λ j. k < j) r → find b r ≡ None
  find_above b k [] h a = refl
  find_above b k ((j, x) ∷ r) h a = grind (arith, nat_tests, find_above b k r h a.1, a.0)

  del_above : (b k : ℕ) (r : List (ℕ × X)) → b ≤ k → AllKeys (λ j. k < j) r → del b r ≡ r
  del_above b k [] h a = refl
  del_above b k ((j, x) ∷ r) h a = grind (arith, nat_tests, del_above b k r h a.1, a.0)

  -- the key stands there
  find_found : (b p : ℕ) (ks : List ℕ) (ys : List X) (d : X) → length ks ≡ length ys → IsPlaceOf b p ks → p < length ks → get_or ks p 0 ≡ b → find b (pairs ks ys) ≡ Some (get_or ys p d)
  find_found b p [] ys d l s h e = absurd (omega arith)
  find_found b p (k ∷ ks) [] d l s h e = absurd (omega arith)
  find_found b zero (k ∷ ks) (y ∷ ys) d l s h e = grind (arith, nat_tests)
  find_found b (suc p) (k ∷ ks) (y ∷ ys) d l s h e =
      let less : k < b = s.below 0 (omega arith) in
      let rest = find_found b p ks ys d (omega arith) (next_stands s) (omega arith) e in
      grind (arith, nat_tests, less, rest)

  -- the key stands nowhere
  find_absent : (b p : ℕ) (ks : List ℕ) (ys : List X) → length ks ≡ length ys → Rises (pairs ks ys) → IsPlaceOf b p ks → (p < length ks → b < get_or ks p 0) → find b (pairs ks ys) ≡ None
  find_absent b p [] ys l r s h = refl
  find_absent b p (k ∷ ks) [] l r s h = refl
  find_absent b zero (k ∷ ks) (y ∷ ys) l r s h =
      let less : b < k = h (omega arith) in
      let rest = find_above b k (pairs ks ys) (omega arith) r.0 in
      grind (arith, nat_tests, less, rest)
  find_absent b (suc p) (k ∷ ks) (y ∷ ys) l r s h =
      let less : k < b = s.below 0 (omega arith) in
      let rest = find_absent b p ks ys (omega arith) r.1 (next_stands s) (λ m. h (omega arith)) in
      grind (arith, nat_tests, less, rest)

  -- a new key
  insert_put : (b p : ℕ) (y : X) (ks : List ℕ) (ys : List X) → length ks ≡ length ys → IsPlaceOf b p ks → (p < length ks → b < get_or ks p 0) → pairs (insert ks p b) (insert ys p y) ≡ put b y (pairs ks ys)
  insert_put b zero y [] [] l s h = refl
  insert_put b (suc p) y [] ys l s h = absurd (omega (arith, s.within))
  insert_put b p y [] (z ∷ ys) l s h = absurd (omega arith)
  insert_put b p y (k ∷ ks) [] l s h = absurd (omega arith)
  insert_put b zero y (k ∷ ks) (z ∷ ys) l s h =
      let less : b < k = h (omega arith) in
      grind (arith, nat_tests, less)
  insert_put b (suc p) y (k ∷ ks) (z ∷ ys) l s h =
      let less : k < b = s.below 0 (omega arith) in
      let rest = insert_put b p y ks ys (omega arith) (next_stands s) (λ m. h (omega arith)) in
      grind (arith, nat_tests, less, rest)

  -- the key goes
  remove_del : (b p : ℕ) (ks : List ℕ) (ys : List X) → length ks ≡ length ys → Rises (pairs ks ys) → IsPlaceOf b p ks → p < length ks → get_or ks p 0 ≡ b → pairs (remove ks p) (remove ys p) ≡ del b (pairs ks ys)
  remove_del b p [] ys l r s h e = absurd (omega arith)
  remove_del b p (k ∷ ks) [] l r s h e = absurd (omega arith)
  remove_del b zero (k ∷ ks) (y ∷ ys) l r s h e =
      let rest = del_above b k (pairs ks ys) (omega arith) r.0 in
      grind (arith, nat_tests, rest)
  remove_del b (suc p) (k ∷ ks) (y ∷ ys) l r s h e =
      let less : k < b = s.below 0 (omega arith) in
      let rest = remove_del b p ks ys (omega arith) r.1 (next_stands s) (omega arith) e in
      grind (arith, nat_tests, less, rest)

  -- another child for the key
  set_put : (b p : ℕ) (y : X) (ks : List ℕ) (ys : List X) → length ks ≡ length ys → IsPlaceOf b p ks → p < length ks → get_or ks p 0 ≡ b → pairs ks (set ys p y) ≡ put b y (pairs ks ys)
  set_put b p y [] ys l s h e = absurd (omega arith)
  set_put b p y (k ∷ ks) [] l s h e = absurd (omega arith)
  set_put b zero y (k ∷ ks) (z ∷ ys) l s h e = grind (arith, nat_tests)
  set_put b (suc p) y (k ∷ ks) (z ∷ ys) l s h e =
      let less : k < b = s.below 0 (omega arith) in
      let rest = set_put b p y ks ys (omega arith) (next_stands s) (omega arith) e in
      grind (arith, nat_tests, less, rest)

  length_pairs : (ks : List ℕ) (ys : List X) → length ks ≡ length ys → length (pairs ks ys) ≡ length ks
  length_pairs [] ys l = refl
  length_pairs (k ∷ ks) [] l = sym l
  length_pairs (k ∷ ks) (y ∷ ys) l = omega (arith, length_pairs ks ys (omega arith))

  -- a key that is absent isn't at its place
  less_there : (b p : ℕ) (ks : List ℕ) (ys : List X) → length ks ≡ length ys → IsPlaceOf b p ks → find b (pairs ks ys) ≡ None → p < length ks → b < get_or ks p 0
  less_there b p [] ys l s f h = absurd (omega arith)
  less_there b p (k ∷ ks) [] l s f h = absurd (omega arith)
  less_there b zero (k ∷ ks) (y ∷ ys) l s f h =
      let at : b ≤ k = s.at h in
      grind (arith, nat_tests, at, f)
  less_there b (suc p) (k ∷ ks) (y ∷ ys) l s f h =
      let less : k < b = s.below 0 (omega arith) in
      let rest : find b (pairs ks ys) ≡ None = grind (arith, nat_tests, less, f) in
      less_there b p ks ys (omega arith) (next_stands s) rest (omega arith)

module _ {X : Type 0} where
  there_of : (b p : ℕ) (ks : List ℕ) (ys : List X) → length ks ≡ length ys → Rises (pairs ks ys) → IsPlaceOf b p ks → IsSome (find b (pairs ks ys)) → (p < length ks) × (get_or ks p 0 ≡ b)
  there_of b p [] ys l r s h = absurd (cc h)
  there_of b p (k ∷ ks) [] l r s h = absurd (cc h)
  there_of b zero (k ∷ ks) (y ∷ ys) l r s h =
      elim (eqb b k) as (λ t. eqb b k ≡ t → IsSome (cond t (Some y) (find b (pairs ks ys))) → (0 < suc (length ks)) × (k ≡ b)) [
        | true ↦ λ e g. (omega arith, grind (arith, nat_tests, e))
        | false ↦ λ e g. let none = find_above b k (pairs ks ys) (s.at (omega arith)) r.0 in absurd (cc (g, none))
      ] refl h
  there_of b (suc p) (k ∷ ks) (y ∷ ys) l r s h =
      let less : k < b = s.below 0 (omega arith) in
      let rest : IsSome (find b (pairs ks ys)) = grind (arith, nat_tests, less, h) in
      let at = there_of b p ks ys (omega arith) r.1 (next_stands s) rest in
      (omega (arith, at.0), at.1)

module _ {X : Type 0} {ks : List ℕ} {ys : List X} (ok : IsSorted ks ys) where
  get_is : (b : ℕ) → map.get (sorted_map ks ys) b ≡ find b (pairs ks ys)
  get_is b = get_of (pairs ks ys) b ok.rises

  -- a byte that stands at its place has the child beside it
  pub get_found : (b p : ℕ) (d : X) → IsPlaceOf b p ks → p < length ks → get_or ks p 0 ≡ b → map.get (sorted_map ks ys) b ≡ Some (get_or ys p d)
  get_found b p d s l e = get_is b ∙ find_found b p ks ys d ok.same s l e

  -- a byte that is less than the one at its place has no child
  pub get_absent : (b p : ℕ) → IsPlaceOf b p ks → (p < length ks → b < get_or ks p 0) → map.get (sorted_map ks ys) b ≡ None
  get_absent b p s h = get_is b ∙ find_absent b p ks ys ok.same ok.rises s h

  -- there are as many children as bytes
  pub len_is : map.len (sorted_map ks ys) ≡ length ks
  len_is = len_of (pairs ks ys) ok.rises ∙ length_pairs ks ys ok.same

  -- what has a child is a byte
  pub is_byte : (b : ℕ) → IsSome (map.get (sorted_map ks ys) b) → b < 256
  is_byte b s = found_all (λ c. c < 256) b (pairs ks ys) ok.bytes (subst IsSome (get_is b) s)

  -- a byte that is present stands at its place
  pub stands_there : (b p : ℕ) → IsPlaceOf b p ks → IsSome (map.get (sorted_map ks ys) b) → (p < length ks) × (get_or ks p 0 ≡ b)
  stands_there b p s h = there_of b p ks ys ok.same ok.rises s (subst IsSome (get_is b) h)

  -- a new byte and its child at the byte's place are put in the map, in order
  pub insert_map : (b p : ℕ) (y : X) → b < 256 → IsPlaceOf b p ks → map.get (sorted_map ks ys) b ≡ None
      → IsSorted (insert ks p b) (insert ys p y) × (sorted_map (insert ks p b) (insert ys p y) ≡ map.insert (sorted_map ks ys) b y)
  insert_map b p y byte s none =
      let less = less_there b p ks ys ok.same s (sym (get_is b) ∙ none) in
      let e = insert_put b p y ks ys ok.same s less in (
        record {
          same = omega (arith, ok.same, length-insert ks p b s.within, length-insert ys p y (omega (arith, ok.same, s.within)));
          rises = rw e (rises_put b y (pairs ks ys) ok.rises);
          bytes = rw e (AllKeys-put (λ c. c < 256) b y (pairs ks ys) byte ok.bytes);
        },
        rw e (put_of (pairs ks ys) b y ok.rises),
      )

  -- a byte and its child, taken from their place, are taken out of the map, in order
  pub remove_map : (b p : ℕ) → IsPlaceOf b p ks → IsSome (map.get (sorted_map ks ys) b)
      → IsSorted (remove ks p) (remove ys p) × (sorted_map (remove ks p) (remove ys p) ≡ map.remove (sorted_map ks ys) b)
  remove_map b p s h =
      let at = stands_there b p s h in
      let e = remove_del b p ks ys ok.same ok.rises s at.0 at.1 in (
        record {
          same = omega (arith, ok.same, length-remove ks p at.0, length-remove ys p (omega (arith, ok.same, at.0)));
          rises = rw e (rises_del b (pairs ks ys) ok.rises);
          bytes = rw e (AllKeys-del (λ c. c < 256) b (pairs ks ys) ok.bytes);
        },
        rw e (del_of (pairs ks ys) b ok.rises),
      )

  -- another child at a byte's place is put in the map for the byte
  pub change_map : (b p : ℕ) (y : X) → b < 256 → IsPlaceOf b p ks → IsSome (map.get (sorted_map ks ys) b)
      → IsSorted ks (set ys p y) × (sorted_map ks (set ys p y) ≡ map.insert (sorted_map ks ys) b y)
  change_map b p y byte s h =
      let at = stands_there b p s h in
      let e = set_put b p y ks ys ok.same s at.0 at.1 in (
        record {
          same = omega (arith, ok.same, length-set ys p y);
          rises = rw e (rises_put b y (pairs ks ys) ok.rises);
          bytes = rw e (AllKeys-put (λ c. c < 256) b y (pairs ks ys) byte ok.bytes);
        },
        rw e (put_of (pairs ks ys) b y ok.rises),
      )

  -- the place of the first byte from `from` on
  pub is_first : (from p : ℕ) (d : X) → IsPlaceOf from p ks → p < length ks → IsFirst (sorted_map ks ys) from (get_or ks p 0) (get_or ys p d)
  is_first from p d s l =
      let least = s.at l in
      record {
        past = least;
        here = get_found (get_or ks p 0) p d (record { within = s.within; below = λ i m. omega (arith, s.below i m, least); at = λ m. omega arith }) l refl;
        before = λ q h g. get_absent q p (record { within = s.within; below = λ i m. omega (arith, s.below i m); at = λ m. omega arith }) (λ m. g);
      }

  -- where a byte's place is past the last one, no byte from it on has a child
  pub none_from : (from p : ℕ) → IsPlaceOf from p ks → p ≡ length ks → (b : ℕ) → from ≤ b → map.get (sorted_map ks ys) b ≡ None
  none_from from p s e b h = get_absent b p (record { within = s.within; below = λ i m. omega (arith, s.below i m); at = λ m. absurd (omega arith) }) (λ m. absurd (omega arith))

no_length : {Y : Type 0} (xs : List Y) → length xs ≡ 0 → xs ≡ []
no_length [] e = refl
no_length (x ∷ xs) e = absurd (omega (arith, e))

module _ {X : Type 0} where
  keys_beside : (P : ℕ → Type 0) (ks : List ℕ) (ys zs : List X) → length ks ≡ length ys → length ks ≡ length zs → AllKeys P (pairs ks ys) → AllKeys P (pairs ks zs)
  keys_beside P [] ys zs l m h = tt
  keys_beside P (k ∷ ks) ys [] l m h = absurd (omega (arith, m))
  keys_beside P (k ∷ ks) [] (z ∷ zs) l m h = absurd (omega (arith, l))
  keys_beside P (k ∷ ks) (y ∷ ys) (z ∷ zs) l m h = (h.0, keys_beside P ks ys zs (omega (arith, l)) (omega (arith, m)) h.1)

  rises_beside : (ks : List ℕ) (ys zs : List X) → length ks ≡ length ys → length ks ≡ length zs → Rises (pairs ks ys) → Rises (pairs ks zs)
  rises_beside [] ys zs l m h = tt
  rises_beside (k ∷ ks) ys [] l m h = absurd (omega (arith, m))
  rises_beside (k ∷ ks) [] (z ∷ zs) l m h = absurd (omega (arith, l))
  rises_beside (k ∷ ks) (y ∷ ys) (z ∷ zs) l m h = (
    keys_beside (λ c. k < c) ks ys zs (omega (arith, l)) (omega (arith, m)) h.0,
    rises_beside ks ys zs (omega (arith, l)) (omega (arith, m)) h.1,
  )

  -- bytes that rise beside children rise beside as many others
  pub sorted_beside : (ks : List ℕ) (ys zs : List X) → IsSorted ks ys → length zs ≡ length ys → IsSorted ks zs
  sorted_beside ks ys zs ok l =
      let m : length ks ≡ length zs = omega (arith, ok.same, l) in
      record {
        same = m;
        rises = rises_beside ks ys zs ok.same m ok.rises;
        bytes = keys_beside (λ b. b < 256) ks ys zs ok.same m ok.bytes;
      }

  -- the empty map is held by no bytes and no children
  pub none_held : (ks : List ℕ) (ys : List X) → IsSorted ks ys → sorted_map ks ys ≡ map.empty → (ks ≡ []) × (ys ≡ [])
  none_held ks ys ok e =
      let none : length ks ≡ 0 = omega (arith, len_is ok, ap map.len e, map.len-empty nat_cmp X) in
      (no_length ks none, no_length ys (omega (arith, none, ok.same)))

  -- no bytes hold the empty map
  pub no_pairs : (ks : List ℕ) (ys : List X) → ks ≡ [] → sorted_map ks ys ≡ map.empty
  no_pairs ks ys e = rw e (map.empty_of_len _ (len_of [] tt))

  -- a write through the whole slice is a write of the element
  pub refill_set : (xs : List X) (i : ℕ) (x : X) → refill (length xs) xs (set xs i x) ≡ set xs i x
  refill_set xs i x = subst (λ n. take n (set xs i x ++ drop (length (set xs i x)) xs) ≡ set xs i x) (length-set xs i x) (take-append_seam (set xs i x) (drop (length (set xs i x)) xs))

-- Children by an index of places.
use Rattle.std.proofs.Common.{◌≡◌, ◌≢◌, ℕ, zero, suc, ◌<◌, ◌≤◌, ◌+◌, eqb, cond, true, false, List, [], ◌∷◌, length, get_or, set, Option, None, Some, IsSome, refl, inl, inr, sym, ap, ◌∙◌, arith}
use Rattle.std.proofs.lemmas.Bool.Decides.{nat_tests}
use Rattle.std.proofs.lemmas.Bool.{cases_lt, cases_eq}
use Rattle.std.proofs.lemmas.List.{get_or_past, get_or-set_same, get_or-set_other, length-set}
use Rattle.std.proofs.lemmas.Option.{slice_get_past, slice_get-get_or}
use Rattle.std.specs.List.{slice_get}
use Rattle.std.specs.Ordering.{nat_cmp}
use Rattle.std.specs.FinMap as map
use Rattle.congee.specs.declared.forms.index.Index.{Index}
use Rattle.congee.specs.forms.Bytes.{IsFirst}
use Rattle.congee.specs.forms.Index.{place_of, IsIndex, at_places, indexed_map, IsIndexed}
use Rattle.congee.proofs.lemmas.forms.MapLemmas.{len_new, len_again, len_less, some_len}
use Rattle.congee.proofs.lemmas.forms.ByteLemmas.{get_by, within_by, empty_by, insert_by, remove_by}

-- a test of two bytes, from what holds where they are equal and where they are not
pub by_byte : {Z : Type 0} (q b : ℕ) (z s o : Z) → (q ≡ b → z ≡ s) → (q ≢ b → z ≡ o) → z ≡ cond (eqb q b) s o
by_byte q b z s o same other = elim (cases_eq q b) [ inl e ↦ let t : eqb q b ≡ true = grind (arith, nat_tests, e) in rw t (same e) | inr n ↦ let t : eqb q b ≡ false = grind (arith, nat_tests, n) in rw t (other n) ]

module _ {X : Type 0} where
  at_is : (ps : List ℕ) (xs : List X) (q : ℕ) → q < length ps → get_or (at_places ps xs) q None ≡ slice_get xs (get_or ps q 0)
  at_is [] xs q l = absurd (omega arith)
  at_is (p ∷ r) xs zero l = refl
  at_is (p ∷ r) xs (suc q) l = at_is r xs q (omega arith)

  length_at : (ps : List ℕ) (xs : List X) → length (at_places ps xs) ≡ length ps
  length_at [] xs = refl
  length_at (p ∷ r) xs = ap suc (length_at r xs)

  get_set_same : (xs : List X) (i : ℕ) (x : X) → i < length xs → slice_get (set xs i x) i ≡ Some x
  get_set_same [] i x l = absurd (omega arith)
  get_set_same (y ∷ xs) zero x l = refl
  get_set_same (y ∷ xs) (suc i) x l = get_set_same xs i x (omega arith)

  get_set_other : (xs : List X) (i j : ℕ) (x : X) → j ≢ i → slice_get (set xs i x) j ≡ slice_get xs j
  get_set_other [] i j x n = refl
  get_set_other (y ∷ xs) zero zero x n = absurd (n refl)
  get_set_other (y ∷ xs) zero (suc j) x n = refl
  get_set_other (y ∷ xs) (suc i) zero x n = refl
  get_set_other (y ∷ xs) (suc i) (suc j) x n = get_set_other xs i j x (λ e. n (ap suc e))

  -- two indexes and their children that agree at every byte but b
  points : (x y : Index) (xs ys : List X) (b : ℕ) (o : Option X) → length x.places ≡ 256 → length y.places ≡ 256 → b < 256 → slice_get ys (place_of y b) ≡ o
      → ((q : ℕ) → q < 256 → q ≢ b → slice_get ys (place_of y q) ≡ slice_get xs (place_of x q))
      → (q : ℕ) → get_or (at_places y.places ys) q None ≡ cond (eqb q b) o (get_or (at_places x.places xs) q None)
  points x y xs ys b o lx ly l same other q = elim (cases_lt q 256) [
    | inl h ↦ by_byte q b _ o _
        (λ e. at_is y.places ys q (omega (arith, ly)) ∙ ap (λ k. slice_get ys (place_of y k)) e ∙ same)
        (λ n. at_is y.places ys q (omega (arith, ly)) ∙ other q h n ∙ sym (at_is x.places xs q (omega (arith, lx))))
    | inr h ↦ by_byte q b _ o _
        (λ e. absurd (omega (arith, e)))
        (λ n. get_or_past (at_places y.places ys) q None (omega (arith, length_at y.places ys, ly)) ∙ sym (get_or_past (at_places x.places xs) q None (omega (arith, length_at x.places xs, lx))))
  ]

module _ {X : Type 0} {x : Index} {xs : List X} (ok : IsIndexed x xs) where
  -- what has a child is a byte
  pub is_byte : (b : ℕ) → IsSome (map.get (indexed_map x xs) b) → b < 256
  is_byte b s = omega (arith, within_by (at_places x.places xs) b s, length_at x.places xs, ok.index.places_len)

  -- a byte's child is what stands at its place
  pub get_is : (b : ℕ) → b < 256 → map.get (indexed_map x xs) b ≡ slice_get xs (place_of x b)
  get_is b l = get_by (at_places x.places xs) b ∙ at_is x.places xs b (omega (arith, ok.index.places_len))

  -- past the last byte there is no child
  pub none_past : (b : ℕ) → 256 ≤ b → map.get (indexed_map x xs) b ≡ None
  none_past b l = get_by (at_places x.places xs) b ∙ get_or_past (at_places x.places xs) b None (omega (arith, length_at x.places xs, ok.index.places_len))

  -- a byte without a child has place 48, which is none
  pub absent_place : (d : X) (b : ℕ) → b < 256 → map.get (indexed_map x xs) b ≡ None → place_of x b ≡ 48
  absent_place d b l none = elim (cases_lt (place_of x b) 48) [
    | inl h ↦ let some = slice_get-get_or xs (place_of x b) d (omega (arith, ok.places)) in absurd (cc (some, none, get_is b l))
    | inr h ↦ omega (arith, ok.index.bounded b l)
  ]

  -- a byte with a child has one of the 48 places
  pub present_place : (b : ℕ) → b < 256 → IsSome (map.get (indexed_map x xs) b) → place_of x b < 48
  present_place b l s = elim (cases_lt (place_of x b) 48) [
    | inl h ↦ h
    | inr h ↦ let none = slice_get_past xs (place_of x b) (omega (arith, ok.places)) in absurd (cc (s, none, get_is b l))
  ]

  -- an index in which a byte has a child counts one at least
  pub some_count : (b : ℕ) → IsSome (map.get (indexed_map x xs) b) → 0 < x.len
  some_count b s = omega (arith, some_len (indexed_map x xs) b s, ok.count)

  -- a byte without a place has no child
  pub get_blank : (b : ℕ) → b < 256 → place_of x b ≡ 48 → map.get (indexed_map x xs) b ≡ None
  get_blank b l e = get_is b l ∙ slice_get_past xs (place_of x b) (omega (arith, e, ok.places))

  -- a byte with a place has the child there
  pub get_there : (b : ℕ) (d : X) → b < 256 → place_of x b ≢ 48 → map.get (indexed_map x xs) b ≡ Some (get_or xs (place_of x b) d)
  get_there b d l n = get_is b l ∙ slice_get-get_or xs (place_of x b) d (omega (arith, n, ok.index.bounded b l, ok.places))

  -- the first byte with a place from one on is the first with a child
  pub is_first : (from b : ℕ) (d : X) → b < 256 → from ≤ b → place_of x b ≢ 48 → ((q : ℕ) → from ≤ q → q < b → place_of x q ≡ 48) → IsFirst (indexed_map x xs) from b (get_or xs (place_of x b) d)
  is_first from b d l h n before = record { past = h; here = get_there b d l n; before = λ q g m. get_blank q (omega arith) (before q g m) }

  -- where no byte has a place from one on, none has a child
  pub none_from : (from : ℕ) → ((q : ℕ) → from ≤ q → q < 256 → place_of x q ≡ 48) → (q : ℕ) → from ≤ q → map.get (indexed_map x xs) q ≡ None
  none_from from h q g = elim (cases_lt q 256) [ inl l ↦ get_blank q l (h q g l) | inr l ↦ none_past q l ]

  here : (b p : ℕ) (y : Index) → b < 256 → y.places ≡ set x.places b p → place_of y b ≡ p
  here b p y l places = ap (λ ps. get_or ps b 0) places ∙ get_or-set_same x.places b p 0 (omega (arith, ok.index.places_len))

  there : (b p : ℕ) (y : Index) → y.places ≡ set x.places b p → (q : ℕ) → q ≢ b → place_of y q ≡ place_of x q
  there b p y places q n = ap (λ ps. get_or ps q 0) places ∙ get_or-set_other x.places b q p 0 n

  apart : (b q : ℕ) → b < 256 → q < 256 → place_of x b < 48 → q ≢ b → place_of x q ≢ place_of x b
  apart b q l h m n e = n (sym (ok.index.injective b q l h m (sym e)))

  -- a child at a place that no byte had
  pub inserted_map : (b p : ℕ) (c : X) (y : Index) → b < 256 → map.get (indexed_map x xs) b ≡ None → p < 48 → y.places ≡ set x.places b p → ((q : ℕ) → q < 256 → place_of x q ≢ p) → IsIndex y → y.len ≡ x.len + 1
      → IsIndexed y (set xs p c) × (indexed_map y (set xs p c) ≡ map.insert (indexed_map x xs) b c)
  inserted_map b p c y l none within places fresh index len =
      let e : indexed_map y (set xs p c) ≡ map.insert (indexed_map x xs) b c = insert_by (at_places x.places xs) (at_places y.places (set xs p c)) b c (points x y xs (set xs p c) b (Some c) ok.index.places_len (ap length places ∙ length-set x.places b p ∙ ok.index.places_len) l
      (ap (λ k. slice_get (set xs p c) k) (here b p y l places) ∙ get_set_same xs p c (omega (arith, ok.places)))
      (λ q h n. ap (λ k. slice_get (set xs p c) k) (there b p y places q n) ∙ get_set_other xs p (place_of x q) c (fresh q h))) in (
        record {
          index = index;
          places = length-set xs p c ∙ ok.places;
          count = ap map.len e ∙ len_new (indexed_map x xs) b c none ∙ omega (arith, ok.count, len);
        },
        e,
      )

  -- another child at a byte's place
  pub changed_map : (b : ℕ) (c : X) → b < 256 → IsSome (map.get (indexed_map x xs) b)
      → IsIndexed x (set xs (place_of x b) c) × (indexed_map x (set xs (place_of x b) c) ≡ map.insert (indexed_map x xs) b c)
  changed_map b c l s =
      let e : indexed_map x (set xs (place_of x b) c) ≡ map.insert (indexed_map x xs) b c = insert_by (at_places x.places xs) (at_places x.places (set xs (place_of x b) c)) b c (points x x xs (set xs (place_of x b) c) b (Some c) ok.index.places_len ok.index.places_len l
      (get_set_same xs (place_of x b) c (omega (arith, ok.places, present_place b l s)))
      (λ q h n. get_set_other xs (place_of x b) (place_of x q) c (apart b q l h (present_place b l s) n))) in (
        record {
          index = ok.index;
          places = length-set xs (place_of x b) c ∙ ok.places;
          count = ap map.len e ∙ len_again (indexed_map x xs) b c s ∙ ok.count;
        },
        e,
      )

  -- a byte's place taken away, and a blank put there
  pub removed_map : (b : ℕ) (c : X) (y : Index) → b < 256 → IsSome (map.get (indexed_map x xs) b) → y.places ≡ set x.places b 48 → IsIndex y → y.len + 1 ≡ x.len
      → IsIndexed y (set xs (place_of x b) c) × (indexed_map y (set xs (place_of x b) c) ≡ map.remove (indexed_map x xs) b)
  removed_map b c y l s places index len =
      let e : indexed_map y (set xs (place_of x b) c) ≡ map.remove (indexed_map x xs) b = remove_by (at_places x.places xs) (at_places y.places (set xs (place_of x b) c)) b (points x y xs (set xs (place_of x b) c) b None ok.index.places_len (ap length places ∙ length-set x.places b 48 ∙ ok.index.places_len) l
      (ap (λ k. slice_get (set xs (place_of x b) c) k) (here b 48 y l places) ∙ slice_get_past (set xs (place_of x b) c) 48 (omega (arith, length-set xs (place_of x b) c, ok.places)))
      (λ q h n. ap (λ k. slice_get (set xs (place_of x b) c) k) (there b 48 y places q n) ∙ get_set_other xs (place_of x b) (place_of x q) c (apart b q l h (present_place b l s) n))) in (
        record {
          index = index;
          places = length-set xs (place_of x b) c ∙ ok.places;
          count = ap map.len e ∙ omega (arith, len_less (indexed_map x xs) b s, ok.count, len);
        },
        e,
      )

module _ {X : Type 0} where
  -- an index in which every place is free
  pub no_children : (x : Index) (xs : List X) → IsIndex x → x.len ≡ 0 → ((b : ℕ) → b < 256 → place_of x b ≡ 48) → length xs ≡ 48 → IsIndexed x xs × (indexed_map x xs ≡ map.empty)
  no_children x xs index len none places =
      let e : indexed_map x xs ≡ map.empty = empty_by (at_places x.places xs) (λ q. elim (cases_lt q 256) [
        | inl l ↦ at_is x.places xs q (omega (arith, index.places_len)) ∙ slice_get_past xs (place_of x q) (omega (arith, none q l, places))
        | inr l ↦ get_or_past (at_places x.places xs) q None (omega (arith, length_at x.places xs, index.places_len))
      ]) in
      (record { index = index; places = places; count = ap map.len e ∙ map.len-empty nat_cmp X ∙ sym len }, e)

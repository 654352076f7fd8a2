-- The free list: taking the first free place, and giving one back.
use Rattle.std.proofs.Common.{◌≡◌, ℕ, zero, suc, ◌<◌, ◌+◌, ◌≢◌, List, [], ◌∷◌, length, get_or, set, refl, inl, inr, sym, ap, ◌∙◌, subst, arith}
use Rattle.std.proofs.lemmas.Bool.{cases_eq}
use Rattle.std.proofs.lemmas.List.{get_or-set_other, get_or-set_same, length-set}
use Rattle.congee.specs.declared.forms.index.Index.{Index}
use Rattle.congee.specs.forms.Index.{place_of, IsNoneOf, AreDistinct, IsLinked, IsIndex}

none_48 : (next : List ℕ) (f : ℕ) (chain : List ℕ) → IsLinked next f chain → IsNoneOf 48 chain
none_48 next f [] l = tt
none_48 next f (x ∷ r) l = (λ e. omega (arith, l.1), none_48 next _ r l.2)

linked_set : (next : List ℕ) (p v f : ℕ) (chain : List ℕ) → IsNoneOf p chain → IsLinked next f chain → IsLinked (set next p v) f chain
linked_set next p v f [] none l = l
linked_set next p v f (x ∷ r) none l =
    let ne : x ≢ p = λ e. none.0 (sym e) in
    (l.0, l.1, rw (get_or-set_other next p x v 0 ne) (linked_set next p v _ r none.1 l.2))

-- a free list by its first place and those behind it
pub record First (next : List ℕ) (first : ℕ) (chain rest : List ℕ) : Type 0 where
  pub is : chain ≡ first ∷ rest
  pub within : first < 48
  pub linked : IsLinked next (get_or next first 0) rest

first_of : (next : List ℕ) (first len : ℕ) (chain : List ℕ) → IsLinked next first chain → length chain + len ≡ 48 → len < 48 → (rest : List ℕ) × First next first chain rest
first_of next first len [] l e m = absurd (omega arith)
first_of next first len (x ∷ r) l e m =
    (r, record { is = ap (λ n. n ∷ r) (sym l.0); within = omega (arith, l.0, l.1); linked = rw l.0 l.2 })

module _ (x : Index) (ok : IsIndex x) where
  -- an index with fewer than 48 children has a first free place
  pub first : x.len < 48 → (rest : List ℕ) × First x.next x.free ok.chain rest
  first m = first_of x.next x.free x.len ok.chain ok.linked ok.counted m

  -- the first free place of an index with fewer than 48 children is one of the 48
  pub first_within : x.len < 48 → x.free < 48
  first_within m = (first m).1.within

  apart_first : (m : x.len < 48) (b : ℕ) → b < 256 → (place_of x b ≢ x.free) × IsNoneOf (place_of x b) (first m).0
  apart_first m b l = subst (λ c. IsNoneOf (place_of x b) c) (first m).1.is (ok.apart b l)

  -- the first free place is no byte's
  pub fresh : x.len < 48 → (b : ℕ) → b < 256 → place_of x b ≢ x.free
  fresh m b l = (apart_first m b l).0

  place_set : (i v b : ℕ) → i < 256 → b < 256 → (b ≢ i → get_or (set x.places i v) b 0 ≡ place_of x b) × (b ≡ i → get_or (set x.places i v) b 0 ≡ v)
  place_set i v b l m = (λ ne. get_or-set_other x.places i b v 0 ne, λ e. ap (λ k. get_or (set x.places i v) k 0) e ∙ get_or-set_same x.places i v 0 (omega (arith, ok.places_len)))

  -- an index is sound after a byte took the first free place
  pub inserted : (byte : ℕ) (y : Index) → byte < 256 → place_of x byte ≡ 48 → x.len < 48 → y.len ≡ x.len + 1 → y.free ≡ get_or x.next x.free 0 → y.places ≡ set x.places byte x.free → y.next ≡ x.next → IsIndex y
  inserted byte y lb absent m len free places next =
      let f = (first m).1 in
      let d : AreDistinct (x.free ∷ (first m).0) = subst AreDistinct f.is ok.distinct in
      let at = λ (b : ℕ) (l : b < 256). place_set byte x.free b lb l in
      record {
        chain = (first m).0;
        linked = rw (next, free) f.linked;
        distinct = d.1;
        counted = omega (arith, ok.counted, ap length f.is, len);
        apart = λ b l. rw places (elim (cases_eq b byte) [
          | inl same ↦ rw ((at b l).1 same) d.0
          | inr other ↦ rw ((at b l).0 other) (apart_first m b l).1
        ]);
        injective = λ a b la lb2. rw places (elim (cases_eq a byte) [
          | inl sa ↦ elim (cases_eq b byte) [
            | inl sb ↦ λ h e. omega arith
            | inr ob ↦ rw ((at a la).1 sa, (at b lb2).0 ob) (λ h e. absurd (fresh m b lb2 (sym e)))
          ]
          | inr oa ↦ elim (cases_eq b byte) [
            | inl sb ↦ rw ((at a la).0 oa, (at b lb2).1 sb) (λ h e. absurd (fresh m a la e))
            | inr ob ↦ rw ((at a la).0 oa, (at b lb2).0 ob) (λ h e. ok.injective a b la lb2 h e)
          ]
        ]);
        bounded = λ b l. rw places (elim (cases_eq b byte) [ inl same ↦ rw ((at b l).1 same) (omega (arith, f.within)) | inr other ↦ rw ((at b l).0 other) (ok.bounded b l) ]);
        places_len = ap length places ∙ length-set x.places byte x.free ∙ ok.places_len;
        next_len = ap length next ∙ ok.next_len;
      }

  -- an index is sound after a byte's place was given back
  pub removed : (byte : ℕ) (y : Index) → byte < 256 → place_of x byte < 48 → y.len + 1 ≡ x.len → y.free ≡ place_of x byte → y.places ≡ set x.places byte 48 → y.next ≡ set x.next (place_of x byte) x.free → IsIndex y
  removed byte y lb m len free places next =
      let p = place_of x byte in
      let out = ok.apart byte lb in
      let at = λ (b : ℕ) (l : b < 256). place_set byte 48 b lb l in
      let here : get_or (set x.next p x.free) p 0 ≡ x.free = get_or-set_same x.next p x.free 0 (omega (arith, ok.next_len)) in
      record {
        chain = p ∷ ok.chain;
        linked = (free, m, subst (λ n. IsLinked n (get_or n p 0) ok.chain) (sym next) (subst (λ f. IsLinked (set x.next p x.free) f ok.chain) (sym here) (linked_set x.next p x.free x.free ok.chain out ok.linked)));
        distinct = (out, ok.distinct);
        counted = omega (arith, ok.counted, len);
        apart = λ b l. subst (λ ps. IsNoneOf (get_or ps b 0) (p ∷ ok.chain)) (sym places) (elim (cases_eq b byte) [
          | inl same ↦ subst (λ v. IsNoneOf v (p ∷ ok.chain)) (sym ((at b l).1 same)) (λ e. omega arith, none_48 x.next x.free ok.chain ok.linked)
          | inr other ↦ subst (λ v. IsNoneOf v (p ∷ ok.chain)) (sym ((at b l).0 other)) (λ e. other (sym (ok.injective byte b lb l m (sym e))), ok.apart b l)
        ]);
        injective = λ a b la lb2. rw places (elim (cases_eq a byte) [
          | inl sa ↦ rw ((at a la).1 sa) (λ h e. absurd (omega arith))
          | inr oa ↦ elim (cases_eq b byte) [
            | inl sb ↦ rw ((at a la).0 oa, (at b lb2).1 sb) (λ h e. absurd (omega arith))
            | inr ob ↦ rw ((at a la).0 oa, (at b lb2).0 ob) (λ h e. ok.injective a b la lb2 h e)
          ]
        ]);
        bounded = λ b l. rw places (elim (cases_eq b byte) [ inl same ↦ rw ((at b l).1 same) (omega arith) | inr other ↦ rw ((at b l).0 other) (ok.bounded b l) ]);
        places_len = ap length places ∙ length-set x.places byte 48 ∙ ok.places_len;
        next_len = ap length next ∙ length-set x.next p x.free ∙ ok.next_len;
      }

-- ---- an index in which every place is free

abbrev upto : ℕ → ℕ → List ℕ
upto i zero = []
upto i (suc n) = i ∷ upto (suc i) n

length_upto : (i n : ℕ) → length (upto i n) ≡ n
length_upto i zero = refl
length_upto i (suc n) = ap suc (length_upto (suc i) n)

none_upto : (x i n : ℕ) → x < i → IsNoneOf x (upto i n)
none_upto x i zero l = tt
none_upto x i (suc n) l = (λ e. omega arith, none_upto x (suc i) n (omega arith))

distinct_upto : (i n : ℕ) → AreDistinct (upto i n)
distinct_upto i zero = tt
distinct_upto i (suc n) = (none_upto i (suc i) n (omega arith), distinct_upto (suc i) n)

linked_upto : (next : List ℕ) (i n : ℕ) → i + n ≡ 48 → ((j : ℕ) → j < 48 → get_or next j 0 ≡ j + 1) → IsLinked next i (upto i n)
linked_upto next i zero e h = omega arith
linked_upto next i (suc n) e h =
    let up : get_or next i 0 ≡ suc i = omega (arith, h i (omega arith)) in
    (refl, omega arith, subst (λ f. IsLinked next f (upto (suc i) n)) (sym up) (linked_upto next (suc i) n (omega arith) h))

-- where each place below a number names the next, and that place is made to, each up to it does
pub one_more_linked : (next : List ℕ) (i : ℕ) → i < length next → ((j : ℕ) → j < i → get_or next j 0 ≡ j + 1) → (j : ℕ) → j < i + 1 → get_or (set next i (i + 1)) j 0 ≡ j + 1
one_more_linked next i l h j m = elim (cases_eq j i) [
  | inl e ↦ rw e (get_or-set_same next i (i + 1) 0 l)
  | inr n ↦ get_or-set_other next i j (i + 1) 0 n ∙ h j (omega (arith, n))
]

-- an index is sound in which no byte has a place, and every free place names the next
pub all_free : (x : Index) → x.len ≡ 0 → x.free ≡ 0 → length x.places ≡ 256 → length x.next ≡ 48 → ((b : ℕ) → b < 256 → place_of x b ≡ 48) → ((j : ℕ) → j < 48 → get_or x.next j 0 ≡ j + 1) → IsIndex x
all_free x len free places next none up =
    let linked : IsLinked x.next x.free (upto 0 48) = subst (λ f. IsLinked x.next f (upto 0 48)) (sym free) (linked_upto x.next 0 48 refl up) in
    record {
      chain = upto 0 48;
      linked = linked;
      distinct = distinct_upto 0 48;
      counted = omega (arith, length_upto 0 48, len);
      apart = λ b l. subst (λ p. IsNoneOf p (upto 0 48)) (sym (none b l)) (none_48 x.next x.free (upto 0 48) linked);
      injective = λ a b la lb h e. absurd (omega (arith, none a la, h));
      bounded = λ b l. omega (arith, none b l);
      places_len = places;
      next_len = next;
    }

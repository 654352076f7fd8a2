-- Children that move from one node to another, in the order of their bytes.
use Rattle.std.proofs.Common.{◌≡◌, ℕ, ◌<◌, ◌≤◌, ◌+◌, false, None, IsSome, refl, inl, inr, sym, ◌∙◌, subst, arith}
use Rattle.std.proofs.lemmas.Bool.Decides.{nat_tests}
use Rattle.std.proofs.lemmas.Bool.{cases_lt, cases_eq}
use Rattle.std.specs.Ordering.{nat_cmp}
use Rattle.std.specs.Cmp.{nat_cmp_total}
use Rattle.std.specs.FinMap as map
use Rattle.congee.specs.declared.forms.base_node.Node.{Node}
use Rattle.congee.specs.declared.forms.base_node.Node.TheVariants.{N4, N16, N48, N256}
use Rattle.congee.specs.forms.Bytes.{IsFirst}
use Rattle.congee.specs.forms.Forms.{capacity_of, form_of, prefix_of, children_of, is_full_of}
use Rattle.congee.proofs.lemmas.forms.MapLemmas.{len_new, len_less, some_len, insert_at, insert_beside, remove_at, remove_beside}

-- the children below `from` have moved from m, which left `kept`, to `moved`
pub record HaveMoved {X : Type 0} (m kept moved : map.FinMap nat_cmp X) (from : ℕ) : Type 0 where
  pub below : (q : ℕ) → q < from → map.get moved q ≡ map.get m q
  pub gone : (q : ℕ) → q < from → map.get kept q ≡ None
  pub above : (q : ℕ) → from ≤ q → map.get kept q ≡ map.get m q
  pub free : (q : ℕ) → from ≤ q → map.get moved q ≡ None
  pub count : map.len moved + map.len kept ≡ map.len m

module _ {X : Type 0} where
  -- before the first child none has moved
  pub none_moved : (m : map.FinMap nat_cmp X) → HaveMoved m m map.empty 0
  none_moved m = record {
    below = λ q l. absurd (omega arith);
    gone = λ q l. absurd (omega arith);
    above = λ q l. refl;
    free = λ q l. map.get-empty nat_cmp q;
    count = omega (arith, map.len-empty nat_cmp X);
  }

  module _ {m kept moved : map.FinMap nat_cmp X} {from b : ℕ} {x : X} (is : HaveMoved m kept moved from) (f : IsFirst kept from b x) where
    -- the next child moves
    pub one_moved : HaveMoved m (map.remove kept b) (map.insert moved b x) (b + 1)
    one_moved = record {
      below = λ q l. elim (cases_eq q b) [
        | inl e ↦ subst (λ k. map.get (map.insert moved b x) k ≡ map.get m k) (sym e) (insert_at moved b x ∙ sym f.here ∙ is.above b f.past)
        | inr n ↦ insert_beside moved b x q n ∙ elim (cases_lt q from) [
          | inl h ↦ is.below q h
          | inr h ↦ is.free q h ∙ sym (sym (is.above q h) ∙ f.before q h (omega (arith, n)))
        ]
      ];
      gone = λ q l. elim (cases_eq q b) [
        | inl e ↦ subst (λ k. map.get (map.remove kept b) k ≡ None) (sym e) (remove_at kept b)
        | inr n ↦ remove_beside kept b q n ∙ elim (cases_lt q from) [ inl h ↦ is.gone q h | inr h ↦ f.before q h (omega (arith, n)) ]
      ];
      above = λ q l. remove_beside kept b q (omega arith) ∙ is.above q (omega (arith, f.past));
      free = λ q l. insert_beside moved b x q (omega arith) ∙ is.free q (omega (arith, f.past));
      count = omega (arith, is.count, len_new moved b x (is.free b f.past), len_less kept b some_here);
    }
      where
        some_here : IsSome (map.get kept b)
        some_here = let e = f.here in cc e

    -- while a child is left, fewer have moved than there are
    pub room_left : map.len moved < map.len m
    room_left = let some : IsSome (map.get kept b) = cc f.here in omega (arith, is.count, some_len kept b some)

  -- the next child goes
  pub one_gone : {m : map.FinMap nat_cmp X} {from b : ℕ} {x : X} → IsFirst m from b x → ((q : ℕ) → q < from → map.get m q ≡ None)
      → (q : ℕ) → q < 1 + b → map.get (map.remove m b) q ≡ None
  one_gone {m} {from} {b} f gone q l = elim (cases_eq q b) [
    | inl e ↦ subst (λ k. map.get (map.remove m b) k ≡ None) (sym e) (remove_at m b)
    | inr n ↦ remove_beside m b q n ∙ elim (cases_lt q from) [ inl h ↦ gone q h | inr h ↦ f.before q h (omega (arith, n, l)) ]
  ]

  -- a map without a child below a byte, and without one from there on, is empty
  pub all_gone : (m : map.FinMap nat_cmp X) (from : ℕ) → ((q : ℕ) → q < from → map.get m q ≡ None) → ((q : ℕ) → from ≤ q → map.get m q ≡ None) → m ≡ map.empty
  all_gone m from gone none =
      map.same_map nat_cmp_total map.nat_cmp-IsAntisymmetric m map.empty (λ q. elim (cases_lt q from) [ inl h ↦ gone q h | inr h ↦ none q h ] ∙ sym (map.get-empty nat_cmp q))

  -- where no child is left, nothing is kept, and all have moved
  pub all_moved : (m kept moved : map.FinMap nat_cmp X) (from : ℕ) → HaveMoved m kept moved from → ((q : ℕ) → from ≤ q → map.get kept q ≡ None) → (kept ≡ map.empty) × (moved ≡ m)
  all_moved m kept moved from is none = (
    map.same_map nat_cmp_total map.nat_cmp-IsAntisymmetric kept map.empty (λ q. elim (cases_lt q from) [ inl h ↦ is.gone q h | inr h ↦ none q h ] ∙ sym (map.get-empty nat_cmp q)),
    map.same_map nat_cmp_total map.nat_cmp-IsAntisymmetric moved m (λ q. elim (cases_lt q from) [ inl h ↦ is.below q h | inr h ↦ is.free q h ∙ sym (sym (is.above q h) ∙ none q h) ]),
  )

-- the children of m below `from` have moved to `moved`, and blanks came into their places in `left`
pub record HavePoured {X : Type 0} (m left moved : map.FinMap nat_cmp X) (from : ℕ) : Type 0 where
  pub kept : map.FinMap nat_cmp X
  pub moves : HaveMoved m kept moved from
  pub above : (q : ℕ) → from ≤ q → map.get left q ≡ map.get m q

module _ {X : Type 0} where
  -- before the first child none has moved, and no blank has come
  pub none_poured : (m : map.FinMap nat_cmp X) → HavePoured m m map.empty 0
  none_poured m = record { kept = m; moves = none_moved m; above = λ q l. refl }

  module _ {m left moved : map.FinMap nat_cmp X} {from b : ℕ} {x : X} (is : HavePoured m left moved from) (f : IsFirst left from b x) where
    -- the first that is left is the first that didn't move
    pub first_kept : IsFirst is.kept from b x
    first_kept = record {
      past = f.past;
      here = is.moves.above b f.past ∙ (sym (is.above b f.past) ∙ f.here);
      before = λ q l h. is.moves.above q l ∙ (sym (is.above q l) ∙ f.before q l h);
    }

    -- the next child moves, and a blank comes into its place
    pub one_poured : (blank : X) → HavePoured m (map.insert left b blank) (map.insert moved b x) (b + 1)
    one_poured blank = record {
      kept = map.remove is.kept b;
      moves = one_moved is.moves first_kept;
      above = λ q l. insert_beside left b blank q (omega arith) ∙ is.above q (omega (arith, f.past));
    }

    -- while a child is left from there on, fewer have moved than there are
    pub room_poured : map.len moved < map.len m
    room_poured = room_left is.moves first_kept

  -- where no child is left from there on, all have moved
  pub all_poured : (m left moved : map.FinMap nat_cmp X) (from : ℕ) → HavePoured m left moved from → ((q : ℕ) → from ≤ q → map.get left q ≡ None) → moved ≡ m
  all_poured m left moved from is none = (all_moved m is.kept moved from is.moves (λ q l. is.moves.above q l ∙ (sym (is.above q l) ∙ none q l))).1

-- what a loop that moves the children of `old` to `empty` has made of both
pub record IsMoving {C P : Type 0} (old empty kept moved : Node C P) (from : ℕ) : Type 0 where
  pub kept_form : form_of kept ≡ form_of old
  pub kept_prefix : prefix_of kept ≡ prefix_of old
  pub moved_form : form_of moved ≡ form_of empty
  pub moved_prefix : prefix_of moved ≡ prefix_of empty
  pub children : HaveMoved (children_of old) (children_of kept) (children_of moved) from

-- the same of a loop that leaves blanks
pub record IsPouring {C P : Type 0} (old empty left moved : Node C P) (from : ℕ) : Type 0 where
  pub moved_form : form_of moved ≡ form_of empty
  pub moved_prefix : prefix_of moved ≡ prefix_of empty
  pub children : HavePoured (children_of old) (children_of left) (children_of moved) from

module _ {C P : Type 0} where
  -- a node with fewer children than its form has places isn't full
  pub is_full_of_room : (n : Node C P) → map.len (children_of n) < capacity_of (form_of n) → is_full_of n ≡ false
  is_full_of_room (N4 n) l = grind (arith, nat_tests, l)
  is_full_of_room (N16 n) l = grind (arith, nat_tests, l)
  is_full_of_room (N48 n) l = grind (arith, nat_tests, l)
  is_full_of_room (N256 n) l = refl

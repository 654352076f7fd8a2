-- A node's words as a map from bytes to children.
use Rattle.std.proofs.Common.{◌≡◌, ◌≢◌, ℕ, ◌^◌, ◌<◌, ◌⊎◌, ◌==◌, Bool, true, false, arith, ap, sym, ◌∙◌, refl, subst, inl, inr, cond, eqb, eq-eqb, if◌then◌else◌}
use Rattle.std.specs.Prelude.{Option, None, Some, unwrap_or, is_some, IfSome, MatchOption}
use Rattle.std.specs.Int.{bit_at}
use Rattle.std.proofs.lemmas.Bool.{cases_eq}
use Rattle.std.specs.FinMap as map
use Rattle.optimistic.specs.Layout.{room, leaf_of}
use Rattle.optimistic.specs.forms.Bytes.{with_at, IsLowest, HasNone}
use Rattle.optimistic.specs.forms.Held.{held, IsPlaceFor, IsWith, HasChildren, answer}
use Rattle.optimistic.specs.forms.Children.{is_inner, byte_in, mask_of, taken_in, first_word, last_word, firsts, lasts, first_of, second_of, IsForm, found_first, found_second, Finds, IsRoom, IsFull, Becomes, put_first}
use Rattle.optimistic.proofs.lemmas.forms.ByteLemmas.{eqb_other}
use Rattle.optimistic.proofs.lemmas.forms.Maps.{found, put_held, put_node, take_held, take_node, children_put, children_take, insert_at, insert_beside, remove_at, remove_beside, with_here}

pub either : (b : Bool) → (b ≡ true) ⊎ (b ≡ false)
either true = inl refl
either false = inr refl

module _ (form : ℕ) (w : ℕ → ℕ) where
  pub firsts_are : firsts form w ≡ held (byte_in form w) (taken_in form w) (λ i. w (first_word form i)) (room form)
  unfolding firsts
  firsts_are = refl

  pub lasts_are : lasts form w ≡ held (byte_in form w) (taken_in form w) (λ i. w (last_word form i)) (room form)
  unfolding lasts
  lasts_are = refl

  module _ (key b : ℕ) where
    pub first_inner : is_inner form ≡ true → first_of form w key b ≡ unwrap_or (map.get (firsts form w) b) 0
    unfolding first_of
    first_inner e = ap (λ (c : Bool). if c then unwrap_or (map.get (firsts form w) b) 0 else (if is_some (map.get (firsts form w) b) then leaf_of key else 0)) e

    pub first_values : is_inner form ≡ false → first_of form w key b ≡ (if is_some (map.get (firsts form w) b) then leaf_of key else 0)
    unfolding first_of
    first_values e = ap (λ (c : Bool). if c then unwrap_or (map.get (firsts form w) b) 0 else (if is_some (map.get (firsts form w) b) then leaf_of key else 0)) e

    pub second_is : second_of form w key b ≡ unwrap_or (map.get (lasts form w) b) 0
    unfolding second_of
    second_is = refl

    pub first_none : map.get (firsts form w) b ≡ None → first_of form w key b ≡ 0
    first_none e = elim (either (is_inner form)) [
      | inl i ↦ first_inner i ∙ ap (λ (o : Option ℕ). unwrap_or o 0) e
      | inr v ↦ first_values v ∙ ap (λ (o : Option ℕ). if is_some o then leaf_of key else 0) e
    ]

-- nodes of one map have the same children; both have children, or both have values
pub same_first : (f g : ℕ) (w v : ℕ → ℕ) (key b : ℕ) → is_inner g ≡ is_inner f → map.get (firsts g v) b ≡ map.get (firsts f w) b → first_of g v key b ≡ first_of f w key b
unfolding first_of
same_first f g w v key b kind e =
    ap (λ (c : Bool). if c then unwrap_or (map.get (firsts g v) b) 0 else (if is_some (map.get (firsts g v) b) then leaf_of key else 0)) kind
    ∙ ap (λ (o : Option ℕ). if is_inner f then unwrap_or o 0 else (if is_some o then leaf_of key else 0)) e

pub same_second : (f g : ℕ) (w v : ℕ → ℕ) (key b : ℕ) → map.get (lasts g v) b ≡ map.get (lasts f w) b → second_of g v key b ≡ second_of f w key b
unfolding second_of
same_second f g w v key b e = ap (λ (o : Option ℕ). unwrap_or o 0) e

-- a look-up
taken_or_none : (c : Bool) (x l : ℕ) → (if is_some (cond c (Some x) None) then l else 0) ≡ (if c then l else 0)
taken_or_none true x l = refl
taken_or_none false x l = refl

module _ (form : ℕ) (w : ℕ → ℕ) (b : ℕ) (is : IsForm form w) where
  get_first : (r : Option ℕ) → IsLowest (room form) (byte_in form w) b r → map.get (firsts form w) b ≡ answer (taken_in form w) (λ i. w (first_word form i)) r
  get_first r low = ap (λ m. map.get m b) (firsts_are form w) ∙ found (byte_in form w) (taken_in form w) (λ i. w (first_word form i)) (room form) b is.node r low

  get_last : (r : Option ℕ) → IsLowest (room form) (byte_in form w) b r → map.get (lasts form w) b ≡ answer (taken_in form w) (λ i. w (last_word form i)) r
  get_last r low = ap (λ m. map.get m b) (lasts_are form w) ∙ found (byte_in form w) (taken_in form w) (λ i. w (last_word form i)) (room form) b is.node r low

  first_found : (r : Option ℕ) → IsLowest (room form) (byte_in form w) b r → (key : ℕ) → first_of form w key b ≡ found_first form w key r
  first_found None low key = first_none form w key b (get_first None low)
  first_found (Some p) low key = elim (either (is_inner form)) [
    | inl e ↦
        first_inner form w key b e ∙ ap (λ (o : Option ℕ). unwrap_or o 0) (get_first (Some p) low)
        ∙ (elim (is.children e p low.0) [
          | inl y ↦ ap (λ (c : Bool). unwrap_or (cond c (Some (w (first_word form p))) None) 0) (eq-eqb (taken_in form w p) 1 y.0)
          | inr z ↦ ap (λ (c : Bool). unwrap_or (cond c (Some (w (first_word form p))) None) 0) (eqb_other (taken_in form w p) 1 z.0) ∙ sym z.1
        ]) ∙ sym (ap (λ (c : Bool). if c then w (first_word form p) else (if taken_in form w p == 1 then leaf_of key else 0)) e)
    | inr e ↦
        first_values form w key b e ∙ ap (λ (o : Option ℕ). if is_some o then leaf_of key else 0) (get_first (Some p) low)
        ∙ taken_or_none (eqb (taken_in form w p) 1) (w (first_word form p)) (leaf_of key)
        ∙ sym (ap (λ (c : Bool). if c then w (first_word form p) else (if taken_in form w p == 1 then leaf_of key else 0)) e)
  ]

  second_found : (r : Option ℕ) → IsLowest (room form) (byte_in form w) b r → (key : ℕ) → first_of form w key b ≢ 0 → second_of form w key b ≡ found_second form w r
  second_found None low key some = absurd (some (first_none form w key b (get_first None low)))
  second_found (Some p) low key some = elim (cases_eq (taken_in form w p) 1) [
    | inl t ↦
        second_is form w key b ∙ ap (λ (o : Option ℕ). unwrap_or o 0) (get_last (Some p) low)
        ∙ ap (λ (c : Bool). unwrap_or (cond c (Some (w (last_word form p))) None) 0) (eq-eqb (taken_in form w p) 1 t)
    | inr f ↦ absurd (some (first_none form w key b (get_first (Some p) low ∙ ap (λ (c : Bool). cond c (Some (w (first_word form p))) None) (eqb_other (taken_in form w p) 1 f))))
  ]

  place_found : (r : Option ℕ) → IsLowest (room form) (byte_in form w) b r → IfSome r (λ p. (p < room form) × (byte_in form w p ≡ b))
  place_found None low = tt
  place_found (Some p) low = (low.0, low.1)

  taken_found : (r : Option ℕ) → IsLowest (room form) (byte_in form w) b r → (key : ℕ) → first_of form w key b ≢ 0 → IfSome r (λ p. taken_in form w p ≡ 1)
  taken_found None low key some = tt
  taken_found (Some p) low key some = elim (cases_eq (taken_in form w p) 1) [
    | inl t ↦ t
    | inr f ↦ absurd (some (first_none form w key b (get_first (Some p) low ∙ ap (λ (c : Bool). cond c (Some (w (first_word form p))) None) (eqb_other (taken_in form w p) 1 f))))
  ]

  pub finds_is : (r : Option ℕ) → IsLowest (room form) (byte_in form w) b r → Finds form w b r
  finds_is r low = record { first = first_found r low; second = second_found r low; place = place_found r low; taken = taken_found r low }

-- the same, of other functions with the same values
pub lowest_like : (n : ℕ) (key key' : ℕ → ℕ) (b : ℕ) (r : Option ℕ) → ((i : ℕ) → i < n → key' i ≡ key i) → IsLowest n key b r → IsLowest n key' b r
lowest_like n key key' b None same low = λ i l e. low i l (sym (same i l) ∙ e)
lowest_like n key key' b (Some p) same low = (low.0, same p low.0 ∙ low.1, λ i l e. low.2 i l (sym (same i (omega (arith, l, low.0))) ∙ e))

pub place_like : (n : ℕ) (key key' taken taken' : ℕ → ℕ) (b p : ℕ) → ((i : ℕ) → i < n → key' i ≡ key i) → ((i : ℕ) → i < n → taken' i ≡ taken i) → IsPlaceFor n key taken b p → IsPlaceFor n key' taken' b p
place_like n key key' taken taken' b p keys takes at = (
  at.0,
  elim at.1 [
    | inl h ↦ inl (keys p at.0 ∙ h.0, λ i l e. h.1 i l (sym (keys i (omega (arith, l, at.0))) ∙ e))
    | inr h ↦ inr (λ i l e. h.0 i l (sym (keys i l) ∙ e), λ t. h.1 (sym (takes p at.0) ∙ t))
  ],
)

pub inside_of : (n : ℕ) (key : ℕ → ℕ) (b : ℕ) (r : Option ℕ) → IsLowest n key b r → IfSome r (λ p. p < n)
inside_of n key b None low = tt
inside_of n key b (Some p) low = low.0

-- the place of a byte, as a search in the words has it
pub room_of : (form : ℕ) (w : ℕ → ℕ) (b : ℕ) (r : Option ℕ) (mask n : ℕ) → room form ≡ n → ((i : ℕ) → i < n → taken_in form w i ≡ bit_at mask i)
    → MatchOption r (HasNone n (byte_in form w) b × ((i : ℕ) → i < n → bit_at mask i ≡ 1)) (λ p. IsPlaceFor n (byte_in form w) (bit_at mask) b p)
    → MatchOption r (IsFull form w b) (λ p. IsRoom form w b p)
room_of form w b None mask n rooms takes at = (λ i l. at.0 i (omega (arith, l, rooms)), λ i l. let m : i < n = omega (arith, l, rooms) in takes i m ∙ at.1 i m)
room_of form w b (Some p) mask n rooms takes at =
    subst (λ k. IsPlaceFor k (byte_in form w) (taken_in form w) b p) (sym rooms) (place_like n (byte_in form w) (byte_in form w) (bit_at mask) (taken_in form w) b p (λ i l. refl) takes at)

pub children_like : (n : ℕ) (taken word word' : ℕ → ℕ) → ((i : ℕ) → i < n → word' i ≡ word i) → HasChildren n taken word → HasChildren n taken word'
children_like n taken word word' same h i l = elim (h i l) [
  | inl y ↦ inl (y.0, λ z. y.1 (sym (same i l) ∙ z))
  | inr y ↦ inr (y.0, same i l ∙ y.1)
]

-- what is stored in the first word of an entry
abbrev pub stored_first : ℕ → ℕ → ℕ → ℕ
stored_first form x y = if is_inner form then x else y

module _ (form : ℕ) (w w' : ℕ → ℕ) (b p : ℕ) (is : IsForm form w) where
  -- an entry that is put in at its place
  module _ (x y : ℕ) (place : IsRoom form w b p) (bytes : IsWith (room form) (byte_in form w) p b (byte_in form w')) (takes : IsWith (room form) (taken_in form w) p 1 (taken_in form w'))
      (new_firsts : IsWith (room form) (λ i. w (first_word form i)) p (stored_first form x y) (λ i. w' (first_word form i)))
      (new_lasts : IsWith (room form) (λ i. w (last_word form i)) p y (λ i. w' (last_word form i)))
      (some : is_inner form ≡ true → x ≢ 0) (fits : room form ≢ 256 → mask_of form w' < 2 ^ room form) where
    pub firsts_put : firsts form w' ≡ map.insert (firsts form w) b (stored_first form x y)
    firsts_put =
        firsts_are form w'
        ∙ put_held (byte_in form w) (taken_in form w) (λ i. w (first_word form i)) (room form) b p (stored_first form x y) (byte_in form w') (taken_in form w') (λ i. w' (first_word form i)) is.node place bytes takes new_firsts
        ∙ ap (λ m. map.insert m b (stored_first form x y)) (sym (firsts_are form w))

    pub lasts_put : lasts form w' ≡ map.insert (lasts form w) b y
    lasts_put =
        lasts_are form w'
        ∙ put_held (byte_in form w) (taken_in form w) (λ i. w (last_word form i)) (room form) b p y (byte_in form w') (taken_in form w') (λ i. w' (last_word form i)) is.node place bytes takes new_lasts
        ∙ ap (λ m. map.insert m b y) (sym (lasts_are form w))

    put_children : is_inner form ≡ true → HasChildren (room form) (taken_in form w') (λ i. w' (first_word form i))
    put_children e =
        let same : stored_first form x y ≡ x = ap (λ (c : Bool). if c then x else y) e in
        children_like (room form) (taken_in form w') (with_at (λ i. w (first_word form i)) p (stored_first form x y)) (λ i. w' (first_word form i)) new_firsts
        (children_put (room form) (taken_in form w) p (taken_in form w') (λ i. w (first_word form i)) (stored_first form x y) takes (is.children e) (λ z. some e (sym same ∙ z)))

    put_first_is : (key : ℕ) → first_of form w' key b ≡ put_first form x key
    put_first_is key =
        let at : map.get (firsts form w') b ≡ Some (stored_first form x y) = ap (λ m. map.get m b) firsts_put ∙ insert_at (firsts form w) b (stored_first form x y) in
        elim (either (is_inner form)) [
          | inl e ↦
              first_inner form w' key b e ∙ ap (λ (o : Option ℕ). unwrap_or o 0) at ∙ ap (λ (c : Bool). if c then x else y) e
              ∙ sym (ap (λ (c : Bool). if c then x else leaf_of key) e)
          | inr e ↦ first_values form w' key b e ∙ ap (λ (o : Option ℕ). if is_some o then leaf_of key else 0) at ∙ sym (ap (λ (c : Bool). if c then x else leaf_of key) e)
        ]

    pub becomes_put : Becomes form w w' b (put_first form x) y
    becomes_put = record {
      form_stays = record {
        node = put_node (byte_in form w) (taken_in form w) (λ i. i) (room form) b p 0 (byte_in form w') (taken_in form w') (with_at (λ i. i) p 0) is.node place bytes takes (λ i l. refl);
        children = put_children;
        fits = fits;
      };
      first = put_first_is;
      second = λ key. second_is form w' key b ∙ ap (λ (o : Option ℕ). unwrap_or o 0) (ap (λ m. map.get m b) lasts_put ∙ insert_at (lasts form w) b y);
      other_firsts = λ key q d. same_first form form w w' key q refl (ap (λ m. map.get m q) firsts_put ∙ insert_beside (firsts form w) b (stored_first form x y) q d);
      other_seconds = λ key q d. same_second form form w w' key q (ap (λ m. map.get m q) lasts_put ∙ insert_beside (lasts form w) b y q d);
    }

  -- an entry that is taken out
  module _ (within : p < room form) (was : taken_in form w p ≡ 1) (at : byte_in form w p ≡ b) (bytes : (i : ℕ) → i < room form → byte_in form w' i ≡ byte_in form w i)
      (takes : IsWith (room form) (taken_in form w) p 0 (taken_in form w'))
      (old_firsts : (i : ℕ) → i < room form → i ≢ p → w' (first_word form i) ≡ w (first_word form i)) (old_lasts : (i : ℕ) → i < room form → i ≢ p → w' (last_word form i) ≡ w (last_word form i))
      (cleared : is_inner form ≡ true → w' (first_word form p) ≡ 0) (fits : room form ≢ 256 → mask_of form w' < 2 ^ room form) where
    firsts_taken : firsts form w' ≡ map.remove (firsts form w) b
    firsts_taken =
        firsts_are form w'
        ∙ take_held (byte_in form w) (taken_in form w) (λ i. w (first_word form i)) (room form) b p 0 (byte_in form w') (taken_in form w') (λ i. w' (first_word form i)) is.node within was at bytes takes old_firsts
        ∙ ap (λ m. map.remove m b) (sym (firsts_are form w))

    lasts_taken : lasts form w' ≡ map.remove (lasts form w) b
    lasts_taken =
        lasts_are form w'
        ∙ take_held (byte_in form w) (taken_in form w) (λ i. w (last_word form i)) (room form) b p 0 (byte_in form w') (taken_in form w') (λ i. w' (last_word form i)) is.node within was at bytes takes old_lasts
        ∙ ap (λ m. map.remove m b) (sym (lasts_are form w))

    taken_children : is_inner form ≡ true → HasChildren (room form) (taken_in form w') (λ i. w' (first_word form i))
    taken_children e =
        children_like (room form) (taken_in form w') (with_at (λ i. w (first_word form i)) p 0) (λ i. w' (first_word form i))
        (λ i l. elim (cases_eq i p) [
          | inl s ↦ ap (λ q. w' (first_word form q)) s ∙ cleared e ∙ sym (ap (with_at (λ q. w (first_word form q)) p 0) s ∙ with_here (λ q. w (first_word form q)) p 0)
          | inr d ↦ old_firsts i l d ∙ sym (rw (eqb_other i p d) refl)
        ])
        (children_take (room form) (taken_in form w) p (taken_in form w') (λ i. w (first_word form i)) takes (is.children e))

    pub becomes_taken : Becomes form w w' b (λ key. 0) 0
    becomes_taken = record {
      form_stays = record {
        node = take_node (byte_in form w) (taken_in form w) (λ i. i) (room form) b p 0 (byte_in form w') (taken_in form w') (with_at (λ i. i) p 0) is.node within was at bytes takes (λ i m d. rw (eqb_other i p d) refl);
        children = taken_children;
        fits = fits;
      };
      first = λ key. first_none form w' key b (ap (λ m. map.get m b) firsts_taken ∙ remove_at (firsts form w) b);
      second = λ key. second_is form w' key b ∙ ap (λ (o : Option ℕ). unwrap_or o 0) (ap (λ m. map.get m b) lasts_taken ∙ remove_at (lasts form w) b);
      other_firsts = λ key q d. same_first form form w w' key q refl (ap (λ m. map.get m q) firsts_taken ∙ remove_beside (firsts form w) b q d);
      other_seconds = λ key q d. same_second form form w w' key q (ap (λ m. map.get m q) lasts_taken ∙ remove_beside (lasts form w) b q d);
    }

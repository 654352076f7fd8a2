-- A node's places are a finite map.
use Rattle.std.proofs.Common.{◌+◌, ◌≤◌, ◌≡◌, ◌≢◌, ℕ, zero, suc, ◌<◌, ◌⊎◌, arith, ap, sym, ◌∙◌, refl, inl, inr, cond, eqb, eq-eqb, Option, None, Some, rules}
use Rattle.std.proofs.lemmas.Bool.{cases_lt, cases_eq}
use Rattle.std.proofs.lemmas.Nat.Bits.{bit_at-pow_other}
use Rattle.std.specs.Int.{bit_at}
use Rattle.std.specs.Ordering.{nat_cmp}
use Rattle.std.specs.Cmp.{nat_cmp_total}
use Rattle.std.specs.FinMap as map
use Rattle.std.specs.FinMap.{gets}
use Rattle.optimistic.specs.forms.Bytes.{IsLowest, with_at}
use Rattle.optimistic.specs.forms.Held.{held, IsNode, answer, answer_by_word, nonzero, HasChildren, IsPlaceFor, IsWith, IsPut, IsTaken, IsFound}
use Rattle.optimistic.specs.forms.Wide.{here, is_child}
use Rattle.optimistic.proofs.lemmas.forms.ByteLemmas.{eqb_same, eqb_other}

pub insert_at : (m : map.FinMap nat_cmp ℕ) (k : ℕ) (x : ℕ) → map.get (map.insert m k x) k ≡ Some x
insert_at m k x = grind (gets, rules)

pub insert_beside : (m : map.FinMap nat_cmp ℕ) (k : ℕ) (x : ℕ) (q : ℕ) → q ≢ k → map.get (map.insert m k x) q ≡ map.get m q
insert_beside m k x q ne = grind (gets, rules, ne)

pub remove_at : (m : map.FinMap nat_cmp ℕ) (k : ℕ) → map.get (map.remove m k) k ≡ None
remove_at m k = grind (gets, rules)

pub remove_beside : (m : map.FinMap nat_cmp ℕ) (k : ℕ) (q : ℕ) → q ≢ k → map.get (map.remove m k) q ≡ map.get m q
remove_beside m k q ne = grind (gets, rules, ne)

pub with_here : (f : ℕ → ℕ) (p x : ℕ) → with_at f p x p ≡ x
with_here f p x = rw (eqb_same p) refl

pub with_other : (f : ℕ → ℕ) (p x q : ℕ) → q ≢ p → with_at f p x q ≡ f q
with_other f p x q n = rw (eqb_other q p n) refl

module _ (key taken word : ℕ → ℕ) where
  pub none_step : held key taken word zero ≡ map.empty
  unfolding held
  none_step = refl

  pub taken_step : (k : ℕ) → taken k ≡ 1 → held key taken word (suc k) ≡ map.insert (held key taken word k) (key k) (word k)
  unfolding held
  taken_step k e = rw (eq-eqb (taken k) 1 e) refl

  pub free_step : (k : ℕ) → taken k ≢ 1 → held key taken word (suc k) ≡ held key taken word k
  unfolding held
  free_step k n = rw (eqb_other (taken k) 1 n) refl

  -- a taken place's byte has its word
  pub get_taken : (n : ℕ) → IsNode key taken n → (i : ℕ) → i < n → taken i ≡ 1 → map.get (held key taken word n) (key i) ≡ Some (word i)
  get_taken zero node i l t = absurd (omega arith)
  get_taken (suc k) node i l t =
      let below : i < k → map.get (held key taken word k) (key i) ≡ Some (word i) = λ m. get_taken k (λ a b c d e. node a b c (omega arith) e) i m t in
      elim (cases_lt i k) [
        | inl m ↦ elim (cases_eq (taken k) 1) [
          | inl e ↦ ap (λ x. map.get x (key i)) (taken_step k e) ∙ insert_beside _ (key k) (word k) (key i) (node k i m (omega arith) e) ∙ below m
          | inr e ↦ ap (λ x. map.get x (key i)) (free_step k e) ∙ below m
        ]
        | inr m ↦
            let same : k ≡ i = omega arith in
            let e : taken k ≡ 1 = ap taken same ∙ t in
            ap (λ x. map.get x (key i)) (taken_step k e) ∙ ap (λ x. map.get (map.insert (held key taken word k) (key k) (word k)) x) (ap key (sym same)) ∙ insert_at _ (key k) (word k) ∙ ap (λ x. Some (word x)) same
      ]

  -- a byte that no taken place has has none
  pub get_none : (n q : ℕ) → ((i : ℕ) → i < n → taken i ≡ 1 → key i ≢ q) → map.get (held key taken word n) q ≡ None
  get_none zero q h = ap (λ x. map.get x q) none_step ∙ map.get-empty nat_cmp q
  get_none (suc k) q h =
      let below = get_none k q (λ i l. h i (omega arith)) in
      elim (cases_eq (taken k) 1) [
        | inl e ↦ ap (λ x. map.get x q) (taken_step k e) ∙ insert_beside _ (key k) (word k) q (λ f. h k (omega arith) e (sym f)) ∙ below
        | inr e ↦ ap (λ x. map.get x q) (free_step k e) ∙ below
      ]

  -- the taken place of a byte, or that there is none
  pub look : (n q : ℕ) → ((i : ℕ) × (i < n) × (taken i ≡ 1) × (key i ≡ q)) ⊎ ((i : ℕ) → i < n → taken i ≡ 1 → key i ≢ q)
  look zero q = inr (λ i l. absurd (omega arith))
  look (suc k) q = elim (look k q) [
    | inl f ↦ inl (f.0, omega (arith, f.1), f.2, f.3)
    | inr none ↦ elim (cases_eq (taken k) 1) [
      | inl t ↦ elim (cases_eq (key k) q) [
        | inl e ↦ inl (k, omega arith, t, e)
        | inr d ↦ inr (λ i l u. elim (cases_lt i k) [
          | inl m ↦ none i m u
          | inr m ↦ let same : k ≡ i = omega arith in λ e. d (ap key same ∙ e)
        ])
      ]
      | inr t ↦ inr (λ i l u. elim (cases_lt i k) [
        | inl m ↦ none i m u
        | inr m ↦ let same : k ≡ i = omega arith in absurd (t (ap taken same ∙ u))
      ])
    ]
  ]

  -- the lowest place of a byte answers a look-up
  pub found : (n b : ℕ) → IsNode key taken n → (r : Option ℕ) → IsLowest n key b r → map.get (held key taken word n) b ≡ answer taken word r
  found n b node None none = get_none n b (λ i l t. none i l)
  found n b node (Some p) low = elim (cases_eq (taken p) 1) [
    | inl t ↦ ap (map.get (held key taken word n)) (sym low.1) ∙ get_taken n node p low.0 t ∙ sym (rw (eq-eqb (taken p) 1 t) refl)
    | inr t ↦ get_none n b (λ i l u e. elim (cases_lt i p) [
      | inl m ↦ low.2 i m e
      | inr m ↦ elim (cases_eq i p) [
        | inl s ↦ t (ap taken (sym s) ∙ u)
        | inr s ↦ node i p (omega (arith, s)) l u (low.1 ∙ sym e)
      ]
    ]) ∙ sym (rw (eqb_other (taken p) 1 t) refl)
  ]

module _ (key taken word : ℕ → ℕ) where
  module _ (n b p x : ℕ) (key' taken' word' : ℕ → ℕ) (node : IsNode key taken n) where
    -- a byte that is put in, at its place
    module _ (place : IsPlaceFor n key taken b p) (keys : IsWith n key p b key') (takes : IsWith n taken p 1 taken') (words : IsWith n word p x word') where
      key_at : key' p ≡ b
      key_at = keys p place.0 ∙ with_here key p b

      taken_at : taken' p ≡ 1
      taken_at = takes p place.0 ∙ with_here taken p 1

      key_same : (i : ℕ) → i < n → i ≢ p → key' i ≡ key i
      key_same i l d = keys i l ∙ with_other key p b i d

      taken_same : (i : ℕ) → i < n → i ≢ p → taken' i ≡ taken i
      taken_same i l d = takes i l ∙ with_other taken p 1 i d

      -- a place below that has the byte isn't there
      lower : (j : ℕ) → j < p → key j ≢ b
      lower j l = elim place.1 [
        | inl h ↦ h.1 j l
        | inr h ↦ h.0 j (omega (arith, place.0))
      ]

      -- nor is another that is taken
      other : (i : ℕ) → i < n → i ≢ p → taken i ≡ 1 → key i ≢ b
      other i l d t e = elim place.1 [
        | inl h ↦ elim (cases_lt i p) [
          | inl m ↦ h.1 i m e
          | inr m ↦ node i p (omega (arith, d)) l t (h.0 ∙ sym e)
        ]
        | inr h ↦ h.0 i l e
      ]

      pub put_node : IsNode key' taken' n
      put_node i j l m t = elim (cases_eq i p) [
        | inl e ↦
            let below : j < p = omega arith in
            λ f. lower j below (sym (key_same j (omega arith) (omega arith)) ∙ f ∙ ap key' e ∙ key_at)
        | inr d ↦
            let u : taken i ≡ 1 = sym (taken_same i m d) ∙ t in
            elim (cases_eq j p) [
              | inl e ↦ λ f. other i m d u (sym (key_same i m d) ∙ sym f ∙ ap key' e ∙ key_at)
              | inr g ↦ λ f. node i j l m u (sym (key_same j (omega arith) g) ∙ f ∙ key_same i m d)
            ]
      ]

      word_at : word' p ≡ x
      word_at = words p place.0 ∙ with_here word p x

      word_same : (i : ℕ) → i < n → i ≢ p → word' i ≡ word i
      word_same i l d = words i l ∙ with_other word p x i d

      get_put : map.get (held key' taken' word' n) b ≡ Some x
      get_put = ap (map.get (held key' taken' word' n)) (sym key_at) ∙ get_taken key' taken' word' n put_node p place.0 taken_at ∙ ap (λ y. Some y) word_at

      get_beside : (q : ℕ) → q ≢ b → map.get (held key' taken' word' n) q ≡ map.get (held key taken word n) q
      get_beside q d = elim (look key taken word n q) [
        | inl f ↦
            let i = f.0 in
            let apart : i ≢ p = λ e. elim place.1 [
              | inl h ↦ d (sym f.3 ∙ ap key e ∙ h.0)
              | inr h ↦ h.1 (ap taken (sym e) ∙ f.2)
            ] in
            let t : taken' i ≡ 1 = taken_same i f.1 apart ∙ f.2 in
            let e : key' i ≡ q = key_same i f.1 apart ∙ f.3 in
            ap (map.get (held key' taken' word' n)) (sym e) ∙ get_taken key' taken' word' n put_node i f.1 t ∙ ap (λ y. Some y) (word_same i f.1 apart)
            ∙ sym (ap (map.get (held key taken word n)) (sym f.3) ∙ get_taken key taken word n node i f.1 f.2)
        | inr none ↦
            get_none key' taken' word' n q (λ i l t e. elim (cases_eq i p) [
              | inl s ↦ d (sym e ∙ ap key' s ∙ key_at)
              | inr g ↦ none i l (sym (taken_same i l g) ∙ t) (sym (key_same i l g) ∙ e)
            ]) ∙ sym (get_none key taken word n q none)
      ]

      pub put_held : held key' taken' word' n ≡ map.insert (held key taken word n) b x
      put_held = map.same_map nat_cmp_total map.nat_cmp-IsAntisymmetric _ _ (λ q. elim (cases_eq q b) [
        | inl e ↦ ap (map.get (held key' taken' word' n)) e ∙ get_put ∙ sym (ap (map.get (map.insert (held key taken word n) b x)) e ∙ insert_at (held key taken word n) b x)
        | inr d ↦ get_beside q d ∙ sym (insert_beside (held key taken word n) b x q d)
      ])

    -- a byte that is taken out: its place isn't taken, the byte stays
    module _ (within : p < n) (was : taken p ≡ 1) (at : key p ≡ b) (keys : (i : ℕ) → i < n → key' i ≡ key i) (takes : IsWith n taken p 0 taken') (words : (i : ℕ) → i < n → i ≢ p → word' i ≡ word i) where
      left : (i : ℕ) → i < n → taken' i ≡ 1 → (i ≢ p) × (taken i ≡ 1)
      left i l t =
          let apart : i ≢ p = λ e. let none : taken' i ≡ 0 = ap taken' e ∙ takes p within ∙ with_here taken p 0 in absurd (omega (arith, none, t)) in
          (apart, sym (takes i l ∙ with_other taken p 0 i apart) ∙ t)

      pub take_node : IsNode key' taken' n
      take_node i j l m t e = node i j l m (left i m t).1 (sym (keys j (omega arith)) ∙ e ∙ keys i m)

      -- no other taken place has the byte
      only : (i : ℕ) → i < n → taken i ≡ 1 → i ≢ p → key i ≢ b
      only i l t d e = elim (cases_lt i p) [
        | inl m ↦ node p i m within was (e ∙ sym at)
        | inr m ↦ node i p (omega (arith, d)) l t (at ∙ sym e)
      ]

      stays : (q : ℕ) → q ≢ b → map.get (held key' taken' word' n) q ≡ map.get (held key taken word n) q
      stays q d = elim (look key taken word n q) [
        | inl f ↦
            let i = f.0 in
            let apart : i ≢ p = λ e. d (sym f.3 ∙ ap key e ∙ at) in
            let t : taken' i ≡ 1 = takes i f.1 ∙ with_other taken p 0 i apart ∙ f.2 in
            let e : key' i ≡ q = keys i f.1 ∙ f.3 in
            ap (map.get (held key' taken' word' n)) (sym e) ∙ get_taken key' taken' word' n take_node i f.1 t ∙ ap (λ y. Some y) (words i f.1 apart)
            ∙ sym (ap (map.get (held key taken word n)) (sym f.3) ∙ get_taken key taken word n node i f.1 f.2)
        | inr none ↦ get_none key' taken' word' n q (λ i l t e. none i l (left i l t).1 (sym (keys i l) ∙ e)) ∙ sym (get_none key taken word n q none)
      ]

      pub take_held : held key' taken' word' n ≡ map.remove (held key taken word n) b
      take_held = map.same_map nat_cmp_total map.nat_cmp-IsAntisymmetric _ _ (λ q. elim (cases_eq q b) [
        | inl e ↦
            ap (map.get (held key' taken' word' n)) e
            ∙ get_none key' taken' word' n b (λ i l t f. only i l (left i l t).1 (left i l t).0 (sym (keys i l) ∙ f))
            ∙ sym (ap (map.get (map.remove (held key taken word n) b)) e ∙ remove_at (held key taken word n) b)
        | inr d ↦ stays q d ∙ sym (remove_beside (held key taken word n) b q d)
      ])

pub children_put : (n : ℕ) (taken : ℕ → ℕ) (p : ℕ) (taken' word : ℕ → ℕ) (x : ℕ) → IsWith n taken p 1 taken' → HasChildren n taken word → x ≢ 0 → HasChildren n taken' (with_at word p x)
children_put n taken p taken' word x takes h d i l = elim (cases_eq i p) [
  | inl e ↦ inl (takes i l ∙ ap (with_at taken p 1) e ∙ with_here taken p 1, λ z. d (sym (ap (with_at word p x) e ∙ with_here word p x) ∙ z))
  | inr o ↦ elim (h i l) [
    | inl y ↦ inl (takes i l ∙ with_other taken p 1 i o ∙ y.0, λ z. y.1 (sym (with_other word p x i o) ∙ z))
    | inr y ↦ inr (λ z. y.0 (sym (takes i l ∙ with_other taken p 1 i o) ∙ z), with_other word p x i o ∙ y.1)
  ]
]

pub children_take : (n : ℕ) (taken : ℕ → ℕ) (p : ℕ) (taken' word : ℕ → ℕ) → IsWith n taken p 0 taken' → HasChildren n taken word → HasChildren n taken' (with_at word p 0)
children_take n taken p taken' word takes h i l = elim (cases_eq i p) [
  | inl e ↦ inr (λ z. let none : taken' i ≡ 0 = takes i l ∙ ap (with_at taken p 0) e ∙ with_here taken p 0 in absurd (omega (arith, none, z)), ap (with_at word p 0) e ∙ with_here word p 0)
  | inr o ↦ elim (h i l) [
    | inl y ↦ inl (takes i l ∙ with_other taken p 0 i o ∙ y.0, λ z. y.1 (sym (with_other word p 0 i o) ∙ z))
    | inr y ↦ inr (λ z. y.0 (sym (takes i l ∙ with_other taken p 0 i o) ∙ z), with_other word p 0 i o ∙ y.1)
  ]
]

-- the same as records
pub is_put : (n : ℕ) (key taken : ℕ → ℕ) (p b : ℕ) (key' taken' : ℕ → ℕ) → IsWith n key p b key' → IsWith n taken p 1 taken' → IsPut n key taken p b key' taken'
is_put n key taken p b key' taken' keys takes = record {
  keys = keys;
  takes = takes;
  node = λ node place. put_node key taken (λ i. i) n b p 0 key' taken' (with_at (λ i. i) p 0) node place keys takes (λ i l. refl);
  children = λ word x h d. children_put n taken p taken' word x takes h d;
  holds = λ word x node place. put_held key taken word n b p x key' taken' (with_at word p x) node place keys takes (λ i l. refl);
}

pub is_taken : (n : ℕ) (key taken : ℕ → ℕ) (p : ℕ) (key' taken' : ℕ → ℕ) → ((i : ℕ) → i < n → key' i ≡ key i) → IsWith n taken p 0 taken' → IsTaken n key taken p key' taken'
is_taken n key taken p key' taken' keys takes = record {
  keys = keys;
  takes = takes;
  node = λ node l t. take_node key taken (λ i. i) n (key p) p 0 key' taken' (with_at (λ i. i) p 0) node l t refl keys takes (λ i m d. with_other (λ i. i) p 0 i d);
  children = λ word h. children_take n taken p taken' word takes h;
  holds = λ word x node l t. take_held key taken word n (key p) p x key' taken' (with_at word p x) node l t refl keys takes (λ i m d. with_other word p x i d);
}

-- the answer by the words alone
same_answer : (n : ℕ) (taken word : ℕ → ℕ) → HasChildren n taken word → (key : ℕ → ℕ) (b : ℕ) (r : Option ℕ) → IsLowest n key b r → answer taken word r ≡ answer_by_word word r
same_answer n taken word h key b None low = refl
same_answer n taken word h key b (Some p) low = elim (h p low.0) [
  | inl y ↦ rw (eq-eqb (taken p) 1 y.0) (sym (rw (eqb_other (word p) 0 y.1) refl))
  | inr z ↦ rw (eqb_other (taken p) 1 z.0) (sym (rw (eq-eqb (word p) 0 z.1) refl))
]

pub is_found : (n : ℕ) (key : ℕ → ℕ) (b : ℕ) (r : Option ℕ) → IsLowest n key b r → IsFound n key b r
is_found n key b r low = record {
  lowest = low;
  values = λ taken word node. found key taken word n b node r low;
  children = λ taken word node h. found key taken word n b node r low ∙ same_answer n taken word h key b r low;
}

-- each byte at its own place
pub here_node : (taken : ℕ → ℕ) (n : ℕ) → IsNode here taken n
here_node taken n i j l m t e = absurd (omega (arith, l, e))

pub here_lowest : (n b : ℕ) → b < n → IsLowest n here b (Some b)
here_lowest n b l = (l, refl, λ i m e. absurd (omega (arith, m, e)))

pub here_put : (b q : ℕ) → here q ≡ with_at here b b q
here_put b q = elim (cases_eq q b) [
  | inl e ↦ sym (ap (with_at here b b) e ∙ with_here here b b ∙ sym e)
  | inr d ↦ sym (with_other here b b q d)
]

here_place : (n b : ℕ) (taken : ℕ → ℕ) → b < n → IsPlaceFor n here taken b b
here_place n b taken l = (l, inl (refl, λ i m e. absurd (omega (arith, m, e))))

pub child_there : (word : ℕ → ℕ) (b : ℕ) → word b ≢ 0 → is_child word b ≡ 1
child_there word b d = rw (eqb_other (word b) 0 d) refl

pub child_none : (word : ℕ → ℕ) (b : ℕ) → word b ≡ 0 → is_child word b ≡ 0
child_none word b e = rw (eq-eqb (word b) 0 e) refl

child_same : (word word' : ℕ → ℕ) (q : ℕ) → word' q ≡ word q → is_child word' q ≡ is_child word q
child_same word word' q e = ap (λ x. cond (eqb x 0) 0 1) e

child_answer : (word : ℕ → ℕ) (b : ℕ) → answer (is_child word) word (Some b) ≡ nonzero (word b)
child_answer word b = elim (cases_eq (word b) 0) [
  | inl e ↦ rw (child_none word b e) (sym (rw (eq-eqb (word b) 0 e) refl))
  | inr d ↦ rw (child_there word b d) (sym (rw (eqb_other (word b) 0 d) refl))
]

module _ (n b : ℕ) (within : b < n) (word : ℕ → ℕ) where
  pub get_here : map.get (held here (is_child word) word n) b ≡ nonzero (word b)
  get_here = found here (is_child word) word n b (here_node (is_child word) n) (Some b) (here_lowest n b within) ∙ child_answer word b

  pub takes_put : (x : ℕ) → x ≢ 0 → (q : ℕ) → is_child (with_at word b x) q ≡ with_at (is_child word) b 1 q
  takes_put x d q = elim (cases_eq q b) [
    | inl e ↦ ap (is_child (with_at word b x)) e ∙ child_there (with_at word b x) b (λ z. d (sym (with_here word b x) ∙ z)) ∙ sym (ap (with_at (is_child word) b 1) e ∙ with_here (is_child word) b 1)
    | inr o ↦ child_same word (with_at word b x) q (with_other word b x q o) ∙ sym (with_other (is_child word) b 1 q o)
  ]

  pub takes_take : (q : ℕ) → is_child (with_at word b 0) q ≡ with_at (is_child word) b 0 q
  takes_take q = elim (cases_eq q b) [
    | inl e ↦ ap (is_child (with_at word b 0)) e ∙ child_none (with_at word b 0) b (with_here word b 0) ∙ sym (ap (with_at (is_child word) b 0) e ∙ with_here (is_child word) b 0)
    | inr o ↦ child_same word (with_at word b 0) q (with_other word b 0 q o) ∙ sym (with_other (is_child word) b 0 q o)
  ]

  pub put_here : (x : ℕ) → x ≢ 0 → held here (is_child (with_at word b x)) (with_at word b x) n ≡ map.insert (held here (is_child word) word n) b x
  put_here x d = put_held here (is_child word) word n b b x here (is_child (with_at word b x)) (with_at word b x) (here_node (is_child word) n) (here_place n b (is_child word) within) (λ q l. here_put b q) (λ q l. takes_put x d q) (λ q l. refl)

  pub take_here : word b ≢ 0 → held here (is_child (with_at word b 0)) (with_at word b 0) n ≡ map.remove (held here (is_child word) word n) b
  take_here d = take_held here (is_child word) word n b b 0 here (is_child (with_at word b 0)) (with_at word b 0) (here_node (is_child word) n) within (child_there word b d) refl (λ i l. refl) (λ q l. takes_take q) (λ i m o. with_other word b 0 i o)

-- one place taken
one_bit : (i : ℕ) → bit_at 1 i ≡ 1 → i ≡ 0
one_bit i e = elim (cases_eq i 0) [
  | inl z ↦ z
  | inr d ↦ let none : bit_at 1 i ≡ 0 = bit_at-pow_other 0 i d in absurd (omega (arith, none, e))
]

pub one_node : (n : ℕ) (key : ℕ → ℕ) → IsNode key (bit_at 1) n
one_node n key i j l m t e = let z = one_bit i t in absurd (omega (arith, l, z))

pub one_held : (n b : ℕ) (key word : ℕ → ℕ) → 0 < n → ((i : ℕ) → i < n → key i ≡ b) → held key (bit_at 1) word n ≡ map.insert map.empty b (word 0)
one_held n b key word l same = map.same_map nat_cmp_total map.nat_cmp-IsAntisymmetric _ _ (λ q. elim (cases_eq q b) [
  | inl e ↦
      ap (map.get (held key (bit_at 1) word n)) (e ∙ sym (same 0 l)) ∙ get_taken key (bit_at 1) word n (one_node n key) 0 l (omega arith)
      ∙ sym (ap (map.get (map.insert map.empty b (word 0))) e ∙ insert_at map.empty b (word 0))
  | inr d ↦
      get_none key (bit_at 1) word n q (λ i m t f. d (sym f ∙ same i m))
      ∙ sym (insert_beside map.empty b (word 0) q d ∙ map.get-empty nat_cmp q)
])

-- places above that aren't taken change nothing
pub wider_node : (n d : ℕ) (key key' taken taken' : ℕ → ℕ) → ((i : ℕ) → i < n → key' i ≡ key i) → ((i : ℕ) → i < n → taken' i ≡ taken i) → ((i : ℕ) → n ≤ i → taken' i ≡ 0) → IsNode key taken n → IsNode key' taken' d
wider_node n d key key' taken taken' keys takes above node i j l m t = elim (cases_lt i n) [
  | inl s ↦ λ e. node i j l s (sym (takes i s) ∙ t) (sym (keys j (omega arith)) ∙ e ∙ keys i s)
  | inr g ↦ absurd (omega (arith, above i g, t))
]

pub same_held : (n : ℕ) (key key' taken taken' word : ℕ → ℕ) → ((i : ℕ) → i < n → key' i ≡ key i) → ((i : ℕ) → i < n → taken' i ≡ taken i) → held key' taken' word n ≡ held key taken word n
same_held zero key key' taken taken' word keys takes = none_step key' taken' word ∙ sym (none_step key taken word)
same_held (suc k) key key' taken taken' word keys takes =
    let before = same_held k key key' taken taken' word (λ i l. keys i (omega arith)) (λ i l. takes i (omega arith)) in
    let e = takes k (omega arith) in
    elim (cases_eq (taken k) 1) [
      | inl t ↦ taken_step key' taken' word k (e ∙ t) ∙ ap (λ m. map.insert m (key' k) (word k)) before ∙ ap (λ b. map.insert (held key taken word k) b (word k)) (keys k (omega arith)) ∙ sym (taken_step key taken word k t)
      | inr t ↦ free_step key' taken' word k (λ f. t (sym e ∙ f)) ∙ before ∙ sym (free_step key taken word k t)
    ]

zero_add : (n : ℕ) → 0 + n ≡ n
zero_add n = omega arith

suc_add : (d n : ℕ) → suc d + n ≡ suc (d + n)
suc_add d n = omega arith

pub wider_held : (n d : ℕ) (key taken word : ℕ → ℕ) → ((i : ℕ) → n ≤ i → taken i ≡ 0) → held key taken word (d + n) ≡ held key taken word n
wider_held n zero key taken word above = ap (held key taken word) (zero_add n)
wider_held n (suc d) key taken word above = ap (held key taken word) (suc_add d n) ∙ free_step key taken word (d + n) (λ e. absurd (omega (arith, above (d + n) (omega arith), e))) ∙ wider_held n d key taken word above

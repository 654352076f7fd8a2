-- What the words of each form say of its places, and where a place's words are written.
use Rattle.std.proofs.Common.{◌≡◌, ◌≢◌, ℕ, zero, suc, ◌+◌, ◌*◌, ◌/◌, ◌%◌, ◌^◌, ◌<◌, ◌≤◌, ◌==◌, Bool, true, false, arith, ap, sym, ◌∙◌, refl, subst, inl, inr, cond, eqb, if◌then◌else◌, [], ◌∷◌, get_or, pow_pos}
use Rattle.std.specs.Prelude.{Option}
use Rattle.std.proofs.lemmas.Bool.{cases_eq}
use Rattle.std.proofs.lemmas.Nat.Bits.{same_from_bits, bit_at_above, bit_at-zero}
use Rattle.std.proofs.Math.Nat.{lt-mul-div-succ}
use Rattle.std.specs.Int.{bit_at}
use Rattle.optimistic.specs.Layout.{room, entries, width}
use Rattle.optimistic.specs.forms.Bytes.{byte_of, with_at, key_of, IsLowest}
use Rattle.optimistic.specs.forms.Children.{is_inner, byte_in, mask_of, taken_in, first_word, last_word, IsForm, IsRoom, Becomes, put_first, with_entry, without_entry, Same}
use Rattle.optimistic.proofs.lemmas.forms.ByteLemmas.{eqb_other}
use Rattle.optimistic.proofs.lemmas.forms.BitsAt.{with_same}
use Rattle.optimistic.proofs.lemmas.forms.Maps.{with_here, with_other}
use Rattle.optimistic.proofs.lemmas.forms.Scans.{shifted_bit}
use Rattle.optimistic.proofs.lemmas.forms.ChildLemmas.{lowest_like, stored_first, becomes_put, becomes_taken}

-- by forms
pub form_cases : (P : ℕ → Type 0) → P 1 → P 2 → P 3 → P 4 → P 5 → P 6 → P 7 → P 8 → ((form : ℕ) → room form ≡ 0 → P form) → (form : ℕ) → P form
form_cases P p1 p2 p3 p4 p5 p6 p7 p8 p0 form = elim (cases_eq form 1) [
  | inl e ↦ subst P (sym e) p1
  | inr n1 ↦ elim (cases_eq form 2) [
    | inl e ↦ subst P (sym e) p2
    | inr n2 ↦ elim (cases_eq form 3) [
      | inl e ↦ subst P (sym e) p3
      | inr n3 ↦ elim (cases_eq form 4) [
        | inl e ↦ subst P (sym e) p4
        | inr n4 ↦ elim (cases_eq form 5) [
          | inl e ↦ subst P (sym e) p5
          | inr n5 ↦ elim (cases_eq form 6) [
            | inl e ↦ subst P (sym e) p6
            | inr n6 ↦ elim (cases_eq form 7) [
              | inl e ↦ subst P (sym e) p7
              | inr n7 ↦ elim (cases_eq form 8) [
                | inl e ↦ subst P (sym e) p8
                | inr n8 ↦ p0 form (rw (eqb_other form 1 n1, eqb_other form 2 n2, eqb_other form 3 n3, eqb_other form 4 n4, eqb_other form 5 n5, eqb_other form 6 n6, eqb_other form 7 n7, eqb_other form 8 n8) refl)
              ]
            ]
          ]
        ]
      ]
    ]
  ]
]

-- where entries begin
pub entries_four : (form : ℕ) → room form ≡ 4 → 3 ≤ entries form
entries_four = form_cases (λ f. room f ≡ 4 → 3 ≤ entries f) (λ e. omega arith) (λ e. omega arith) (λ e. omega arith) (λ e. omega arith) (λ e. omega arith) (λ e. omega arith) (λ e. omega arith) (λ e. omega arith)
    (λ f z e. absurd (omega (arith, z, e)))

pub entries_sixteen : (form : ℕ) → room form ≡ 16 → entries form ≡ 6
entries_sixteen = form_cases (λ f. room f ≡ 16 → entries f ≡ 6) (λ e. absurd (omega (arith, e))) (λ e. refl) (λ e. absurd (omega (arith, e))) (λ e. absurd (omega (arith, e))) (λ e. absurd (omega (arith, e))) (λ e. refl)
    (λ e. absurd (omega (arith, e))) (λ e. absurd (omega (arith, e))) (λ f z e. absurd (omega (arith, z, e)))

pub entries_forty_eight : (form : ℕ) → room form ≡ 48 → entries form ≡ 10
entries_forty_eight = form_cases (λ f. room f ≡ 48 → entries f ≡ 10) (λ e. absurd (omega (arith, e))) (λ e. absurd (omega (arith, e))) (λ e. refl) (λ e. absurd (omega (arith, e))) (λ e. absurd (omega (arith, e)))
    (λ e. absurd (omega (arith, e))) (λ e. refl) (λ e. absurd (omega (arith, e))) (λ f z e. absurd (omega (arith, z, e)))

-- an entry lies within its node, behind the node's other words
pub last_inside : (form : ℕ) (i : ℕ) → i < room form → last_word form i < width form
unfolding width
last_inside = form_cases (λ f. (i : ℕ) → i < room f → last_word f i < width f) (λ i l. omega arith) (λ i l. omega arith) (λ i l. omega arith) (λ i l. omega arith) (λ i l. omega arith) (λ i l. omega arith) (λ i l. omega arith)
    (λ i l. omega arith) (λ f z i l. absurd (omega (arith, z, l)))

first_last : (c : Bool) (n i : ℕ) → n + (if c then 2 * i else i) ≤ n + (if c then 2 * i + 1 else i)
first_last true n i = omega arith
first_last false n i = omega arith

pub first_inside : (form : ℕ) (i : ℕ) → i < room form → first_word form i < width form
first_inside form i l = omega (arith, last_inside form i l, first_last (is_inner form) (entries form) i)

pub first_above : (form i : ℕ) → entries form ≤ first_word form i
first_above form i = omega arith

pub last_above : (form i : ℕ) → entries form ≤ last_word form i
last_above form i = omega arith

pub entries_above : (form : ℕ) → 0 < room form → 2 < entries form
entries_above = form_cases (λ f. 0 < room f → 2 < entries f) (λ l. omega arith) (λ l. omega arith) (λ l. omega arith) (λ l. omega arith) (λ l. omega arith) (λ l. omega arith) (λ l. omega arith) (λ l. omega arith) (λ f z l. absurd (omega (arith, z, l)))

-- an entry written
entry_first_by : (c : Bool) (n : ℕ) (w : ℕ → ℕ) (p x y i : ℕ) →
    (if c then with_at (with_at w (n + (if c then 2 * p else p)) x) (n + (if c then 2 * p + 1 else p)) y else with_at w (n + (if c then 2 * p else p)) y) (n + (if c then 2 * i else i))
    ≡ with_at (λ q. w (n + (if c then 2 * q else q))) p (if c then x else y) i
entry_first_by true n w p x y i = with_other (with_at w (n + 2 * p) x) (n + (2 * p + 1)) y (n + 2 * i) (λ e. absurd (omega (arith, e))) ∙ elim (cases_eq i p) [
  | inl e ↦ ap (λ q. with_at w (n + 2 * p) x (n + 2 * q)) e ∙ with_here w (n + 2 * p) x ∙ sym (ap (with_at (λ q. w (n + 2 * q)) p x) e ∙ with_here (λ q. w (n + 2 * q)) p x)
  | inr d ↦ with_other w (n + 2 * p) x (n + 2 * i) (λ e. d (omega (arith, e))) ∙ sym (with_other (λ q. w (n + 2 * q)) p x i d)
]
entry_first_by false n w p x y i = elim (cases_eq i p) [
  | inl e ↦ ap (λ q. with_at w (n + p) y (n + q)) e ∙ with_here w (n + p) y ∙ sym (ap (with_at (λ q. w (n + q)) p y) e ∙ with_here (λ q. w (n + q)) p y)
  | inr d ↦ with_other w (n + p) y (n + i) (λ e. d (omega (arith, e))) ∙ sym (with_other (λ q. w (n + q)) p y i d)
]

entry_last_by : (c : Bool) (n : ℕ) (w : ℕ → ℕ) (p x y i : ℕ) →
    (if c then with_at (with_at w (n + (if c then 2 * p else p)) x) (n + (if c then 2 * p + 1 else p)) y else with_at w (n + (if c then 2 * p else p)) y) (n + (if c then 2 * i + 1 else i))
    ≡ with_at (λ q. w (n + (if c then 2 * q + 1 else q))) p y i
entry_last_by true n w p x y i = elim (cases_eq i p) [
  | inl e ↦
      ap (λ q. with_at (with_at w (n + 2 * p) x) (n + (2 * p + 1)) y (n + (2 * q + 1))) e ∙ with_here (with_at w (n + 2 * p) x) (n + (2 * p + 1)) y
      ∙ sym (ap (with_at (λ q. w (n + (2 * q + 1))) p y) e ∙ with_here (λ q. w (n + (2 * q + 1))) p y)
  | inr d ↦
      with_other (with_at w (n + 2 * p) x) (n + (2 * p + 1)) y (n + (2 * i + 1)) (λ e. d (omega (arith, e))) ∙ with_other w (n + 2 * p) x (n + (2 * i + 1)) (λ e. absurd (omega (arith, e)))
      ∙ sym (with_other (λ q. w (n + (2 * q + 1))) p y i d)
]
entry_last_by false n w p x y i = elim (cases_eq i p) [
  | inl e ↦ ap (λ q. with_at w (n + p) y (n + q)) e ∙ with_here w (n + p) y ∙ sym (ap (with_at (λ q. w (n + q)) p y) e ∙ with_here (λ q. w (n + q)) p y)
  | inr d ↦ with_other w (n + p) y (n + i) (λ e. d (omega (arith, e))) ∙ sym (with_other (λ q. w (n + q)) p y i d)
]

entry_low_by : (c : Bool) (n : ℕ) (w : ℕ → ℕ) (p x y j : ℕ) → j < n →
    (if c then with_at (with_at w (n + (if c then 2 * p else p)) x) (n + (if c then 2 * p + 1 else p)) y else with_at w (n + (if c then 2 * p else p)) y) j ≡ w j
entry_low_by true n w p x y j l = with_other (with_at w (n + 2 * p) x) (n + (2 * p + 1)) y j (λ e. absurd (omega (arith, e, l))) ∙ with_other w (n + 2 * p) x j (λ e. absurd (omega (arith, e, l)))
entry_low_by false n w p x y j l = with_other w (n + p) y j (λ e. absurd (omega (arith, e, l)))

-- a child word cleared
clear_first_by : (c : Bool) (n : ℕ) (w : ℕ → ℕ) (p i : ℕ) → i ≢ p → (if c then with_at w (n + (if c then 2 * p else p)) 0 else w) (n + (if c then 2 * i else i)) ≡ w (n + (if c then 2 * i else i))
clear_first_by true n w p i d = with_other w (n + 2 * p) 0 (n + 2 * i) (λ e. d (omega (arith, e)))
clear_first_by false n w p i d = refl

clear_last_by : (c : Bool) (n : ℕ) (w : ℕ → ℕ) (p i : ℕ) → i ≢ p → (if c then with_at w (n + (if c then 2 * p else p)) 0 else w) (n + (if c then 2 * i + 1 else i)) ≡ w (n + (if c then 2 * i + 1 else i))
clear_last_by true n w p i d = with_other w (n + 2 * p) 0 (n + (2 * i + 1)) (λ e. absurd (omega (arith, e)))
clear_last_by false n w p i d = refl

clear_here_by : (c : Bool) (n : ℕ) (w : ℕ → ℕ) (p : ℕ) → c ≡ true → (if c then with_at w (n + (if c then 2 * p else p)) 0 else w) (n + (if c then 2 * p else p)) ≡ 0
clear_here_by true n w p e = with_here w (n + 2 * p) 0
clear_here_by false n w p e = absurd (cc)

clear_low_by : (c : Bool) (n : ℕ) (w : ℕ → ℕ) (p j : ℕ) → j < n → (if c then with_at w (n + (if c then 2 * p else p)) 0 else w) j ≡ w j
clear_low_by true n w p j l = with_other w (n + 2 * p) 0 j (λ e. absurd (omega (arith, e, l)))
clear_low_by false n w p j l = refl

module _ (form : ℕ) (w : ℕ → ℕ) (p : ℕ) where
  pub entry_first : (x y i : ℕ) → with_entry form w p x y (first_word form i) ≡ with_at (λ q. w (first_word form q)) p (stored_first form x y) i
  entry_first x y i = entry_first_by (is_inner form) (entries form) w p x y i

  pub entry_last : (x y i : ℕ) → with_entry form w p x y (last_word form i) ≡ with_at (λ q. w (last_word form q)) p y i
  entry_last x y i = entry_last_by (is_inner form) (entries form) w p x y i

  pub entry_low : (x y j : ℕ) → j < entries form → with_entry form w p x y j ≡ w j
  entry_low x y j l = entry_low_by (is_inner form) (entries form) w p x y j l

  pub clear_first : (i : ℕ) → i ≢ p → without_entry form w p (first_word form i) ≡ w (first_word form i)
  clear_first i d = clear_first_by (is_inner form) (entries form) w p i d

  pub clear_last : (i : ℕ) → i ≢ p → without_entry form w p (last_word form i) ≡ w (last_word form i)
  clear_last i d = clear_last_by (is_inner form) (entries form) w p i d

  pub clear_here : is_inner form ≡ true → without_entry form w p (first_word form p) ≡ 0
  clear_here e = clear_here_by (is_inner form) (entries form) w p e

  pub clear_low : (j : ℕ) → j < entries form → without_entry form w p j ≡ w j
  clear_low j l = clear_low_by (is_inner form) (entries form) w p j l

-- places of up to 48
module _ (form : ℕ) (w : ℕ → ℕ) where
  pub byte_narrow : (i : ℕ) → room form ≢ 256 → byte_in form w i ≡ byte_of (w (2 + i / 8)) (i % 8)
  byte_narrow i d = ap (λ (c : Bool). if c then i else byte_of (w (2 + i / 8)) (i % 8)) (eqb_other (room form) 256 d)

  pub taken_narrow : (i : ℕ) → room form ≢ 256 → taken_in form w i ≡ bit_at (mask_of form w) i
  taken_narrow i d = ap (λ (c : Bool). if c then (if is_inner form then cond (eqb (w (8 + 2 * i)) 0) 0 1 else bit_at (w (2 + i / 64)) (i % 64)) else bit_at (mask_of form w) i) (eqb_other (room form) 256 d)

  pub mask_four : room form ≡ 4 → mask_of form w ≡ w 2 / 2 ^ 32
  mask_four e = ap (λ n. if n == 4 then w 2 / 2 ^ 32 else (if n == 16 then w 4 else w 8)) e

  pub mask_sixteen : room form ≡ 16 → mask_of form w ≡ w 4
  mask_sixteen e = ap (λ n. if n == 4 then w 2 / 2 ^ 32 else (if n == 16 then w 4 else w 8)) e

  pub mask_forty_eight : room form ≡ 48 → mask_of form w ≡ w 8
  mask_forty_eight e = ap (λ n. if n == 4 then w 2 / 2 ^ 32 else (if n == 16 then w 4 else w 8)) e

  pub byte_four : (i : ℕ) → room form ≡ 4 → i < 4 → byte_in form w i ≡ byte_of (w 2) i
  byte_four i r l =
      let d : 2 + i / 8 ≡ 2 = omega arith in
      let m : i % 8 ≡ i = omega arith in
      byte_narrow i (λ e. absurd (omega (arith, r, e))) ∙ ap (λ j. byte_of (w j) (i % 8)) d ∙ ap (byte_of (w 2)) m

-- a mask with one bit changed below n lies below 2 ^ n
pub fits_with : (n m m' p x : ℕ) → m < 2 ^ n → p < n → ((i : ℕ) → bit_at m' i ≡ with_at (bit_at m) p x i) → m' < 2 ^ n
fits_with n m m' p x f l bits =
    let none : m' / 2 ^ n ≡ 0 = same_from_bits (m' / 2 ^ n) 0 (λ i. shifted_bit m' n i ∙ bits (n + i) ∙ with_other (bit_at m) p x (n + i) (λ e. absurd (omega (arith, e, l))) ∙ bit_at_above m n (n + i) f (omega arith) ∙ sym (bit_at-zero i)) in
    let h : m' < 2 ^ n * (0 + 1) = subst (λ z. m' < 2 ^ n * (z + 1)) none (lt-mul-div-succ m' (pow_pos n)) in
    omega arith

-- an entry put into a node of up to 48, or taken out
module _ (form : ℕ) (w w' : ℕ → ℕ) (b p : ℕ) (is : IsForm form w) (narrow : room form ≢ 256) where
  takes_by : (x : ℕ) → ((i : ℕ) → bit_at (mask_of form w') i ≡ with_at (bit_at (mask_of form w)) p x i) → (i : ℕ) → taken_in form w' i ≡ with_at (taken_in form w) p x i
  takes_by x masks i = taken_narrow form w' i narrow ∙ masks i ∙ with_same (bit_at (mask_of form w)) (taken_in form w) p x i (sym (taken_narrow form w i narrow))

  -- of the word k behind the entry's the node has another from now on, and of some word m, both below the entries
  pub narrow_put : (x y : ℕ) → IsRoom form w b p → (is_inner form ≡ true → x ≢ 0)
      → ((i : ℕ) → i < room form → byte_in form w' i ≡ with_at (byte_in form w) p b i)
      → ((i : ℕ) → bit_at (mask_of form w') i ≡ with_at (bit_at (mask_of form w)) p 1 i)
      → ((j : ℕ) → entries form ≤ j → j < width form → w' j ≡ with_entry form w p x y j) → Becomes form w w' b (put_first form x) y
  narrow_put x y place some bytes masks words = becomes_put form w w' b p is x y place bytes (λ i l. takes_by 1 masks i)
      (λ i l. words (first_word form i) (first_above form i) (first_inside form i l) ∙ entry_first form w p x y i) (λ i l. words (last_word form i) (last_above form i) (last_inside form i l) ∙ entry_last form w p x y i)
      some (λ d. fits_with (room form) (mask_of form w) (mask_of form w') p 1 (is.fits d) place.0 masks)

  pub narrow_take : p < room form → taken_in form w p ≡ 1 → byte_in form w p ≡ b
      → ((i : ℕ) → i < room form → byte_in form w' i ≡ byte_in form w i)
      → ((i : ℕ) → bit_at (mask_of form w') i ≡ with_at (bit_at (mask_of form w)) p 0 i)
      → ((j : ℕ) → entries form ≤ j → j < width form → w' j ≡ without_entry form w p j) → Becomes form w w' b (λ key. 0) 0
  narrow_take within was at bytes masks words = becomes_taken form w w' b p is within was at bytes (λ i l. takes_by 0 masks i)
      (λ i l d. words (first_word form i) (first_above form i) (first_inside form i l) ∙ clear_first form w p i d) (λ i l d. words (last_word form i) (last_above form i) (last_inside form i l) ∙ clear_last form w p i d)
      (λ e. words (first_word form p) (first_above form p) (first_inside form p within) ∙ clear_here form w p e)
      (λ d. fits_with (room form) (mask_of form w) (mask_of form w') p 0 (is.fits d) within masks)

-- four places in one word
module _ (form : ℕ) (w w' : ℕ → ℕ) (b p r : ℕ) (is : IsForm form w) (four : room form ≡ 4) where
  not_wide : room form ≢ 256
  not_wide e = absurd (omega (arith, four, e))

  above : 2 < entries form
  above = entries_four form four

  some_width : 2 < width form
  some_width = let l = last_inside form 0 (omega (arith, four)) in omega (arith, l, last_above form 0, above)

  masks_four : (x : ℕ) → w' 2 ≡ r → ((i : ℕ) → bit_at r (32 + i) ≡ with_at (λ q. bit_at (w 2) (32 + q)) p x i) → (i : ℕ) → bit_at (mask_of form w') i ≡ with_at (bit_at (mask_of form w)) p x i
  masks_four x word bits i =
      ap (λ m. bit_at m i) (mask_four form w' four) ∙ shifted_bit (w' 2) 32 i ∙ ap (λ v. bit_at v (32 + i)) word ∙ bits i
      ∙ with_same (λ q. bit_at (w 2) (32 + q)) (bit_at (mask_of form w)) p x i (sym (ap (λ m. bit_at m i) (mask_four form w four) ∙ shifted_bit (w 2) 32 i))

  pub put_four_is : (x y : ℕ) → IsRoom form w b p → (is_inner form ≡ true → x ≢ 0)
      → ((i : ℕ) → i < 4 → byte_of r i ≡ with_at (byte_of (w 2)) p b i) → ((i : ℕ) → bit_at r (32 + i) ≡ with_at (λ q. bit_at (w 2) (32 + q)) p 1 i)
      → Same form w' (with_at (with_entry form w p x y) 2 r) → Becomes form w w' b (put_first form x) y
  put_four_is x y place some keys bits same =
      let word : w' 2 ≡ r = same 2 (omega arith) some_width ∙ with_here (with_entry form w p x y) 2 r in
      narrow_put form w w' b p is not_wide x y place some
      (λ i l. let l4 : i < 4 = omega (arith, four, l) in byte_four form w' i four l4 ∙ ap (λ v. byte_of v i) word ∙ keys i l4 ∙ with_same (byte_of (w 2)) (byte_in form w) p b i (sym (byte_four form w i four l4)))
      (masks_four 1 word bits)
      (λ j g l. same j (omega (arith, g, above)) l ∙ with_other (with_entry form w p x y) 2 r j (λ e. absurd (omega (arith, e, g, above))))

  pub take_four_is : p < 4 → taken_in form w p ≡ 1 → byte_in form w p ≡ b
      → ((i : ℕ) → i < 4 → byte_of r i ≡ byte_of (w 2) i) → ((i : ℕ) → bit_at r (32 + i) ≡ with_at (λ q. bit_at (w 2) (32 + q)) p 0 i)
      → Same form w' (with_at (without_entry form w p) 2 r) → Becomes form w w' b (λ key. 0) 0
  take_four_is within was at keys bits same =
      let word : w' 2 ≡ r = same 2 (omega arith) some_width ∙ with_here (without_entry form w p) 2 r in
      narrow_take form w w' b p is not_wide (omega (arith, four, within)) was at
      (λ i l. let l4 : i < 4 = omega (arith, four, l) in byte_four form w' i four l4 ∙ ap (λ v. byte_of v i) word ∙ keys i l4 ∙ sym (byte_four form w i four l4))
      (masks_four 0 word bits)
      (λ j g l. same j (omega (arith, g, above)) l ∙ with_other (without_entry form w p) 2 r j (λ e. absurd (omega (arith, e, g, above))))

-- sixteen or forty-eight: their bytes lie in the words from 2 on, and their mask in word m behind these
module _ (form : ℕ) (w w' : ℕ → ℕ) (b p k m v : ℕ) (is : IsForm form w) (narrow : room form ≢ 256) (mask_is : (u : ℕ → ℕ) → mask_of form u ≡ u m)
    (lines : (i : ℕ) → i < room form → 2 + i / 8 < m) (low : m < entries form) (rooms : 0 < room form) where
  mask_inside : m < width form
  mask_inside = let l = last_inside form 0 rooms in omega (arith, l, last_above form 0, low)

  masks_lined : (x : ℕ) → w' m ≡ v → ((i : ℕ) → bit_at v i ≡ with_at (bit_at (w m)) p x i) → (i : ℕ) → bit_at (mask_of form w') i ≡ with_at (bit_at (mask_of form w)) p x i
  masks_lined x word bits i = ap (λ z. bit_at z i) (mask_is w' ∙ word) ∙ bits i ∙ with_same (bit_at (w m)) (bit_at (mask_of form w)) p x i (ap (λ z. bit_at z i) (sym (mask_is w)))

  above_two : 2 < m
  above_two = let l = lines 0 rooms in omega (arith, l)

  pub put_lined : (x y : ℕ) → IsRoom form w b p → (is_inner form ≡ true → x ≢ 0)
      → ((q : ℕ) → byte_of k q ≡ with_at (byte_of (w (2 + p / 8))) (p % 8) b q) → ((i : ℕ) → bit_at v i ≡ with_at (bit_at (w m)) p 1 i)
      → Same form w' (with_at (with_at (with_entry form w p x y) (2 + p / 8) k) m v) → Becomes form w w' b (put_first form x) y
  put_lined x y place some keys bits same =
      let u = with_entry form w p x y in
      let line : 2 + p / 8 < m = lines p place.0 in
      let word : w' m ≡ v = same m (omega (arith, above_two)) mask_inside ∙ with_here (with_at u (2 + p / 8) k) m v in
      narrow_put form w w' b p is narrow x y place some
      (λ i l.
      let li : 2 + i / 8 < m = lines i l in
      let at : w' (2 + i / 8) ≡ with_at u (2 + p / 8) k (2 + i / 8) = same (2 + i / 8) (omega arith) (omega (arith, li, mask_inside)) ∙ with_other (with_at u (2 + p / 8) k) m v (2 + i / 8) (λ e. absurd (omega (arith, e, li))) in
      byte_narrow form w' i narrow ∙ ap (λ z. byte_of z (i % 8)) at ∙ elim (cases_eq (i / 8) (p / 8)) [
        | inl e ↦
            ap (λ z. byte_of (with_at u (2 + p / 8) k (2 + z)) (i % 8)) e ∙ ap (λ z. byte_of z (i % 8)) (with_here u (2 + p / 8) k) ∙ keys (i % 8) ∙ elim (cases_eq i p) [
              | inl s ↦ ap (λ z. with_at (byte_of (w (2 + p / 8))) (p % 8) b (z % 8)) s ∙ with_here (byte_of (w (2 + p / 8))) (p % 8) b ∙ sym (ap (with_at (byte_in form w) p b) s ∙ with_here (byte_in form w) p b)
              | inr d ↦
                  with_other (byte_of (w (2 + p / 8))) (p % 8) b (i % 8) (λ h. d (omega (arith, e, h))) ∙ ap (λ z. byte_of (w (2 + z)) (i % 8)) (sym e) ∙ sym (byte_narrow form w i narrow) ∙ sym (with_other (byte_in form w) p b i d)
            ]
        | inr d ↦
            ap (λ z. byte_of z (i % 8)) (with_other u (2 + p / 8) k (2 + i / 8) (λ e. d (omega (arith, e))) ∙ entry_low form w p x y (2 + i / 8) (omega (arith, li, low)))
            ∙ sym (byte_narrow form w i narrow) ∙ sym (with_other (byte_in form w) p b i (λ e. d (ap (λ z. z / 8) e)))
      ])
      (masks_lined 1 word bits)
      (λ j g l. same j (omega (arith, g, low, above_two)) l ∙ with_other (with_at u (2 + p / 8) k) m v j (λ e. absurd (omega (arith, e, g, low))) ∙ with_other u (2 + p / 8) k j (λ e. absurd (omega (arith, e, g, low, line))))

  pub take_lined : p < room form → taken_in form w p ≡ 1 → byte_in form w p ≡ b
      → ((i : ℕ) → bit_at v i ≡ with_at (bit_at (w m)) p 0 i) → Same form w' (with_at (without_entry form w p) m v) → Becomes form w w' b (λ key. 0) 0
  take_lined within was at bits same =
      let u = without_entry form w p in
      let word : w' m ≡ v = same m (omega (arith, above_two)) mask_inside ∙ with_here u m v in
      narrow_take form w w' b p is narrow within was at
      (λ i l.
      let li : 2 + i / 8 < m = lines i l in
      byte_narrow form w' i narrow
      ∙ ap (λ z. byte_of z (i % 8)) (same (2 + i / 8) (omega arith) (omega (arith, li, mask_inside)) ∙ with_other u m v (2 + i / 8) (λ e. absurd (omega (arith, e, li))) ∙ clear_low form w p (2 + i / 8) (omega (arith, li, low)))
      ∙ sym (byte_narrow form w i narrow))
      (masks_lined 0 word bits)
      (λ j g l. same j (omega (arith, g, low, above_two)) l ∙ with_other u m v j (λ e. absurd (omega (arith, e, g, low))))

-- the bytes of words that were read
two_words : (w : ℕ → ℕ) (a b i : ℕ) → w 2 ≡ a → w 3 ≡ b → i < 2 → get_or (a ∷ b ∷ []) i 0 ≡ w (2 + i)
two_words w a b zero e f l = sym e
two_words w a b (suc zero) e f l = sym f
two_words w a b (suc (suc i)) e f l = absurd (omega arith)

six_words : (w : ℕ → ℕ) (a b c d e f i : ℕ) → w 2 ≡ a → w 3 ≡ b → w 4 ≡ c → w 5 ≡ d → w 6 ≡ e → w 7 ≡ f → i < 6 → get_or (a ∷ b ∷ c ∷ d ∷ e ∷ f ∷ []) i 0 ≡ w (2 + i)
six_words w a b c d e f zero p2 p3 p4 p5 p6 p7 l = sym p2
six_words w a b c d e f (suc zero) p2 p3 p4 p5 p6 p7 l = sym p3
six_words w a b c d e f (suc (suc zero)) p2 p3 p4 p5 p6 p7 l = sym p4
six_words w a b c d e f (suc (suc (suc zero))) p2 p3 p4 p5 p6 p7 l = sym p5
six_words w a b c d e f (suc (suc (suc (suc zero)))) p2 p3 p4 p5 p6 p7 l = sym p6
six_words w a b c d e f (suc (suc (suc (suc (suc zero))))) p2 p3 p4 p5 p6 p7 l = sym p7
six_words w a b c d e f (suc (suc (suc (suc (suc (suc i)))))) p2 p3 p4 p5 p6 p7 l = absurd (omega arith)

module _ (form : ℕ) (w : ℕ → ℕ) (x : ℕ) (r : Option ℕ) where
  pub lowest_four : (a : ℕ) → room form ≡ 4 → w 2 ≡ a → IsLowest 4 (byte_of a) x r → IsLowest 4 (byte_in form w) x r
  lowest_four a four e low = lowest_like 4 (byte_of a) (byte_in form w) x r (λ i l. byte_four form w i four l ∙ ap (λ z. byte_of z i) e) low

  pub lowest_sixteen : (a b : ℕ) → room form ≡ 16 → w 2 ≡ a → w 3 ≡ b → IsLowest 16 (key_of (a ∷ b ∷ [])) x r → IsLowest 16 (byte_in form w) x r
  lowest_sixteen a b sixteen e f low = lowest_like 16 (key_of (a ∷ b ∷ [])) (byte_in form w) x r
      (λ i l. byte_narrow form w i (λ h. absurd (omega (arith, h, sixteen))) ∙ ap (λ z. byte_of z (i % 8)) (sym (two_words w a b (i / 8) e f (omega arith)))) low

  pub lowest_forty_eight : (a b c d e f : ℕ) → room form ≡ 48 → w 2 ≡ a → w 3 ≡ b → w 4 ≡ c → w 5 ≡ d → w 6 ≡ e → w 7 ≡ f
      → IsLowest 48 (key_of (a ∷ b ∷ c ∷ d ∷ e ∷ f ∷ [])) x r → IsLowest 48 (byte_in form w) x r
  lowest_forty_eight a b c d e f wide p2 p3 p4 p5 p6 p7 low = lowest_like 48 (key_of (a ∷ b ∷ c ∷ d ∷ e ∷ f ∷ [])) (byte_in form w) x r
      (λ i l. byte_narrow form w i (λ h. absurd (omega (arith, h, wide))) ∙ ap (λ z. byte_of z (i % 8)) (sym (six_words w a b c d e f (i / 8) p2 p3 p4 p5 p6 p7 (omega arith)))) low

module _ (form : ℕ) (w : ℕ → ℕ) (i : ℕ) where
  pub taken_four : room form ≡ 4 → taken_in form w i ≡ bit_at (w 2) (32 + i)
  taken_four four = taken_narrow form w i (λ h. absurd (omega (arith, h, four))) ∙ ap (λ m. bit_at m i) (mask_four form w four) ∙ shifted_bit (w 2) 32 i

  pub taken_sixteen : room form ≡ 16 → taken_in form w i ≡ bit_at (w 4) i
  taken_sixteen sixteen = taken_narrow form w i (λ h. absurd (omega (arith, h, sixteen))) ∙ ap (λ m. bit_at m i) (mask_sixteen form w sixteen)

  pub taken_forty_eight : room form ≡ 48 → taken_in form w i ≡ bit_at (w 8) i
  taken_forty_eight wide = taken_narrow form w i (λ h. absurd (omega (arith, h, wide))) ∙ ap (λ m. bit_at m i) (mask_forty_eight form w wide)

module _ (form : ℕ) (w w' : ℕ → ℕ) (b p k v : ℕ) (is : IsForm form w) where
  pub put_sixteen : room form ≡ 16 → (x y : ℕ) → IsRoom form w b p → (is_inner form ≡ true → x ≢ 0)
      → ((q : ℕ) → byte_of k q ≡ with_at (byte_of (w (2 + p / 8))) (p % 8) b q) → ((i : ℕ) → bit_at v i ≡ with_at (bit_at (w 4)) p 1 i)
      → Same form w' (with_at (with_at (with_entry form w p x y) (2 + p / 8) k) 4 v) → Becomes form w w' b (put_first form x) y
  put_sixteen sixteen = put_lined form w w' b p k 4 v is (λ h. absurd (omega (arith, h, sixteen))) (λ u. mask_sixteen form u sixteen) (λ i l. omega (arith, l, sixteen)) (omega (arith, entries_sixteen form sixteen)) (omega (arith, sixteen))

  pub put_forty_eight : room form ≡ 48 → (x y : ℕ) → IsRoom form w b p → (is_inner form ≡ true → x ≢ 0)
      → ((q : ℕ) → byte_of k q ≡ with_at (byte_of (w (2 + p / 8))) (p % 8) b q) → ((i : ℕ) → bit_at v i ≡ with_at (bit_at (w 8)) p 1 i)
      → Same form w' (with_at (with_at (with_entry form w p x y) (2 + p / 8) k) 8 v) → Becomes form w w' b (put_first form x) y
  put_forty_eight wide = put_lined form w w' b p k 8 v is (λ h. absurd (omega (arith, h, wide))) (λ u. mask_forty_eight form u wide) (λ i l. omega (arith, l, wide)) (omega (arith, entries_forty_eight form wide)) (omega (arith, wide))

module _ (form : ℕ) (w w' : ℕ → ℕ) (b p v : ℕ) (is : IsForm form w) where
  pub take_sixteen : room form ≡ 16 → p < 16 → taken_in form w p ≡ 1 → byte_in form w p ≡ b
      → ((i : ℕ) → bit_at v i ≡ with_at (bit_at (w 4)) p 0 i) → Same form w' (with_at (without_entry form w p) 4 v) → Becomes form w w' b (λ key. 0) 0
  take_sixteen sixteen within = take_lined form w w' b p 0 4 v is (λ h. absurd (omega (arith, h, sixteen))) (λ u. mask_sixteen form u sixteen) (λ i l. omega (arith, l, sixteen)) (omega (arith, entries_sixteen form sixteen)) (omega (arith, sixteen))
      (omega (arith, sixteen, within))

  pub take_forty_eight : room form ≡ 48 → p < 48 → taken_in form w p ≡ 1 → byte_in form w p ≡ b
      → ((i : ℕ) → bit_at v i ≡ with_at (bit_at (w 8)) p 0 i) → Same form w' (with_at (without_entry form w p) 8 v) → Becomes form w w' b (λ key. 0) 0
  take_forty_eight wide within = take_lined form w w' b p 0 8 v is (λ h. absurd (omega (arith, h, wide))) (λ u. mask_forty_eight form u wide) (λ i l. omega (arith, l, wide)) (omega (arith, entries_forty_eight form wide)) (omega (arith, wide))
      (omega (arith, wide, within))

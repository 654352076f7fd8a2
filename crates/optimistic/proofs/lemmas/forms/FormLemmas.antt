-- Nodes of 256, nodes with the same words, and an entry that is written over.
use Rattle.std.proofs.Common.{◌≡◌, ◌≢◌, ℕ, zero, suc, ◌+◌, ◌*◌, ◌/◌, ◌%◌, ◌^◌, ◌<◌, ◌≤◌, Bool, true, false, arith, ap, sym, ◌∙◌, refl, subst, inl, inr, cond, eqb, eq-eqb, if◌then◌else◌}
use Rattle.std.specs.Prelude.{Some}
use Rattle.std.proofs.lemmas.Bool.{cases_eq}
use Rattle.std.specs.Int.{bit_at}
use Rattle.std.proofs.lemmas.Nat.Bits.{bit_at-zero}
use Rattle.std.specs.FinMap as map
use Rattle.optimistic.specs.Layout.{room, entries, width, leaf_of}
use Rattle.optimistic.specs.forms.Bytes.{byte_of, with_at, IsLowest}
use Rattle.optimistic.specs.forms.Held.{held}
use Rattle.optimistic.specs.forms.Children.{is_inner, byte_in, mask_of, taken_in, first_word, last_word, firsts, lasts, first_of, second_of, IsForm, Finds, Becomes, put_first, with_entry, without_entry, Same}
use Rattle.optimistic.proofs.lemmas.forms.BitsAt.{with_same}
use Rattle.optimistic.proofs.lemmas.forms.Maps.{with_here, with_other, none_step, taken_step, free_step, here_lowest, here_put, child_there, child_none, takes_put, takes_take}
use Rattle.optimistic.proofs.lemmas.forms.ChildLemmas.{finds_is, firsts_are, lasts_are, same_first, same_second, becomes_put, becomes_taken, firsts_put, lasts_put}
use Rattle.optimistic.proofs.lemmas.forms.PlaceLemmas.{form_cases, first_inside, last_inside, last_above, entries_above, entry_first, entry_last, entry_low, narrow_put, byte_narrow, taken_narrow, clear_first, clear_last, clear_here}

-- maps of functions with the same values
pub held_like : (n : ℕ) (key key' taken taken' word word' : ℕ → ℕ) → ((i : ℕ) → i < n → key' i ≡ key i) → ((i : ℕ) → i < n → taken' i ≡ taken i) → ((i : ℕ) → i < n → word' i ≡ word i)
    → held key' taken' word' n ≡ held key taken word n
held_like zero key key' taken taken' word word' keys takes words = none_step key' taken' word' ∙ sym (none_step key taken word)
held_like (suc k) key key' taken taken' word word' keys takes words =
    let before = held_like k key key' taken taken' word word' (λ i l. keys i (omega arith)) (λ i l. takes i (omega arith)) (λ i l. words i (omega arith)) in
    let e = takes k (omega arith) in
    elim (cases_eq (taken k) 1) [
      | inl t ↦
          taken_step key' taken' word' k (e ∙ t) ∙ ap (λ m. map.insert m (key' k) (word' k)) before ∙ ap (λ b. map.insert (held key taken word k) b (word' k)) (keys k (omega arith))
          ∙ ap (λ x. map.insert (held key taken word k) (key k) x) (words k (omega arith)) ∙ sym (taken_step key taken word k t)
      | inr t ↦ free_step key' taken' word' k (λ f. t (sym e ∙ f)) ∙ before ∙ sym (free_step key taken word k t)
    ]

-- nodes with the same words
pub byte_like : (form : ℕ) (w v : ℕ → ℕ) → Same form v w → (i : ℕ) → i < room form → byte_in form v i ≡ byte_in form w i
unfolding width
byte_like form w v = form_cases (λ f. Same f v w → (i : ℕ) → i < room f → byte_in f v i ≡ byte_in f w i)
    (λ same i l. ap (λ x. byte_of x (i % 8)) (same (2 + i / 8) (omega arith) (omega arith)))
    (λ same i l. ap (λ x. byte_of x (i % 8)) (same (2 + i / 8) (omega arith) (omega arith)))
    (λ same i l. ap (λ x. byte_of x (i % 8)) (same (2 + i / 8) (omega arith) (omega arith)))
    (λ same i l. refl)
    (λ same i l. ap (λ x. byte_of x (i % 8)) (same (2 + i / 8) (omega arith) (omega arith)))
    (λ same i l. ap (λ x. byte_of x (i % 8)) (same (2 + i / 8) (omega arith) (omega arith)))
    (λ same i l. ap (λ x. byte_of x (i % 8)) (same (2 + i / 8) (omega arith) (omega arith)))
    (λ same i l. refl)
    (λ f z same i l. absurd (omega (arith, z, l))) form

mask_like : (form : ℕ) (w v : ℕ → ℕ) → Same form v w → 0 < room form → mask_of form v ≡ mask_of form w
unfolding width
mask_like form w v = form_cases (λ f. Same f v w → 0 < room f → mask_of f v ≡ mask_of f w)
    (λ same l. ap (λ x. x / 2 ^ 32) (same 2 (omega arith) (omega arith)))
    (λ same l. same 4 (omega arith) (omega arith))
    (λ same l. same 8 (omega arith) (omega arith))
    (λ same l. same 8 (omega arith) (omega arith))
    (λ same l. ap (λ x. x / 2 ^ 32) (same 2 (omega arith) (omega arith)))
    (λ same l. same 4 (omega arith) (omega arith))
    (λ same l. same 8 (omega arith) (omega arith))
    (λ same l. same 8 (omega arith) (omega arith))
    (λ f z same l. absurd (omega (arith, z, l))) form

pub taken_like : (form : ℕ) (w v : ℕ → ℕ) → Same form v w → (i : ℕ) → i < room form → taken_in form v i ≡ taken_in form w i
unfolding width
taken_like form w v = form_cases (λ f. Same f v w → (i : ℕ) → i < room f → taken_in f v i ≡ taken_in f w i)
    (λ same i l. ap (λ x. bit_at (x / 2 ^ 32) i) (same 2 (omega arith) (omega arith)))
    (λ same i l. ap (λ x. bit_at x i) (same 4 (omega arith) (omega arith)))
    (λ same i l. ap (λ x. bit_at x i) (same 8 (omega arith) (omega arith)))
    (λ same i l. ap (λ x. cond (eqb x 0) 0 1) (same (8 + 2 * i) (omega arith) (omega arith)))
    (λ same i l. ap (λ x. bit_at (x / 2 ^ 32) i) (same 2 (omega arith) (omega arith)))
    (λ same i l. ap (λ x. bit_at x i) (same 4 (omega arith) (omega arith)))
    (λ same i l. ap (λ x. bit_at x i) (same 8 (omega arith) (omega arith)))
    (λ same i l. ap (λ x. bit_at x (i % 64)) (same (2 + i / 64) (omega arith) (omega arith)))
    (λ f z same i l. absurd (omega (arith, z, l))) form

pub entries_some : (form : ℕ) (i : ℕ) → i < room form → 1 < first_word form i
entries_some = form_cases (λ f. (i : ℕ) → i < room f → 1 < first_word f i) (λ i l. omega arith) (λ i l. omega arith) (λ i l. omega arith) (λ i l. omega arith) (λ i l. omega arith) (λ i l. omega arith) (λ i l. omega arith) (λ i l. omega arith)
    (λ f z i l. absurd (omega (arith, z, l)))

pub lasts_some : (form : ℕ) (i : ℕ) → i < room form → 1 < last_word form i
lasts_some = form_cases (λ f. (i : ℕ) → i < room f → 1 < last_word f i) (λ i l. omega arith) (λ i l. omega arith) (λ i l. omega arith) (λ i l. omega arith) (λ i l. omega arith) (λ i l. omega arith) (λ i l. omega arith) (λ i l. omega arith)
    (λ f z i l. absurd (omega (arith, z, l)))

module _ (form : ℕ) (w v : ℕ → ℕ) (same : Same form v w) where
  firsts_like : firsts form v ≡ firsts form w
  firsts_like =
      firsts_are form v
      ∙ held_like (room form) (byte_in form w) (byte_in form v) (taken_in form w) (taken_in form v) (λ i. w (first_word form i)) (λ i. v (first_word form i)) (byte_like form w v same) (taken_like form w v same)
      (λ i l. same (first_word form i) (entries_some form i l) (first_inside form i l))
      ∙ sym (firsts_are form w)

  lasts_like : lasts form v ≡ lasts form w
  lasts_like =
      lasts_are form v
      ∙ held_like (room form) (byte_in form w) (byte_in form v) (taken_in form w) (taken_in form v) (λ i. w (last_word form i)) (λ i. v (last_word form i)) (byte_like form w v same) (taken_like form w v same)
      (λ i l. same (last_word form i) (lasts_some form i l) (last_inside form i l))
      ∙ sym (lasts_are form w)

  pub first_like : (key b : ℕ) → first_of form v key b ≡ first_of form w key b
  first_like key b = same_first form form w v key b refl (ap (λ m. map.get m b) firsts_like)

  pub second_like : (key b : ℕ) → second_of form v key b ≡ second_of form w key b
  second_like key b = same_second form form w v key b (ap (λ m. map.get m b) lasts_like)

  pub form_like : 0 < room form → IsForm form w → IsForm form v
  form_like some is = record {
    node = λ i j l m t e. is.node i j l m (sym (taken_like form w v same i m) ∙ t) (sym (byte_like form w v same j (omega arith)) ∙ e ∙ byte_like form w v same i m);
    children = λ e i l. elim (is.children e i l) [
      | inl y ↦ inl (taken_like form w v same i l ∙ y.0, λ z. y.1 (sym (same (first_word form i) (entries_some form i l) (first_inside form i l)) ∙ z))
      | inr y ↦ inr (λ t. y.0 (sym (taken_like form w v same i l) ∙ t), same (first_word form i) (entries_some form i l) (first_inside form i l) ∙ y.1)
    ];
    fits = λ d. subst (λ x. x < 2 ^ room form) (sym (mask_like form w v same some)) (is.fits d);
  }

-- 256 children: the byte is the place
pub wide_form : (w : ℕ → ℕ) → IsForm 4 w
wide_form w = record {
  node = λ i j l m t e. absurd (omega (arith, l, e));
  children = λ e i l. elim (cases_eq (w (8 + 2 * i)) 0) [
    | inl z ↦ inr (λ t. absurd (omega (arith, child_none (λ q. w (8 + 2 * q)) i z, t)), z)
    | inr d ↦ inl (child_there (λ q. w (8 + 2 * q)) i d, d)
  ];
  fits = λ d. absurd (d refl);
}

pub wide_finds : (w : ℕ → ℕ) (b : ℕ) → b < 256 → Finds 4 w b (Some b)
wide_finds w b l = finds_is 4 w b (wide_form w) (Some b) (here_lowest 256 b l)

module _ (w w' : ℕ → ℕ) (b x y n : ℕ) (l : b < 256) where
  wide_words : Same 4 w' (with_at (with_entry 4 w b x y) 2 n) → (j : ℕ) → 8 ≤ j → j < 520 → w' j ≡ with_entry 4 w b x y j
  unfolding width
  wide_words same j g m = same j (omega arith) m ∙ with_other (with_entry 4 w b x y) 2 n j (λ e. absurd (omega (arith, e, g)))

  pub wide_put : x ≢ 0 → Same 4 w' (with_at (with_entry 4 w b x y) 2 n) → Becomes 4 w w' b (put_first 4 x) y
  wide_put d same =
      let firsts : (q : ℕ) → q < 256 → w' (first_word 4 q) ≡ with_at (λ i. w (first_word 4 i)) b x q = λ (q : ℕ) (m : q < 256). wide_words same (first_word 4 q) (omega arith) (omega arith) ∙ entry_first 4 w b x y q in
      becomes_put 4 w w' b b (wide_form w) x y (l, inl (refl, λ i m e. absurd (omega (arith, m, e)))) (λ q m. here_put b q)
      (λ q m. ap (λ z. cond (eqb z 0) 0 1) (firsts q m) ∙ takes_put 256 b l (λ i. w (8 + 2 * i)) x d q)
      firsts
      (λ q m. wide_words same (last_word 4 q) (omega arith) (omega arith) ∙ entry_last 4 w b x y q)
      (λ e. d) (λ e. absurd (e refl))

  pub wide_maps : x ≢ 0 → Same 4 w' (with_at (with_entry 4 w b x y) 2 n) → (firsts 4 w' ≡ map.insert (firsts 4 w) b x) × (lasts 4 w' ≡ map.insert (lasts 4 w) b y)
  wide_maps d same =
      let firsts' : (q : ℕ) → q < 256 → w' (first_word 4 q) ≡ with_at (λ i. w (first_word 4 i)) b x q = λ (q : ℕ) (m : q < 256). wide_words same (first_word 4 q) (omega arith) (omega arith) ∙ entry_first 4 w b x y q in
      let lasts' : (q : ℕ) → q < 256 → w' (last_word 4 q) ≡ with_at (λ i. w (last_word 4 i)) b y q = λ (q : ℕ) (m : q < 256). wide_words same (last_word 4 q) (omega arith) (omega arith) ∙ entry_last 4 w b x y q in
      let takes : (q : ℕ) → q < 256 → taken_in 4 w' q ≡ with_at (taken_in 4 w) b 1 q = λ (q : ℕ) (m : q < 256). ap (λ z. cond (eqb z 0) 0 1) (firsts' q m) ∙ takes_put 256 b l (λ i. w (8 + 2 * i)) x d q in (
        firsts_put 4 w w' b b (wide_form w) x y (l, inl (refl, λ i m e. absurd (omega (arith, m, e)))) (λ q m. here_put b q) takes firsts' lasts' (λ e. d) (λ e. absurd (e refl)),
        lasts_put 4 w w' b b (wide_form w) x y (l, inl (refl, λ i m e. absurd (omega (arith, m, e)))) (λ q m. here_put b q) takes firsts' lasts' (λ e. d) (λ e. absurd (e refl)),
      )

module _ (w w' : ℕ → ℕ) (b n : ℕ) (l : b < 256) where
  gone_words : Same 4 w' (with_at (without_entry 4 w b) 2 n) → (j : ℕ) → 8 ≤ j → j < 520 → w' j ≡ without_entry 4 w b j
  unfolding width
  gone_words same j g m = same j (omega arith) m ∙ with_other (without_entry 4 w b) 2 n j (λ e. absurd (omega (arith, e, g)))

  cleared : (q : ℕ) → without_entry 4 w b (first_word 4 q) ≡ with_at (λ i. w (8 + 2 * i)) b 0 q
  cleared q = elim (cases_eq q b) [
    | inl e ↦ ap (λ z. without_entry 4 w b (first_word 4 z)) e ∙ clear_here 4 w b refl ∙ sym (ap (with_at (λ i. w (8 + 2 * i)) b 0) e ∙ with_here (λ i. w (8 + 2 * i)) b 0)
    | inr d ↦ clear_first 4 w b q d ∙ sym (with_other (λ i. w (8 + 2 * i)) b 0 q d)
  ]

  pub wide_take : w (8 + 2 * b) ≢ 0 → Same 4 w' (with_at (without_entry 4 w b) 2 n) → Becomes 4 w w' b (λ key. 0) 0
  wide_take d same = becomes_taken 4 w w' b b (wide_form w) l (child_there (λ q. w (8 + 2 * q)) b d) refl (λ i m. refl)
      (λ q m. ap (λ z. cond (eqb z 0) 0 1) (gone_words same (first_word 4 q) (omega arith) (omega arith) ∙ cleared q) ∙ takes_take 256 b l (λ i. w (8 + 2 * i)) q)
      (λ q m e. gone_words same (first_word 4 q) (omega arith) (omega arith) ∙ clear_first 4 w b q e) (λ q m e. gone_words same (last_word 4 q) (omega arith) (omega arith) ∙ clear_last 4 w b q e)
      (λ e. gone_words same (first_word 4 b) (omega arith) (omega arith) ∙ clear_here 4 w b refl) (λ e. absurd (e refl))

-- 256 values: a bit a byte
pub values_form : (w : ℕ → ℕ) → IsForm 8 w
values_form w = record {
  node = λ i j l m t e. absurd (omega (arith, l, e));
  children = λ e. absurd (cc);
  fits = λ d. absurd (d refl);
}

pub values_finds : (w : ℕ → ℕ) (b : ℕ) → b < 256 → Finds 8 w b (Some b)
values_finds w b l = finds_is 8 w b (values_form w) (Some b) (here_lowest 256 b l)

module _ (w w' : ℕ → ℕ) (b r : ℕ) (l : b < 256) where
  bits_with : (u : ℕ → ℕ) (x : ℕ) → ((j : ℕ) → j < 8 → u j ≡ w j) → ((i : ℕ) → bit_at r i ≡ with_at (bit_at (w (2 + b / 64))) (b % 64) x i)
      → ((j : ℕ) → 1 < j → j < 8 → w' j ≡ with_at u (2 + b / 64) r j) → (q : ℕ) → q < 256 → taken_in 8 w' q ≡ with_at (taken_in 8 w) b x q
  bits_with u x low bits words q m =
      let at : w' (2 + q / 64) ≡ with_at u (2 + b / 64) r (2 + q / 64) = words (2 + q / 64) (omega arith) (omega arith) in
      ap (λ z. bit_at z (q % 64)) at ∙ elim (cases_eq (q / 64) (b / 64)) [
        | inl e ↦
            ap (λ z. bit_at (with_at u (2 + b / 64) r (2 + z)) (q % 64)) e ∙ ap (λ z. bit_at z (q % 64)) (with_here u (2 + b / 64) r) ∙ bits (q % 64) ∙ elim (cases_eq q b) [
              | inl s ↦ ap (λ z. with_at (bit_at (w (2 + b / 64))) (b % 64) x (z % 64)) s ∙ with_here (bit_at (w (2 + b / 64))) (b % 64) x ∙ sym (ap (with_at (taken_in 8 w) b x) s ∙ with_here (taken_in 8 w) b x)
              | inr d ↦ with_other (bit_at (w (2 + b / 64))) (b % 64) x (q % 64) (λ h. d (omega (arith, e, h))) ∙ ap (λ z. bit_at (w (2 + z)) (q % 64)) (sym e) ∙ sym (with_other (taken_in 8 w) b x q d)
            ]
        | inr d ↦
            ap (λ z. bit_at z (q % 64)) (with_other u (2 + b / 64) r (2 + q / 64) (λ e. d (omega (arith, e))) ∙ low (2 + q / 64) (omega arith)) ∙ sym (with_other (taken_in 8 w) b x q (λ e. d (ap (λ z. z / 64) e)))
      ]

  pub values_put : (x y : ℕ) → ((i : ℕ) → bit_at r i ≡ with_at (bit_at (w (2 + b / 64))) (b % 64) 1 i)
      → Same 8 w' (with_at (with_entry 8 w b x y) (2 + b / 64) r) → Becomes 8 w w' b (put_first 8 x) y
  unfolding width
  values_put x y bits same =
      let words : (j : ℕ) → 8 ≤ j → j < 264 → w' j ≡ with_entry 8 w b x y j = λ (j : ℕ) (g : 8 ≤ j) (m : j < 264). same j (omega arith) m ∙ with_other (with_entry 8 w b x y) (2 + b / 64) r j (λ e. absurd (omega (arith, e, g, l))) in
      becomes_put 8 w w' b b (values_form w) x y (l, inl (refl, λ i m e. absurd (omega (arith, m, e)))) (λ q m. here_put b q)
      (bits_with (with_entry 8 w b x y) 1 (λ j m. entry_low 8 w b x y j m) bits (λ j g m. same j g (omega arith)))
      (λ q m. words (first_word 8 q) (omega arith) (omega arith) ∙ entry_first 8 w b x y q) (λ q m. words (last_word 8 q) (omega arith) (omega arith) ∙ entry_last 8 w b x y q)
      (λ e. absurd (cc)) (λ e. absurd (e refl))

  pub values_maps : (x y : ℕ) → ((i : ℕ) → bit_at r i ≡ with_at (bit_at (w (2 + b / 64))) (b % 64) 1 i)
      → Same 8 w' (with_at (with_entry 8 w b x y) (2 + b / 64) r) → (firsts 8 w' ≡ map.insert (firsts 8 w) b y) × (lasts 8 w' ≡ map.insert (lasts 8 w) b y)
  unfolding width
  values_maps x y bits same =
      let words : (j : ℕ) → 8 ≤ j → j < 264 → w' j ≡ with_entry 8 w b x y j = λ (j : ℕ) (g : 8 ≤ j) (m : j < 264). same j (omega arith) m ∙ with_other (with_entry 8 w b x y) (2 + b / 64) r j (λ e. absurd (omega (arith, e, g, l))) in
      let takes = bits_with (with_entry 8 w b x y) 1 (λ j m. entry_low 8 w b x y j m) bits (λ j g m. same j g (omega arith)) in
      let firsts' : (q : ℕ) → q < 256 → w' (first_word 8 q) ≡ with_at (λ i. w (first_word 8 i)) b y q = λ (q : ℕ) (m : q < 256). words (first_word 8 q) (omega arith) (omega arith) ∙ entry_first 8 w b x y q in
      let lasts' : (q : ℕ) → q < 256 → w' (last_word 8 q) ≡ with_at (λ i. w (last_word 8 i)) b y q = λ (q : ℕ) (m : q < 256). words (last_word 8 q) (omega arith) (omega arith) ∙ entry_last 8 w b x y q in (
        firsts_put 8 w w' b b (values_form w) x y (l, inl (refl, λ i m e. absurd (omega (arith, m, e)))) (λ q m. here_put b q) takes firsts' lasts' (λ e. absurd (cc)) (λ e. absurd (e refl)),
        lasts_put 8 w w' b b (values_form w) x y (l, inl (refl, λ i m e. absurd (omega (arith, m, e)))) (λ q m. here_put b q) takes firsts' lasts' (λ e. absurd (cc)) (λ e. absurd (e refl)),
      )

  pub values_take : taken_in 8 w b ≡ 1 → ((i : ℕ) → bit_at r i ≡ with_at (bit_at (w (2 + b / 64))) (b % 64) 0 i)
      → Same 8 w' (with_at w (2 + b / 64) r) → Becomes 8 w w' b (λ key. 0) 0
  unfolding width
  values_take was bits same =
      let words : (j : ℕ) → 8 ≤ j → j < 264 → w' j ≡ w j = λ (j : ℕ) (g : 8 ≤ j) (m : j < 264). same j (omega arith) m ∙ with_other w (2 + b / 64) r j (λ e. absurd (omega (arith, e, g, l))) in
      becomes_taken 8 w w' b b (values_form w) l was refl (λ i m. refl) (bits_with w 0 (λ j m. refl) bits (λ j g m. same j g (omega arith)))
      (λ q m e. words (first_word 8 q) (omega arith) (omega arith)) (λ q m e. words (last_word 8 q) (omega arith) (omega arith))
      (λ e. absurd (cc)) (λ e. absurd (e refl))

-- the maps of 256 places
pub held_none : (n : ℕ) (key taken word : ℕ → ℕ) → ((i : ℕ) → i < n → taken i ≢ 1) → held key taken word n ≡ map.empty
held_none zero key taken word free = none_step key taken word
held_none (suc k) key taken word free = free_step key taken word k (free k (omega arith)) ∙ held_none k key taken word (λ i l. free i (omega arith))

pub wide_empty : (v : ℕ → ℕ) → ((q : ℕ) → q < 256 → v (first_word 4 q) ≡ 0) → (firsts 4 v ≡ map.empty) × (lasts 4 v ≡ map.empty)
wide_empty v none =
    let free : (i : ℕ) → i < 256 → taken_in 4 v i ≢ 1 = λ (i : ℕ) (l : i < 256) (t : taken_in 4 v i ≡ 1). absurd (omega (arith, child_none (λ q. v (8 + 2 * q)) i (none i l), t)) in
    (firsts_are 4 v ∙ held_none 256 (byte_in 4 v) (taken_in 4 v) (λ i. v (first_word 4 i)) free, lasts_are 4 v ∙ held_none 256 (byte_in 4 v) (taken_in 4 v) (λ i. v (last_word 4 i)) free)

zero_word : (v : ℕ → ℕ) (i : ℕ) → i < 4 → v 2 ≡ 0 → v 3 ≡ 0 → v 4 ≡ 0 → v 5 ≡ 0 → v (2 + i) ≡ 0
zero_word v zero l a b c d = a
zero_word v (suc zero) l a b c d = b
zero_word v (suc (suc zero)) l a b c d = c
zero_word v (suc (suc (suc zero))) l a b c d = d
zero_word v (suc (suc (suc (suc i)))) l a b c d = absurd (omega arith)

pub values_empty : (v : ℕ → ℕ) → v 2 ≡ 0 → v 3 ≡ 0 → v 4 ≡ 0 → v 5 ≡ 0 → (firsts 8 v ≡ map.empty) × (lasts 8 v ≡ map.empty)
values_empty v a b c d =
    let free : (i : ℕ) → i < 256 → taken_in 8 v i ≢ 1 = λ (i : ℕ) (l : i < 256) (t : taken_in 8 v i ≡ 1).
    let none : taken_in 8 v i ≡ 0 = ap (λ z. bit_at z (i % 64)) (zero_word v (i / 64) (omega arith) a b c d) ∙ bit_at-zero (i % 64) in
    absurd (omega (arith, none, t)) in
    (firsts_are 8 v ∙ held_none 256 (byte_in 8 v) (taken_in 8 v) (λ i. v (first_word 8 i)) free, lasts_are 8 v ∙ held_none 256 (byte_in 8 v) (taken_in 8 v) (λ i. v (last_word 8 i)) free)

-- an entry written over
line_low : (form : ℕ) (i : ℕ) → i < room form → room form ≢ 256 → 2 + i / 8 < entries form
line_low = form_cases (λ f. (i : ℕ) → i < room f → room f ≢ 256 → 2 + i / 8 < entries f) (λ i l d. omega arith) (λ i l d. omega arith) (λ i l d. omega arith) (λ i l d. absurd (d refl)) (λ i l d. omega arith) (λ i l d. omega arith)
    (λ i l d. omega arith) (λ i l d. absurd (d refl)) (λ f z i l d. absurd (omega (arith, z, l)))

mask_low : (w v : ℕ → ℕ) (form : ℕ) → ((j : ℕ) → 1 < j → j < entries form → v j ≡ w j) → 0 < room form → room form ≢ 256 → mask_of form v ≡ mask_of form w
mask_low w v = form_cases (λ f. ((j : ℕ) → 1 < j → j < entries f → v j ≡ w j) → 0 < room f → room f ≢ 256 → mask_of f v ≡ mask_of f w)
    (λ same l d. ap (λ x. x / 2 ^ 32) (same 2 (omega arith) (omega arith)))
    (λ same l d. same 4 (omega arith) (omega arith))
    (λ same l d. same 8 (omega arith) (omega arith))
    (λ same l d. absurd (d refl))
    (λ same l d. ap (λ x. x / 2 ^ 32) (same 2 (omega arith) (omega arith)))
    (λ same l d. same 4 (omega arith) (omega arith))
    (λ same l d. same 8 (omega arith) (omega arith))
    (λ same l d. absurd (d refl))
    (λ f z same l d. absurd (omega (arith, z, l)))

pub same_with : (f : ℕ → ℕ) (p x i : ℕ) → f p ≡ x → f i ≡ with_at f p x i
same_with f p x i e = elim (cases_eq i p) [
  | inl s ↦ ap f s ∙ e ∙ sym (ap (with_at f p x) s ∙ with_here f p x)
  | inr d ↦ sym (with_other f p x i d)
]

module _ (w w' : ℕ → ℕ) (b p x y : ℕ) where
  entered_narrow : (form : ℕ) → room form ≢ 256 → IsForm form w → p < room form → taken_in form w p ≡ 1 → byte_in form w p ≡ b → (is_inner form ≡ true → x ≢ 0) → Same form w' (with_entry form w p x y) → Becomes form w w' b (put_first form x) y
  entered_narrow form narrow is within was at some same =
      let inside : entries form < width form = omega (arith, last_above form p, last_inside form p within) in
      let low : (j : ℕ) → 1 < j → j < entries form → w' j ≡ w j = λ (j : ℕ) (g : 1 < j) (m : j < entries form). same j g (omega (arith, m, inside)) ∙ entry_low form w p x y j m in
      narrow_put form w w' b p is narrow x y (within, inl (at, λ i l e. is.node p i l within was (e ∙ sym at))) some
      (λ i l.
      byte_narrow form w' i narrow ∙ ap (λ z. byte_of z (i % 8)) (low (2 + i / 8) (omega arith) (line_low form i l narrow)) ∙ sym (byte_narrow form w i narrow) ∙ same_with (byte_in form w) p b i at)
      (λ i. ap (λ z. bit_at z i) (mask_low w w' form low (omega arith) narrow) ∙ same_with (bit_at (mask_of form w)) p 1 i (sym (taken_narrow form w p narrow) ∙ was))
      (λ j g m. same j (omega (arith, g, entries_above form (omega arith))) m)

  pub entered : (form : ℕ) → IsForm form w → p < room form → taken_in form w p ≡ 1 → byte_in form w p ≡ b → (is_inner form ≡ true → x ≢ 0) → Same form w' (with_entry form w p x y) → Becomes form w w' b (put_first form x) y
  entered = form_cases (λ form. IsForm form w → p < room form → taken_in form w p ≡ 1 → byte_in form w p ≡ b → (is_inner form ≡ true → x ≢ 0) → Same form w' (with_entry form w p x y) → Becomes form w w' b (put_first form x) y)
      (entered_narrow 1 (λ e. absurd (omega (arith, e)))) (entered_narrow 2 (λ e. absurd (omega (arith, e)))) (entered_narrow 3 (λ e. absurd (omega (arith, e))))
      (λ is within was at some same. subst (λ z. Becomes 4 w w' z (put_first 4 x) y) at (wide_put w w' p x y (w 2) within (some refl) (λ j g m. same j g m ∙ same_with (with_entry 4 w p x y) 2 (w 2) j (entry_low 4 w p x y 2 (omega arith)))))
      (entered_narrow 5 (λ e. absurd (omega (arith, e)))) (entered_narrow 6 (λ e. absurd (omega (arith, e)))) (entered_narrow 7 (λ e. absurd (omega (arith, e))))
      (λ is within was at some same. subst (λ z. Becomes 8 w w' z (put_first 8 x) y) at (values_put w w' p (w (2 + p / 64)) within x y (λ i. same_with (bit_at (w (2 + p / 64))) (p % 64) 1 i was)
      (λ j g m. same j g m ∙ same_with (with_entry 8 w p x y) (2 + p / 64) (w (2 + p / 64)) j (entry_low 8 w p x y (2 + p / 64) (omega (arith, within))))))
      (λ f z is within was at some same. absurd (omega (arith, z, within)))

-- a value, or which keys a child covers, written over: the child word stays
pub rewritten : (form : ℕ) (w w' : ℕ → ℕ) (b p y : ℕ) → IsForm form w → p < room form → taken_in form w p ≡ 1 → byte_in form w p ≡ b → IsLowest (room form) (byte_in form w) b (Some p)
    → Same form w' (with_at w (last_word form p) y) → Becomes form w w' b (λ key. first_of form w key b) y
rewritten form w w' b p y is within was at low same =
    let x : ℕ = w (first_word form p) in
    let some : is_inner form ≡ true → x ≢ 0 = λ e. elim (is.children e p within) [
      | inl h ↦ h.1
      | inr h ↦ absurd (h.0 was)
    ] in
    let become = entered w w' b p x y form is within was at some (λ j g m. same j g m ∙ written (is_inner form) (entries form) w p y j) in
    let find = finds_is form w b is (Some p) low in
    record {
      form_stays = become.form_stays;
      first = λ key. become.first key ∙ sym (find.first key ∙ ap (λ (c : Bool). if is_inner form then w (first_word form p) else (if c then leaf_of key else 0)) (eq-eqb (taken_in form w p) 1 was));
      second = become.second;
      other_firsts = become.other_firsts;
      other_seconds = become.other_seconds;
    }
  where
    written : (c : Bool) (n : ℕ) (w : ℕ → ℕ) (p y j : ℕ) → with_at w (n + (if c then 2 * p + 1 else p)) y j ≡ (if c then with_at (with_at w (n + (if c then 2 * p else p)) (w (n + (if c then 2 * p else p)))) (n + (if c then 2 * p + 1 else p)) y else with_at w (n + (if c then 2 * p else p)) y) j
    written true n w p y j = with_same w (with_at w (n + 2 * p) (w (n + 2 * p))) (n + (2 * p + 1)) y j (same_with w (n + 2 * p) (w (n + 2 * p)) j refl)
    written false n w p y j = refl

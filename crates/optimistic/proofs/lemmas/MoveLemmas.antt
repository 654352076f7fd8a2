-- What a hand's loads and stores leave as it was, and what they make of a node's words.
use Rattle.std.proofs.Common.{◌≡◌, ◌≢◌, ℕ, ◌+◌, ◌-◌, ◌*◌, ◌/◌, ◌%◌, ◌^◌, ◌<◌, ◌≤◌, ◌&&◌, Bool, true, false, List, [], arith, ap, sym, ◌∙◌, refl, subst, inl, inr, cond, eqb, eq-eqb, if◌then◌else◌}
use Rattle.std.specs.Prelude.{ltb, leb, Some, IsTrue, ◌↔◌}
use Rattle.std.specs.Int.{bit_at}
use Rattle.std.proofs.lemmas.Bool.{cases_eq, cases_lt, lt-ltb, le-leb, leb-true, eqb-true}
use Rattle.std.proofs.lemmas.Bool.Decides.{nat_tests}
use Rattle.optimistic.specs.Layout.{room, entries, width, is_link, links}
use Rattle.optimistic.specs.declared.words.rule.Tenure.{Tenure}
use Rattle.optimistic.specs.declared.words.rule.View.{View}
use Rattle.optimistic.specs.words.Kept.{size, has, Held}
use Rattle.optimistic.specs.words.Told.{Good, HasForm, Tells, Looks, Stores}
use Rattle.optimistic.specs.forms.Bytes.{byte_of, with_at}
use Rattle.optimistic.specs.forms.Children.{is_inner, byte_in, mask_of, taken_in, first_word, last_word, with_entry, without_entry, IsForm, Finds, Same}
use Rattle.optimistic.specs.Moves.{words_of, Stays, Agree}
use mathlib.Core.List.{append-nil}
use Rattle.optimistic.proofs.lemmas.words.Chains.{later_trans}
use Rattle.optimistic.proofs.lemmas.words.Moments.{since_refl, since_trans, held_trans, calm_refl, calm_trans, inside_since}
use Rattle.optimistic.proofs.lemmas.forms.BitsAt.{with_same}
use Rattle.optimistic.proofs.lemmas.forms.Maps.{with_here, with_other}
use Rattle.optimistic.proofs.lemmas.forms.PlaceLemmas.{form_cases, first_inside, last_inside, first_above, last_above, entries_above, mask_four, mask_sixteen, mask_forty_eight}

-- forms
pub is_inner_of : (form : ℕ) → form < 5 → is_inner form ≡ true
is_inner_of form l = lt-ltb form 5 l

pub is_values_of : (form : ℕ) → 5 ≤ form → is_inner form ≡ false
is_values_of form l = grind (arith, nat_tests, l)

pub two_inside : (form : ℕ) → 0 < room form → 2 < width form
two_inside form l = let a = last_inside form 0 l in omega (arith, a, last_above form 0, entries_above form l)

pub below_inside : (form j : ℕ) → 0 < room form → j < entries form → j < width form
below_inside form j l m = let a = last_inside form 0 l in omega (arith, a, last_above form 0, m)

pub wide_room : (form : ℕ) → 0 < room form → room form ≢ 4 → room form ≢ 16 → room form ≢ 48 → room form ≡ 256
wide_room = form_cases (λ f. 0 < room f → room f ≢ 4 → room f ≢ 16 → room f ≢ 48 → room f ≡ 256) (λ l a b c. absurd (a refl)) (λ l a b c. absurd (b refl)) (λ l a b c. absurd (c refl)) (λ l a b c. refl)
    (λ l a b c. absurd (a refl)) (λ l a b c. absurd (b refl)) (λ l a b c. absurd (c refl)) (λ l a b c. refl) (λ f z l a b c. absurd (omega (arith, z, l)))

pub wide_inner : (form : ℕ) → room form ≡ 256 → form < 5 → form ≡ 4
wide_inner = form_cases (λ f. room f ≡ 256 → f < 5 → f ≡ 4) (λ e l. absurd (omega (arith, e))) (λ e l. absurd (omega (arith, e))) (λ e l. absurd (omega (arith, e))) (λ e l. refl) (λ e l. absurd (omega (arith, e))) (λ e l. absurd (omega (arith, e)))
    (λ e l. absurd (omega (arith, e))) (λ e l. absurd (omega (arith, l))) (λ f z e l. absurd (omega (arith, z, e)))

pub wide_values : (form : ℕ) → room form ≡ 256 → 5 ≤ form → form ≡ 8
wide_values = form_cases (λ f. room f ≡ 256 → 5 ≤ f → f ≡ 8) (λ e l. absurd (omega (arith, e))) (λ e l. absurd (omega (arith, e))) (λ e l. absurd (omega (arith, e))) (λ e l. absurd (omega (arith, l))) (λ e l. absurd (omega (arith, e)))
    (λ e l. absurd (omega (arith, e))) (λ e l. absurd (omega (arith, e))) (λ e l. refl) (λ f z e l. absurd (omega (arith, z, e)))

pub line_inside : (form i : ℕ) → i < room form → room form ≢ 256 → 2 + i / 8 < width form
line_inside form i l d = below_inside form (2 + i / 8) (omega arith) (lines form i l d)
  where
    lines : (form : ℕ) (i : ℕ) → i < room form → room form ≢ 256 → 2 + i / 8 < entries form
    lines = form_cases (λ f. (i : ℕ) → i < room f → room f ≢ 256 → 2 + i / 8 < entries f) (λ i l d. omega arith) (λ i l d. omega arith) (λ i l d. omega arith) (λ i l d. absurd (d refl)) (λ i l d. omega arith)
        (λ i l d. omega arith) (λ i l d. omega arith) (λ i l d. absurd (d refl)) (λ f z i l d. absurd (omega (arith, z, l)))

-- an entry's words by kind
pub entry_inner : (form : ℕ) (w : ℕ → ℕ) (p x y j : ℕ) → is_inner form ≡ true → with_entry form w p x y j ≡ with_at (with_at w (first_word form p) x) (last_word form p) y j
entry_inner form w p x y j e = ap (λ (c : Bool). (if c then with_at (with_at w (first_word form p) x) (last_word form p) y else with_at w (first_word form p) y) j) e

pub entry_values : (form : ℕ) (w : ℕ → ℕ) (p x y j : ℕ) → is_inner form ≡ false → with_entry form w p x y j ≡ with_at w (last_word form p) y j
entry_values form w p x y j e =
    ap (λ (c : Bool). (if c then with_at (with_at w (first_word form p) x) (last_word form p) y else with_at w (first_word form p) y) j) e
    ∙ ap (λ (z : ℕ). with_at w z y j) (ap (λ (c : Bool). entries form + (if c then 2 * p else p)) e ∙ sym (ap (λ (c : Bool). entries form + (if c then 2 * p + 1 else p)) e))

-- which words are child words
and_right : (p q : Bool) → (p && q) ≡ true → q ≡ true
and_right true q e = e
and_right false q e = absurd (cc)

and_left : (p q : Bool) → (p && q) ≡ true → p ≡ true
and_left true q e = refl
and_left false q e = absurd (cc)

all_three : (p q r : Bool) → p ≡ true → q ≡ true → r ≡ true → ((p && q) && r) ≡ true
all_three p q r a b c = (λ i. (a i && b i) && c i)

link_here : (a n i : ℕ) → i < n → links a n (a + 2 * i) ≡ true
link_here a n i l = all_three (leb a (a + 2 * i)) (ltb (a + 2 * i) (a + 2 * n)) (eqb ((a + 2 * i - a) % 2) 0) (le-leb a (a + 2 * i) (omega arith)) (lt-ltb (a + 2 * i) (a + 2 * n) (omega arith)) (eq-eqb ((a + 2 * i - a) % 2) 0 (omega arith))

link_odd : (a n i : ℕ) → links a n (a + (2 * i + 1)) ≡ true → ⊥
link_odd a n i e =
    let r = eqb-true ((a + (2 * i + 1) - a) % 2) 0 (and_right (leb a (a + (2 * i + 1)) && ltb (a + (2 * i + 1)) (a + 2 * n)) (eqb ((a + (2 * i + 1) - a) % 2) 0) e) in
    omega arith

link_low : (a n j : ℕ) → j < a → links a n j ≡ true → ⊥
link_low a n j l e = let r = leb-true a j (and_left (leb a j) (ltb j (a + 2 * n)) (and_left (leb a j && ltb j (a + 2 * n)) (eqb ((j - a) % 2) 0) e)) in omega arith

pub link_first : (form : ℕ) (i : ℕ) → i < room form → is_inner form ≡ true → is_link form (first_word form i) ≡ true
unfolding is_link
link_first = form_cases (λ f. (i : ℕ) → i < room f → is_inner f ≡ true → is_link f (first_word f i) ≡ true) (λ i l e. link_here 4 4 i l) (λ i l e. link_here 6 16 i l) (λ i l e. link_here 10 48 i l) (λ i l e. link_here 8 256 i l)
    (λ i l e. absurd (cc)) (λ i l e. absurd (cc)) (λ i l e. absurd (cc)) (λ i l e. absurd (cc)) (λ f z i l e. absurd (omega (arith, z, l)))

pub link_last : (form : ℕ) (i : ℕ) → i < room form → is_link form (last_word form i) ≡ true → ⊥
unfolding is_link
link_last = form_cases (λ f. (i : ℕ) → i < room f → is_link f (last_word f i) ≡ true → ⊥) (λ i l e. link_odd 4 4 i e) (λ i l e. link_odd 6 16 i e) (λ i l e. link_odd 10 48 i e) (λ i l e. link_odd 8 256 i e)
    (λ i l e. absurd (cc)) (λ i l e. absurd (cc)) (λ i l e. absurd (cc)) (λ i l e. absurd (cc)) (λ f z i l e. absurd (omega (arith, z, l)))

pub link_below : (form : ℕ) (j : ℕ) → 0 < room form → j < entries form → is_link form j ≡ true → ⊥
unfolding is_link
link_below = form_cases (λ f. (j : ℕ) → 0 < room f → j < entries f → is_link f j ≡ true → ⊥) (λ j z l e. link_low 4 4 j l e) (λ j z l e. link_low 6 16 j l e) (λ j z l e. link_low 10 48 j l e) (λ j z l e. link_low 8 256 j l e)
    (λ j z l e. absurd (cc)) (λ j z l e. absurd (cc)) (λ j z l e. absurd (cc)) (λ j z l e. absurd (cc)) (λ f z j l m e. absurd (omega (arith, z, l)))

pub no_child : (v : View) → Tells 0 v
no_child v l m = absurd (omega (arith, l))

module _ (good : Good) where
  pub looks_trans : (v w x : View) → Looks good v w → Looks good w x → Looks good v x
  looks_trans v w x p q = record {
    since = since_trans v.seen w.seen x.seen p.since q.since;
    held = held_trans v.mine v.seen w.seen x.seen p.since p.held (subst (λ (l : List Tenure). Held l w.seen x.seen) p.mine q.held);
    sound = q.sound;
    mine = q.mine ∙ p.mine;
    made = q.made ∙ p.made;
    own = (q.own.0 ∙ p.own.0, q.own.1);
  }

  pub looks_mine : (v w : View) (m : ℕ) → Looks good v w → has v.mine m ≡ true → has w.mine m ≡ true
  looks_mine v w m t h = ap (λ (l : List Tenure). has l m) t.mine ∙ h

  -- a word of a node that the hand has, as a load finds it
  pub looks_word : (n form j : ℕ) (v w : View) → HasForm n form v → has v.mine n ≡ true → j < width form → Looks good v w → words_of w n j ≡ words_of v n j
  looks_word n form j v w at h l t = (t.held n h).0 j (subst (λ (z : ℕ). j < width z) (sym at.is) l)

  pub looks_stays : (n : ℕ) (v w : View) → Looks good v w → Stays n v w
  looks_stays n v w t = record {
    later = (t.since.log, t.made, t.own.0);
    since = t.since;
    mine = t.mine;
    words = λ m h ne. (t.held m h).0;
    low = λ h j l l'. (t.held n h).0 j l';
    calm = λ m h. (t.held m h).1;
  }

  module _ (n form k x : ℕ) (v w : View) (at : HasForm n form v) (some : k < width form) (mine : has v.mine n ≡ true) (t : Stores good (n + k) x v w) where
    in_size : k < size v.seen.plots n
    in_size = subst (λ (z : ℕ). k < width z) (sym at.is) some

    pub stores_stays : 1 < k → Stays n v w
    stores_stays l = record {
      later = (t.since.log, t.made, t.own.0);
      since = t.since;
      mine = t.mine;
      words = λ m h ne j i. t.others m j h i (λ (e : m + j ≡ n + k). ne (t.sound.laid.apart m n j k (inside_since v.seen w.seen t.since m j i) (inside_since v.seen w.seen t.since n k in_size) e));
      low = λ h j i i'. t.others n j h i' (λ (e : n + j ≡ n + k). absurd (omega (arith, e, i, l)));
      calm = t.calm;
    }

    pub stored_words : Agree form (words_of w n) (with_at (words_of v n) k x)
    stored_words j l = elim (cases_eq j k) [
      | inl e ↦ ap (λ (z : ℕ). words_of w n z) e ∙ t.here ∙ sym (ap (with_at (words_of v n) k x) e ∙ with_here (words_of v n) k x)
      | inr d ↦ t.others n j mine (subst (λ (z : ℕ). j < width z) (sym at.is) l) (λ (e : n + j ≡ n + k). d (omega (arith, e))) ∙ sym (with_other (words_of v n) k x j d)
    ]

-- the same node after more steps
pub stays_refl : (n : ℕ) (v : View) → Stays n v v
stays_refl n v = record {
  later = (([], sym (append-nil v.seen.log)), refl, refl);
  since = since_refl v.seen;
  mine = refl;
  words = λ m h ne j l. refl;
  low = λ h j l l'. refl;
  calm = λ m h. calm_refl m v.seen;
}

pub stays_mine : (n m : ℕ) (v w : View) → Stays n v w → has v.mine m ≡ true → has w.mine m ≡ true
stays_mine n m v w t h = ap (λ (l : List Tenure). has l m) t.mine ∙ h

pub stays_trans : (n : ℕ) (v w x : View) → Stays n v w → Stays n w x → Stays n v x
stays_trans n v w x p q = record {
  later = later_trans v w x p.later q.later;
  since = since_trans v.seen w.seen x.seen p.since q.since;
  mine = q.mine ∙ p.mine;
  words = λ m h ne j l. q.words m (stays_mine n m v w p h) ne j (inside_since v.seen w.seen p.since m j l) ∙ p.words m h ne j l;
  low = λ h j l l'. q.low (stays_mine n n v w p h) j l (inside_since v.seen w.seen p.since n j l') ∙ p.low h j l l';
  calm = λ m h. calm_trans m v.seen w.seen x.seen (p.calm m h) (q.calm m (stays_mine n m v w p h));
}

-- the words of another node than the one that is filled
pub stays_word : (n m form j : ℕ) (v w : View) → HasForm m form v → has v.mine m ≡ true → m ≢ n → j < width form → Stays n v w → words_of w m j ≡ words_of v m j
stays_word n m form j v w at h ne l t = t.words m h ne j (subst (λ (z : ℕ). j < width z) (sym at.is) l)

pub agree_trans : (form : ℕ) (u v w : ℕ → ℕ) → Agree form w v → Agree form v u → Agree form w u
agree_trans form u v w p q j l = p j l ∙ q j l

-- two words written one after the other
pub agree_twice : (form : ℕ) (u v w : ℕ → ℕ) (k x i y : ℕ) → Agree form v (with_at u k x) → Agree form w (with_at v i y) → Agree form w (with_at (with_at u k x) i y)
agree_twice form u v w k x i y p q j l = q j l ∙ with_same v (with_at u k x) i y j (p j l)

pub first_bounds : (form i : ℕ) → i < room form → (2 < first_word form i) × (first_word form i < width form)
first_bounds form i l = (omega (arith, first_above form i, entries_above form (omega arith)), first_inside form i l)

pub last_bounds : (form i : ℕ) → i < room form → (2 < last_word form i) × (last_word form i < width form)
last_bounds form i l = (omega (arith, last_above form i, entries_above form (omega arith)), last_inside form i l)

pub told_bit : (res : Bool) (x y : ℕ) → x ≡ y → (IsTrue res ↔ (x ≡ 1)) → IsTrue res ↔ (y ≡ 1)
told_bit res x y e h = subst (λ (z : ℕ). IsTrue res ↔ (z ≡ 1)) e h

pub byte_wide : (form : ℕ) (w : ℕ → ℕ) (i : ℕ) → room form ≡ 256 → byte_in form w i ≡ i
byte_wide form w i e = ap (λ (c : Bool). if c then i else byte_of (w (2 + i / 8)) (i % 8)) (eq-eqb (room form) 256 e)

pub wide_first : (form i : ℕ) → room form ≡ 256 → form < 5 → i < 256 → 8 + 2 * i < width form
unfolding width
wide_first form i r l m = subst (λ (z : ℕ). 8 + 2 * i < width z) (sym (wide_inner form r l)) (omega arith)

pub wide_mask : (form i : ℕ) → room form ≡ 256 → 5 ≤ form → i < 256 → 2 + i / 64 < width form
unfolding width
wide_mask form i r l m = subst (λ (z : ℕ). 2 + i / 64 < width z) (sym (wide_values form r l)) (omega arith)

pub wide_taken : (form : ℕ) (w : ℕ → ℕ) (i : ℕ) → room form ≡ 256 → form < 5 → taken_in form w i ≡ cond (eqb (w (8 + 2 * i)) 0) 0 1
wide_taken form w i r l = ap (λ (z : ℕ). taken_in z w i) (wide_inner form r l)

pub values_taken : (form : ℕ) (w : ℕ → ℕ) (i : ℕ) → room form ≡ 256 → 5 ≤ form → taken_in form w i ≡ bit_at (w (2 + i / 64)) (i % 64)
values_taken form w i r l = ap (λ (z : ℕ). taken_in z w i) (wide_values form r l)

first_apart_by : (c : Bool) (n i k : ℕ) → n + (if c then 2 * i else i) ≡ n + (if c then 2 * k else k) → i ≡ k
first_apart_by true n i k e = omega (arith, e)
first_apart_by false n i k e = omega (arith, e)

pub first_apart : (form i k : ℕ) → first_word form i ≡ first_word form k → i ≡ k
first_apart form i k e = first_apart_by (is_inner form) (entries form) i k e

-- an entry written, and then one word or two
entry_like : (c : Bool) (w v : ℕ → ℕ) (a b x y j : ℕ) → v j ≡ w j → (if c then with_at (with_at v a x) b y else with_at v a y) j ≡ (if c then with_at (with_at w a x) b y else with_at w a y) j
entry_like true w v a b x y j e = with_same (with_at v a x) (with_at w a x) b y j (with_same v w a x j e)
entry_like false w v a b x y j e = with_same v w a y j e

pub entry_same : (form : ℕ) (w v : ℕ → ℕ) (p x y j : ℕ) → v j ≡ w j → with_entry form v p x y j ≡ with_entry form w p x y j
entry_same form w v p x y j e = entry_like (is_inner form) w v (first_word form p) (last_word form p) x y j e

pub put_one : (form : ℕ) (w w1 w2 w3 : ℕ → ℕ) (p x y k r : ℕ) → Agree form w1 w → Agree form w2 (with_entry form w1 p x y) → Agree form w3 (with_at w2 k r) → Same form w3 (with_at (with_entry form w p x y) k r)
put_one form w w1 w2 w3 p x y k r a b d j _ l = d j l ∙ with_same w2 (with_entry form w p x y) k r j (b j l ∙ entry_same form w w1 p x y j (a j l))

pub put_two : (form : ℕ) (w w1 w2 w3 w4 : ℕ → ℕ) (p x y k r i s : ℕ) → Agree form w1 w → Agree form w2 (with_entry form w1 p x y) → Agree form w3 (with_at w2 k r) → Agree form w4 (with_at w3 i s)
    → Same form w4 (with_at (with_at (with_entry form w p x y) k r) i s)
put_two form w w1 w2 w3 w4 p x y k r i s a b d e j g l = e j l ∙ with_same w3 (with_at (with_entry form w p x y) k r) i s j (put_one form w w1 w2 w3 p x y k r a b d j g l)

pub looks_agree : (good : Good) (n form : ℕ) (v w : View) → HasForm n form v → has v.mine n ≡ true → Looks good v w → Agree form (words_of w n) (words_of v n)
looks_agree good n form v w at h t j l = looks_word good n form j v w at h l t

-- the words that a mask lies in are small
pub four_small : (form : ℕ) (w : ℕ → ℕ) (x : ℕ) → room form ≡ 4 → IsForm form w → x ≡ w 2 → x < 2 ^ 36
four_small form w x r is e =
    let a : mask_of form w < 2 ^ room form = is.fits (λ h. absurd (omega (arith, h, r))) in
    let b : w 2 / 2 ^ 32 < 2 ^ 4 = subst (λ (z : ℕ). w 2 / 2 ^ 32 < 2 ^ z) r (subst (λ (z : ℕ). z < 2 ^ room form) (mask_four form w r) a) in
    omega (arith, b, e)

pub sixteen_small : (form : ℕ) (w : ℕ → ℕ) (x : ℕ) → room form ≡ 16 → IsForm form w → x ≡ w 4 → x < 2 ^ 16
sixteen_small form w x r is e =
    let a : mask_of form w < 2 ^ room form = is.fits (λ h. absurd (omega (arith, h, r))) in
    let b : w 4 < 2 ^ 16 = subst (λ (z : ℕ). w 4 < 2 ^ z) r (subst (λ (z : ℕ). z < 2 ^ room form) (mask_sixteen form w r) a) in
    omega (arith, b, e)

pub forty_eight_small : (form : ℕ) (w : ℕ → ℕ) (x : ℕ) → room form ≡ 48 → IsForm form w → x ≡ w 8 → x < 2 ^ 48
forty_eight_small form w x r is e =
    let a : mask_of form w < 2 ^ room form = is.fits (λ h. absurd (omega (arith, h, r))) in
    let b : w 8 < 2 ^ 48 = subst (λ (z : ℕ). w 8 < 2 ^ z) r (subst (λ (z : ℕ). z < 2 ^ room form) (mask_forty_eight form w r) a) in
    omega (arith, b, e)

-- a child word cleared, and then another word
pub without_inner : (form : ℕ) (w : ℕ → ℕ) (p j : ℕ) → is_inner form ≡ true → without_entry form w p j ≡ with_at w (first_word form p) 0 j
without_inner form w p j e = ap (λ (c : Bool). (if c then with_at w (first_word form p) 0 else w) j) e

pub without_values : (form : ℕ) (w : ℕ → ℕ) (p j : ℕ) → is_inner form ≡ false → without_entry form w p j ≡ w j
without_values form w p j e = ap (λ (c : Bool). (if c then with_at w (first_word form p) 0 else w) j) e

pub take_one : (form : ℕ) (w w1 w2 w3 : ℕ → ℕ) (p k r : ℕ) → Agree form w1 (without_entry form w p) → Agree form w2 w1 → Agree form w3 (with_at w2 k r) → Same form w3 (with_at (without_entry form w p) k r)
take_one form w w1 w2 w3 p k r a b d j _ l = d j l ∙ with_same w2 (without_entry form w p) k r j (b j l ∙ a j l)

-- the byte is the place, of 256 children or values
pub wide_found : (form : ℕ) (w : ℕ → ℕ) (b p : ℕ) → room form ≡ 256 → Finds 4 w b (Some p) → Finds 8 w b (Some p) → Finds form w b (Some p)
wide_found form w b p r children values = elim (cases_lt form 5) [
  | inl l ↦ subst (λ (z : ℕ). Finds z w b (Some p)) (sym (wide_inner form r l)) children
  | inr l ↦ subst (λ (z : ℕ). Finds z w b (Some p)) (sym (wide_values form r l)) values
]

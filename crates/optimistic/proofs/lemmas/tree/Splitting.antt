-- What a hand knows that puts a new node between a node and its child, and that it may let both go.
use Rattle.std.proofs.Common.{◌≡◌, ◌≢◌, ℕ, ◌/◌, ◌%◌, ◌<◌, ◌⊎◌, true, false, List, [], ◌∷◌, ◌++◌, sym, refl, ap, ◌∙◌, subst, inl, inr, arith}
use Rattle.std.specs.Prelude.{Option, None, Some, Result, Ok, Err, MatchResult}
use Rattle.std.proofs.lemmas.Bool.{cases_eq}
use Rattle.optimistic.specs.Layout.{room, width, is_link, byte_at, child_of, leaf_of, where_of}
use Rattle.optimistic.specs.declared.tree.fresh.Fresh.{Fresh}
use Rattle.optimistic.specs.declared.tree.set.Set.{Set}
use Rattle.optimistic.specs.declared.words.rule.Block.{Block}
use Rattle.optimistic.specs.declared.words.rule.Entry.{Entry}
use Rattle.optimistic.specs.declared.words.rule.Moment.{Moment}
use Rattle.optimistic.specs.declared.words.rule.Tenure.{Tenure}
use Rattle.optimistic.specs.declared.words.rule.View.{View}
use Rattle.optimistic.specs.words.Calls.{Later, Keeps, entry_of}
use Rattle.optimistic.specs.words.Kept.{version_at, size, calm_at, has, value_of, Held, Sound, block}
use Rattle.optimistic.specs.words.Told.{HasForm, Tells, Looks, MayUnlock, Unlocks, IsDrafted, signed, tenure}
use Rattle.optimistic.specs.Moves.{words_of, Stays}
use Rattle.optimistic.specs.forms.Children.{is_inner, first_of, second_of, IsForm, Becomes, Same}
use Rattle.optimistic.specs.forms.Pairs.{HasTwo}
use Rattle.optimistic.specs.tree.Branches.{IsBranch, IsSpare, Splits, split_note, LetsBothGo}
use Rattle.optimistic.specs.tree.Fresh.{IsMade}
use Rattle.optimistic.specs.tree.Levels.{stands}
use Rattle.optimistic.specs.tree.Reads.{Found}
use Rattle.optimistic.specs.tree.Sets.{Replaces, IsSet, LetsGo}
use Rattle.optimistic.specs.tree.Trees.{IsTree}
use Rattle.optimistic.specs.tree.Writes.{KeepsBut}
use Rattle.optimistic.proofs.lemmas.words.Chains.{later_keeps}
use Rattle.optimistic.proofs.lemmas.words.Moments.{calm_here, calm_else, has_here, has_else, version_word, width_more, width_some, form_since}
use Rattle.optimistic.proofs.lemmas.MoveLemmas.{link_below}
use Rattle.optimistic.proofs.lemmas.forms.FormLemmas.{first_like, second_like, form_like}
use Rattle.optimistic.proofs.lemmas.forms.PlaceLemmas.{entries_above}
use Rattle.optimistic.proofs.lemmas.tree.Branching.{branch_off, branch_none, split_tree}
use Rattle.optimistic.proofs.lemmas.tree.Nodes.{clash}
use Rattle.optimistic.proofs.lemmas.tree.Puts.{first_is, second_is}
use Rattle.optimistic.proofs.lemmas.tree.Reading.{where_stands, held_agrees}
use Rattle.optimistic.proofs.lemmas.tree.Sets.{drafted_shape}
use Rattle.optimistic.proofs.lemmas.tree.Setting.{room_some, ends_value, later_replaces, set_later}
use Rattle.optimistic.proofs.lemmas.tree.Writing.{words_stay}

pub inside : (n form j : ℕ) (v : View) → HasForm n form v → j < width form → j < size v.seen.plots n
inside n form j v at low = subst (λ (z : ℕ). j < width z) (sym at.is) low

-- the forms of a new node
pub four_is : (g c : ℕ) → (g ≡ 1) ⊎ ((g ≡ 5) × (c ≡ 7)) → (0 < g) × (g < 9) × (room g ≡ 4)
four_is g c t = elim t [
  | inl e ↦ (omega (arith, e), omega (arith, e), ap room e)
  | inr e ↦ (omega (arith, e.0), omega (arith, e.0), ap room e.0)
]

-- the word that says which keys a node covers is no child word
pub where_no_link : (form : ℕ) → 0 < room form → is_link form 1 ≡ true → ⊥
where_no_link form some e = link_below form 1 some (omega (arith, entries_above form some)) e

-- a lone leaf names no node
pub leaf_tells : (x key : ℕ) (v : View) → x ≡ leaf_of key → Tells x v
leaf_tells x key v e some low = let tag : x % 16 ≡ 9 = ap (λ (z : ℕ). z % 16) e ∙ tag_is key in absurd (omega (arith, tag, low))
  where
    tag_is : (k : ℕ) → leaf_of k % 16 ≡ 9
    tag_is k = omega arith

-- a child word names its node
pub child_tells : (g d m x : ℕ) (v : View) → g < 9 → d < 8 → x ≡ child_of g d m → HasForm m g v → Tells x v
child_tells g d m x v low deep e at some small =
    let tag : x % 16 ≡ g = ap (λ (z : ℕ). z % 16) e ∙ tag_is g d m low deep in
    let node : x / 256 ≡ m = ap (λ (z : ℕ). z / 256) e ∙ node_is g d m low deep in
    subst (λ (z : ℕ × ℕ). HasForm z.0 z.1 v) (λ i. (sym node i, sym tag i)) at
  where
    tag_is : (g d m : ℕ) → g < 9 → d < 8 → child_of g d m % 16 ≡ g
    tag_is g d m l k = omega arith

    node_is : (g d m : ℕ) → g < 9 → d < 8 → child_of g d m / 256 ≡ m
    node_is g d m l k = omega arith

-- a node that was filled has the version that it had
pub stays_but : (n form : ℕ) (v w : View) → HasForm n form v → 0 < width form → has v.mine n ≡ true → Stays n v w → KeepsBut n v w
stays_but n form v w at some own t = record {
  later = t.later;
  since = t.since;
  version = version_word w.seen.words n ∙ (t.low own 0 (omega arith) (inside n form 0 v at some) ∙ sym (version_word v.seen.words n));
  mine = t.mine;
  has_it = λ m h. ap (λ (l : List Tenure). has l m) t.mine ∙ h;
  words = t.words;
  calm = t.calm;
}

-- words that are the same
pub splits_like : (form level m g c byte f x key val : ℕ) (w w' v p p' q : ℕ → ℕ) → 0 < room form → 0 < room g → ((j : ℕ) → 0 < j → j < width form → p j ≡ w j) → ((j : ℕ) → 0 < j → j < width form → p' j ≡ w' j) → ((j : ℕ) → 0 < j → j < width g → q j ≡ v j)
    → 1 < width form → 1 < width g → Splits form level m g c byte f x key val w w' v → Splits form level m g c byte f x key val p p' q
splits_like form level m g c byte f x key val w w' v p p' q roomy roomy_g same same' same_v wide wide_g t =
    let s : Same form p w = λ j l l'. same j (omega (arith, l)) l' in
    let s' : Same form p' w' = λ j l l'. same' j (omega (arith, l)) l' in
    let sv : Same g q v = λ j l l'. same_v j (omega (arith, l)) l' in
    record {
      some = t.some;
      inner = t.inner;
      low = t.low;
      covers = same 1 (omega arith) wide ∙ t.covers;
      covers_still = same' 1 (omega arith) wide ∙ (t.covers_still ∙ sym (same 1 (omega arith) wide));
      first = first_like form w p s key (byte_at key level) ∙ t.first;
      second = second_like form w p s key (byte_at key level) ∙ t.second;
      branch = t.branch;
      becomes = record {
        form_stays = form_like form w' p' s' roomy t.becomes.form_stays;
        first = λ k. first_like form w' p' s' k (byte_at key level) ∙ t.becomes.first k;
        second = λ k. second_like form w' p' s' k (byte_at key level) ∙ t.becomes.second k;
        other_firsts = λ k b ne. first_like form w' p' s' k b ∙ (t.becomes.other_firsts k b ne ∙ sym (first_like form w p s k b));
        other_seconds = λ k b ne. second_like form w' p' s' k b ∙ (t.becomes.other_seconds k b ne ∙ sym (second_like form w p s k b));
      };
      covers_new = same_v 1 (omega arith) wide_g ∙ t.covers_new;
      two = record {
        form_is = form_like g v q sv roomy_g t.two.form_is;
        first_there = λ k. first_like g v q sv k byte ∙ t.two.first_there k;
        second_there = λ k. second_like g v q sv k byte ∙ t.two.second_there k;
        first_here = λ k. first_like g v q sv k (byte_at key c) ∙ t.two.first_here k;
        second_here = λ k. second_like g v q sv k (byte_at key c) ∙ t.two.second_here k;
        none = λ k b na nb. first_like g v q sv k b ∙ t.two.none k b na nb;
      };
    }

-- At the view u the hand had node n as it was settled; at y it has linked node m, which covered nothing
module _ (n m form level g c byte f x key val : ℕ) (u y : View) (some : 0 < form) (low : form < 9) (some_g : 0 < g) (low_g : g < 9) (apart : n ≢ m) (at : HasForm n form y) (at_m : HasForm m g y) (own : has y.mine n ≡ true) (own_m : has y.mine m ≡ true)
    (settled : (j : ℕ) → 0 < j → j < width form → calm_at y.seen.calm n j ≡ words_of u n j) (blank : calm_at y.seen.calm m 1 ≡ 0) (t : Splits form level m g c byte f x key val (words_of u n) (words_of y n) (words_of y m)) where
  wide : 1 < width form
  wide = omega (arith, width_more form some low)

  wide_g : 1 < width g
  wide_g = omega (arith, width_more g some_g low_g)

  pub may_split : MayUnlock IsTree n (split_note m key val) y
  may_split b since held sound =
      let B : List Block = b.calm in
      let B1 : List Block = block m b.words ∷ B in
      let C : List Block = block n b.words ∷ B1 in
      let e : Entry = signed y.by (entry_of 0 key (Some val)) in
      let kn = held n own in
      let km = held m own_m in
      split_tree B C n m form level g c byte f x key val b.log sound.means
      (splits_like form level m g c byte f x key val (words_of u n) (words_of y n) (words_of y m) (calm_at B n) (calm_at C n) (calm_at C m) (room_some form some low) (room_some g some_g low_g)
      (λ j l l'. kn.1 j ∙ settled j l l') (λ j l l'. calm_here n b.words B1 j ∙ kn.0 j (inside n form j y at l')) (λ j l l'. calm_else n m b.words B1 j apart ∙ (calm_here m b.words B j ∙ km.0 j (inside m g j y at_m l'))) wide wide_g t)
      (km.1 1 ∙ blank) apart (λ p pn pm j. calm_else n p b.words B1 j (λ q. pn (sym q)) ∙ calm_else m p b.words B j (λ q. pm (sym q)))
      (b.log ++ e ∷ []) e refl refl refl

  -- the key had no value
  pub was_none : (b : Moment) → Held y.mine y.seen b → Sound IsTree b → None ≡ value_of key b.log
  was_none b held sound =
      let B : List Block = b.calm in
      let kn = held n own in
      let calm : (j : ℕ) → 0 < j → j < width form → calm_at B n j ≡ words_of u n j = λ (j : ℕ) (l : 0 < j) (l' : j < width form). kn.1 j ∙ settled j l l' in
      let is : calm_at B n 1 ≡ where_of form level key = calm 1 (omega arith) wide ∙ t.covers in
      let same : Same form (calm_at B n) (words_of u n) = λ j l l'. calm j (omega (arith, l)) l' in
      sym (branch_none f x key level g c byte t.branch)
      ∙ ends_value B b.log n key f x sound.means (ap (λ (z : ℕ). stands z key) is ∙ where_stands form level key some low t.low)
      (first_is form level key some low t.low (calm_at B n) (words_of u n) is same key ∙ t.first) (λ _. second_is form level key some low t.low (calm_at B n) (words_of u n) is same key ∙ t.second)
      (branch_off f x key level g c byte t.branch)

-- the new node is as it was settled, after the other one was let go
pub settled_drafted : (n m g ver key val : ℕ) (y z : View) → n ≢ m → HasForm m g y → 0 < width g → has y.mine m ≡ true → version_at y.seen.words m ≡ ver → Unlocks IsTree n (split_note m key val) y z → HasForm m g z → IsDrafted m ver z
settled_drafted n m g ver key val y z apart at some own is t at_z =
    let own_z : has z.mine m ≡ true = ap (λ (l : List Tenure). has l m) t.mine ∙ (has_else n m false y.mine apart ∙ own) in
    let k = t.others m own_z in (
      own_z,
      version_word z.seen.words m ∙ (k 0 (inside m g 0 y at some) ∙ (sym (version_word y.seen.words m) ∙ is)),
      λ j l l'.
          let in_y : j < size y.seen.plots m = inside m g j y at (subst (λ (s : ℕ). j < width s) at_z.is l') in
          k j in_y ∙ (sym ((t.held m own).0 j in_y) ∙ sym (ap (λ (s : List Block). calm_at s m j) t.calm ∙ (calm_else n m t.b.words (block m t.b.words ∷ t.b.calm) j apart ∙ calm_here m t.b.words t.b.calm j))),
    )

-- the write was made as the node was let go
pub split_replaces : (n m key val : ℕ) (old : Option ℕ) (v y z r : View) → Later v y → (t : Unlocks IsTree n (split_note m key val) y z) → old ≡ value_of key t.b.log → Keeps z r → Replaces key (Some val) old v r
split_replaces n m key val old v y z r p t is k =
    let e : List Entry = entry_of y.by key (Some val) ∷ [] in
    let l : List Entry = (y.seen.log ++ t.since.log.0) ++ e in
    later_replaces key (Some val) old v y r p (
      (t.since.log.0, k.0.0.0, k.0.0.1 ∙ ap (λ (s : List Entry). s ++ k.0.0.0) (t.log ∙ ap (λ (s : List Entry). s ++ e) t.since.log.1), k.0.1 ∙ t.made, k.0.2 ∙ t.own.0, k.1),
      is ∙ ap (λ (s : List Entry). value_of key s) t.since.log.1,
    )

pub both_gone : (n m : ℕ) (v y z r : View) → y.mine ≡ v.mine → z.mine ≡ tenure n false ∷ y.mine → r.mine ≡ tenure m false ∷ z.mine → LetsBothGo n m v r
both_gone n m v y z r e e' e'' p h = elim (cases_eq p m) [
  | inl q ↦ absurd (clash (has r.mine p) h (ap (λ (l : List Tenure). has l p) e'' ∙ (ap (λ (s : ℕ). has (tenure m false ∷ z.mine) s) q ∙ has_here m false z.mine)))
  | inr pm ↦
      let hz : has z.mine p ≡ true = sym (has_else m p false z.mine (λ q. pm (sym q))) ∙ (ap (λ (l : List Tenure). has l p) (sym e'') ∙ h) in
      elim (cases_eq p n) [
        | inl q ↦ absurd (clash (has z.mine p) hz (ap (λ (l : List Tenure). has l p) e' ∙ (ap (λ (s : ℕ). has (tenure n false ∷ y.mine) s) q ∙ has_here n false y.mine)))
        | inr pn ↦ (pn, pm, ap (λ (l : List Tenure). has l p) (sym e) ∙ (sym (has_else n p false y.mine (λ q. pn (sym q))) ∙ (ap (λ (l : List Tenure). has l p) (sym e') ∙ hz)))
      ]
]

-- From the view v, at which the hand has node n as it was settled, and node m, to w, where m is filled, to y, where it is hung below n
module _ (n m form g ver ver_m : ℕ) (v w y : View) (some : 0 < form) (low : form < 9) (some_g : 0 < g) (low_g : g < 9) (apart : n ≢ m) (at : HasForm n form v) (at_m : HasForm m g v) (draft : IsDrafted n ver v) (draft_m : IsDrafted m ver_m v)
    (fill : KeepsBut m v w) (hung : Stays n w y) where
  at_w : HasForm n form w
  at_w = form_since n form v w (width_some form some low) at fill.since

  at_y : HasForm n form y
  at_y = form_since n form w y (width_some form some low) at_w hung.since

  at_m_w : HasForm m g w
  at_m_w = form_since m g v w (width_some g some_g low_g) at_m fill.since

  pub at_m_y : HasForm m g y
  at_m_y = form_since m g w y (width_some g some_g low_g) at_m_w hung.since

  own_w : has w.mine n ≡ true
  own_w = fill.has_it n draft.0

  own_m_w : has w.mine m ≡ true
  own_m_w = fill.has_it m draft_m.0

  pub own_y : has y.mine n ≡ true
  own_y = ap (λ (l : List Tenure). has l n) hung.mine ∙ own_w

  pub own_m_y : has y.mine m ≡ true
  own_m_y = ap (λ (l : List Tenure). has l m) hung.mine ∙ own_m_w

  -- filling the new node leaves the other one, and hanging it leaves it
  pub same_n : (j : ℕ) → j < width form → words_of w n j ≡ words_of v n j
  same_n j l = fill.words n draft.0 apart j (inside n form j v at l)

  same_m : (j : ℕ) → j < width g → words_of y m j ≡ words_of w m j
  same_m j l = hung.words m own_m_w (λ e. apart (sym e)) j (inside m g j w at_m_w l)

  pub version_n : version_at y.seen.words n ≡ ver
  version_n =
      let l : 0 < width form = width_some form some low in
      version_word y.seen.words n ∙ (hung.low own_w 0 (omega arith) (inside n form 0 w at_w l) ∙ (same_n 0 l ∙ (sym (version_word v.seen.words n) ∙ draft.1)))

  pub version_m : version_at y.seen.words m ≡ ver_m
  version_m = version_word y.seen.words m ∙ (same_m 0 (width_some g some_g low_g) ∙ (sym (version_word w.seen.words m) ∙ (fill.version ∙ draft_m.1)))

  settled_y : (j : ℕ) → 0 < j → j < width form → calm_at y.seen.calm n j ≡ words_of v n j
  settled_y j l l' = hung.calm n own_w j ∙ (fill.calm n draft.0 j ∙ sym (draft.2 j l (inside n form j v at l')))

  blank_y : calm_at v.seen.calm m 1 ≡ 0 → calm_at y.seen.calm m 1 ≡ 0
  blank_y z = hung.calm m own_m_w 1 ∙ (fill.calm m draft_m.0 1 ∙ z)

  module _ (level c byte f x key val : ℕ) (inner : is_inner form ≡ true) (deep : level < 8) (blank : calm_at v.seen.calm m 1 ≡ 0) (covers : words_of v n 1 ≡ where_of form level key) (first : first_of form (words_of v n) key (byte_at key level) ≡ f)
      (second : second_of form (words_of v n) key (byte_at key level) ≡ x) (branch : IsBranch f x key level g c byte) (covers_m : words_of w m 1 ≡ where_of g c key) (two : HasTwo g (words_of w m) byte f x (byte_at key c) (leaf_of key) val)
      (becomes : Becomes form (words_of w n) (words_of y n) (byte_at key level) (λ k. child_of g c m) (where_of g c key)) where
    wide_n : 1 < width form
    wide_n = omega (arith, width_more form some low)

    splits_w : Splits form level m g c byte f x key val (words_of w n) (words_of y n) (words_of w m)
    splits_w = record {
      some = some;
      inner = inner;
      low = deep;
      covers = same_n 1 wide_n ∙ covers;
      covers_still = hung.low own_w 1 (omega arith) (inside n form 1 w at_w wide_n);
      first = first_like form (words_of v n) (words_of w n) (λ j _ l. same_n j l) key (byte_at key level) ∙ first;
      second = second_like form (words_of v n) (words_of w n) (λ j _ l. same_n j l) key (byte_at key level) ∙ second;
      branch = branch;
      becomes = becomes;
      covers_new = covers_m;
      two = two;
    }

    splits_y : Splits form level m g c byte f x key val (words_of v n) (words_of y n) (words_of y m)
    splits_y = splits_like form level m g c byte f x key val (words_of w n) (words_of y n) (words_of w m) (words_of v n) (words_of y n) (words_of y m) (room_some form some low) (room_some g some_g low_g) (λ j _ l. sym (same_n j l)) (λ j _ _. refl)
        (λ j _ l. same_m j l) wide_n (omega (arith, width_more g some_g low_g)) splits_w

    pub may_let_go : MayUnlock IsTree n (split_note m key val) y
    may_let_go = may_split n m form level g c byte f x key val v y some low some_g low_g apart at_y at_m_y own_y own_m_y settled_y (blank_y blank) splits_y

    pub had_none : (b : Moment) → Held y.mine y.seen b → Sound IsTree b → None ≡ value_of key b.log
    had_none = was_none n m form level g c byte f x key val v y some low some_g low_g apart at_y at_m_y own_y own_m_y settled_y (blank_y blank) splits_y

-- what a hand has of a node that is as it was settled stays so where another node is taken
module _ (r : Fresh) (n form level ver g : ℕ) (v w : View) (some : 0 < form) (low : form < 9) (at : HasForm n form v) (draft : IsDrafted n ver v) (t : IsMade r g v w) where
  pub other_node : n ≢ r.node
  other_node e = clash (has v.mine n) draft.0 (ap (λ (z : ℕ). has v.mine z) e ∙ t.apart)

  pub still_has : has w.mine n ≡ true
  still_has = ap (λ (l : List Tenure). has l n) t.mine ∙ (has_else r.node n true v.mine (λ e. other_node (sym e)) ∙ draft.0)

  pub still_form : HasForm n form w
  still_form = form_since n form v w (width_some form some low) at t.since

  pub still_words : (j : ℕ) → j < width form → words_of w n j ≡ words_of v n j
  still_words j l = (t.held n draft.0).0 j (inside n form j v at l)

  pub still_drafted : IsDrafted n ver w
  still_drafted = (
    still_has,
    version_word w.seen.words n ∙ (still_words 0 (width_some form some low) ∙ (sym (version_word v.seen.words n) ∙ draft.1)),
    λ j l l'.
        let k : j < width form = subst (λ (z : ℕ). j < width z) still_form.is l' in
        still_words j k ∙ (draft.2 j l (inside n form j v at k) ∙ sym ((t.held n draft.0).1 j)),
  )

  pub made_spare : IsSpare r g w
  made_spare = record { at = t.at; drafted = t.drafted; ends = t.ends; blank = t.blank }

  -- both are let go, of which the hand had one before
  pub one_gone : (z : View) → LetsBothGo n r.node w z → LetsGo n v z
  one_gone z both p h = let b = both p h in (b.0, sym (has_else r.node p true v.mine (λ e. b.1 (sym e))) ∙ (ap (λ (l : List Tenure). has l p) (sym t.mine) ∙ b.2))

-- what came of a write that began later
pub outcome_later : {E : Type 0} (r : Result Set E) (key : ℕ) (value : Option ℕ) (u v w : View) → Later u v → MatchResult r (λ s. IsSet key value s v w) (λ _. Keeps v w) → MatchResult r (λ s. IsSet key value s u w) (λ _. Keeps u w)
outcome_later (Ok s) key value u v w p t = set_later key value s u v w p t
outcome_later (Err x) key value u v w p t = later_keeps u v w p t

-- A hand that has node n as it was settled has read its where, at the view v, and its child at a key's byte, at w
module _ (n form level key ver first second : ℕ) (v w : View) (some : 0 < form) (low : form < 9) (deep : level < 8) (at : HasForm n form v) (draft : IsDrafted n ver v) (covers : words_of v n 1 ≡ where_of form level key)
    (looks : Looks IsTree v w) (found : Found n form first second key (byte_at key level) v w) where
  roomy : 0 < room form
  roomy = room_some form some low

  same_w : (j : ℕ) → j < width form → words_of w n j ≡ words_of v n j
  same_w j l = words_stay n form j v w at l draft.0 looks

  shape_v : IsForm form (words_of v n)
  shape_v = drafted_shape n form level key ver v w some low deep roomy at draft looks covers

  pub shape_read : IsForm form (words_of w n)
  shape_read = form_like form (words_of v n) (words_of w n) (λ j _ l. same_w j l) roomy shape_v

  pub covers_read : words_of w n 1 ≡ where_of form level key
  covers_read = same_w 1 (omega (arith, width_more form some low)) ∙ covers

  said : (first_of form (words_of v n) key (byte_at key level) ≡ first) × (first ≢ 0 → second_of form (words_of v n) key (byte_at key level) ≡ second)
  said = found (words_of v n) (held_agrees n form v w draft.0 at.is) shape_v

  pub first_read : first_of form (words_of w n) key (byte_at key level) ≡ first
  first_read = first_like form (words_of v n) (words_of w n) (λ j _ l. same_w j l) key (byte_at key level) ∙ said.0

  pub second_read : first ≢ 0 → second_of form (words_of w n) key (byte_at key level) ≡ second
  second_read ne = second_like form (words_of v n) (words_of w n) (λ j _ l. same_w j l) key (byte_at key level) ∙ said.1 ne

-- A node that is rebuilt in another's place: its hand may settle all three at once.
use Rattle.std.proofs.Common.{◌≡◌, ℕ, ◌<◌, List, [], ◌∷◌, ◌++◌, sym, refl, ap, ◌∙◌, subst, arith}
use Rattle.std.specs.Prelude.{Option}
use Rattle.optimistic.specs.Layout.{room, width, byte_at, child_of, node_of, where_of}
use Rattle.optimistic.specs.declared.words.rule.Block.{Block}
use Rattle.optimistic.specs.declared.words.rule.Entry.{Entry}
use Rattle.optimistic.specs.declared.words.rule.View.{View}
use Rattle.optimistic.specs.words.Calls.{entry_of}
use Rattle.optimistic.specs.words.Kept.{calm_at, block}
use Rattle.optimistic.specs.words.Told.{MayUnlock, signed}
use Rattle.optimistic.specs.Moves.{words_of}
use Rattle.optimistic.specs.forms.Children.{is_inner, first_of, second_of, Becomes, Same}
use Rattle.optimistic.specs.tree.Levels.{form_of, depth, stands, goes_on, pair_value, SameAt}
use Rattle.optimistic.specs.tree.Trees.{where_at, first_in, second_in, first_at, second_at, IsTree}
use Rattle.optimistic.specs.tree.Replace.{IsRebuilt, rebuilt_note}
use Rattle.optimistic.proofs.lemmas.words.Moments.{calm_here, calm_else}
use Rattle.optimistic.proofs.lemmas.forms.FormLemmas.{first_like, second_like, form_like}
use Rattle.optimistic.proofs.lemmas.tree.Replaced.{replaced}

-- words that are the same as far as their node goes
pub becomes_like : (form : ℕ) (w w' v v' : ℕ → ℕ) (b : ℕ) (x : ℕ → ℕ) (y : ℕ) → 0 < room form → Same form v w → Same form v' w' → Becomes form w w' b x y → Becomes form v v' b x y
becomes_like form w w' v v' b x y some s s' t = record {
  form_stays = form_like form w' v' s' some t.form_stays;
  first = λ key. first_like form w' v' s' key b ∙ t.first key;
  second = λ key. second_like form w' v' s' key b ∙ t.second key;
  other_firsts = λ key q d. first_like form w' v' s' key q ∙ (t.other_firsts key q d ∙ sym (first_like form w v s key q));
  other_seconds = λ key q d. second_like form w' v' s' key q ∙ (t.other_seconds key q d ∙ sym (second_like form w v s key q));
}

in_like : (form : ℕ) (w v : ℕ → ℕ) → form_of (w 1) ≡ form → v 1 ≡ w 1 → Same form v w → (k : ℕ) → (first_in v k ≡ first_in w k) × (second_in v k ≡ second_in w k)
in_like form w v f e same k =
    let s : Same (form_of (w 1)) v w = subst (λ (z : ℕ). Same z v w) (sym f) same in (
      ap (λ (z : ℕ). first_of (form_of z) v k (byte_at k (depth z))) e ∙ first_like (form_of (w 1)) w v s k (byte_at k (depth (w 1))),
      ap (λ (z : ℕ). second_of (form_of z) v k (byte_at k (depth z))) e ∙ second_like (form_of (w 1)) w v s k (byte_at k (depth (w 1))),
    )

same_at : (k f x f' x' h y h' y' : ℕ) → h ≡ f → y ≡ x → h' ≡ f' → y' ≡ x' → SameAt k f x f' x' → SameAt k h y h' y'
same_at k f x f' x' h y h' y' p q p' q' s = subst (λ (z : ℕ × ℕ × ℕ × ℕ). SameAt k z.0 z.1 z.2 z.3) (λ i. (sym p i, sym q i, sym p' i, sym q' i)) s

module _ (a n m h f g key d : ℕ) (value : Option ℕ) (u y : View) (r : IsRebuilt a n m h f g key d value u y) where
  pub may_rebuild : MayUnlock IsTree a (rebuilt_note n m key value) y
  may_rebuild b since held sound =
      let B : List Block = b.calm in
      let B1 : List Block = block m b.words ∷ B in
      let B2 : List Block = block n b.words ∷ B1 in
      let C : List Block = block a b.words ∷ B2 in
      let e : Entry = signed y.by (entry_of 0 key value) in
      let ka = held a r.has_above in
      let kn = held n r.has_old in
      let km = held m r.has_new in
      let at_a : (j : ℕ) → j < width h → calm_at C a j ≡ words_of y a j = λ (j : ℕ) (l : j < width h). calm_here a b.words B2 j ∙ ka.0 j (subst (λ (z : ℕ). j < width z) (sym r.above_form.is) l) in
      let at_n : (j : ℕ) → j < width f → calm_at C n j ≡ words_of y n j = λ (j : ℕ) (l : j < width f). calm_else a n b.words B2 j r.an ∙ (calm_here n b.words B1 j ∙ kn.0 j (subst (λ (z : ℕ). j < width z) (sym r.old_form.is) l)) in
      let at_m : (j : ℕ) → j < width g → calm_at C m j ≡ words_of y m j = λ (j : ℕ) (l : j < width g).
      calm_else a m b.words B2 j r.am ∙ (calm_else n m b.words B1 j r.nm ∙ (calm_here m b.words B j ∙ km.0 j (subst (λ (z : ℕ). j < width z) (sym r.new_form.is) l))) in
      let was_a : (j : ℕ) → 0 < j → j < width h → calm_at B a j ≡ words_of u a j = λ (j : ℕ) (s : 0 < j) (l : j < width h). ka.1 j ∙ r.above_settled j s l in
      let was_n : (j : ℕ) → 0 < j → j < width f → calm_at B n j ≡ words_of u n j = λ (j : ℕ) (s : 0 < j) (l : j < width f). kn.1 j ∙ r.old_settled j s l in
      let wa : calm_at B a 1 ≡ words_of u a 1 = was_a 1 (omega arith) r.above_wide in
      let wn : calm_at B n 1 ≡ words_of u n 1 = was_n 1 (omega arith) r.old_wide in
      let same_a : Same h (calm_at B a) (words_of u a) = λ j s l. was_a j (omega (arith, s)) l in
      let same_n : Same f (calm_at B n) (words_of u n) = λ j s l. was_n j (omega (arith, s)) l in
      let new_a : Same h (calm_at C a) (words_of y a) = λ j s l. at_a j l in
      let new_m : Same g (calm_at C m) (words_of y m) = λ j s l. at_m j l in
      let wm : calm_at C m 1 ≡ words_of y m 1 = at_m 1 r.new_wide in
      let i_a = in_like h (words_of u a) (calm_at B a) r.above_is wa same_a in
      let i_n = in_like f (words_of u n) (calm_at B n) r.old_is wn same_n in
      let i_m = in_like g (words_of y m) (calm_at C m) r.new_is wm new_m in
      let ia = i_a key in
      let in_n = i_n key in
      let im = i_m key in
      let form_b : form_of (where_at B a) ≡ h = ap form_of wa ∙ r.above_is in
      replaced B C a n m key f g d value b.log sound.means
      (record {
        over = record {
          inner = ap is_inner form_b ∙ r.inner;
          covers = ap (λ (z : ℕ). stands z key) wa ∙ r.covers;
          on = (λ i. goes_on (ia.0 i) (ia.1 i) key) ∙ r.on;
          names = ap node_of ia.0 ∙ r.names;
          where_below = wn ∙ r.where_old;
          form_some = r.form_some;
          form_low = r.form_low;
          depth_low = r.depth_low;
          apart = r.an;
        };
        linked = record {
          where_stays = at_a 1 r.above_wide ∙ (r.where_stays ∙ sym wa);
          becomes = subst (λ (z : ℕ). Becomes (form_of z) (calm_at B a) (calm_at C a) (byte_at key (depth z)) (λ k. child_of g d m) (where_of g d key)) (sym wa)
              (subst (λ (z : ℕ). Becomes z (calm_at B a) (calm_at C a) (byte_at key (depth (words_of u a 1))) (λ k. child_of g d m) (where_of g d key)) (sym r.above_is)
              (becomes_like h (words_of u a) (words_of y a) (calm_at B a) (calm_at C a) (byte_at key (depth (words_of u a 1))) (λ k. child_of g d m) (where_of g d key) r.above_room same_a new_a r.becomes));
        };
        others = λ p pa pn pm j. calm_else a p b.words B2 j (λ q. pa (sym q)) ∙ (calm_else n p b.words B1 j (λ q. pn (sym q)) ∙ calm_else m p b.words B j (λ q. pm (sym q)));
        am = r.am;
        nm = r.nm;
        gone = at_n 1 r.old_wide ∙ r.gone;
        blank = km.1 1 ∙ r.blank;
        where_new = wm ∙ r.where_new;
        new_some = r.new_some;
        new_low = r.new_low;
        form_new = form_like g (words_of y m) (calm_at C m) new_m r.new_room r.form_new;
        below = λ k s ne. let p = i_n k in let q = i_m k in same_at k (first_in (words_of u n) k) (second_in (words_of u n) k) (first_in (words_of y m) k) (second_in (words_of y m) k)
            (first_at B n k) (second_at B n k) (first_at C m k) (second_at C m k) p.0 p.1 q.0 q.1 (r.below k s ne);
        off = (λ i. goes_on (in_n.0 i) (in_n.1 i) key) ∙ r.off;
        ended = (λ i. goes_on (im.0 i) (im.1 i) key) ∙ r.ended;
        says = (λ i. pair_value (im.0 i) (im.1 i) key) ∙ r.says;
      })
      (b.log ++ e ∷ []) e refl refl refl

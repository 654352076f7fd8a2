-- A node's only child beside a key's goes up in the node's place: its hand may settle both nodes at once.
use Rattle.std.proofs.Common.{◌≡◌, ◌≢◌, ℕ, ◌+◌, ◌-◌, ◌*◌, ◌/◌, ◌^◌, ◌<◌, ⊎_elim, ◌&&◌, eqb, ltb, Bool, true, false, List, [], ◌∷◌, ◌++◌, sym, refl, ap, ◌∙◌, subst, arith, pow_mono, Option, None}
use Rattle.std.proofs.lemmas.Bool.{eqb-true}
use Rattle.std.proofs.lemmas.Nat.{shr_high}
use mathlib.Core.Logic.{dite}
use native.Mathlib.Decide.{ℕ_discrete}
use Rattle.optimistic.specs.Layout.{width, byte_at, tag_of, level_of, node_of, leaf_of, where_of, prefix_of}
use Rattle.optimistic.specs.declared.moves.Item.{Item}
use Rattle.optimistic.specs.declared.tree.locked.Locked.{Locked}
use Rattle.optimistic.specs.declared.tree.place.Place.{Place}
use Rattle.optimistic.specs.declared.words.rule.Block.{Block}
use Rattle.optimistic.specs.declared.words.rule.Entry.{Entry}
use Rattle.optimistic.specs.declared.words.rule.Tenure.{Tenure}
use Rattle.optimistic.specs.declared.words.rule.View.{View}
use Rattle.optimistic.specs.words.Calls.{entry_of}
use Rattle.optimistic.specs.words.Kept.{calm_at, has, block}
use Rattle.optimistic.specs.words.Told.{MayUnlock, Looks, Tells, signed}
use Rattle.optimistic.specs.Moves.{words_of}
use Rattle.optimistic.specs.forms.Children.{is_inner, first_of, second_of, IsForm, Becomes, Same}
use Rattle.optimistic.specs.forms.Copies.{own_first}
use Rattle.optimistic.specs.tree.Exchanges.{IsHeld, IsLocked, Hangs, Owns, HasValue, IsHung, GoesTo, IsBelow}
use Rattle.optimistic.specs.tree.Levels.{form_of, depth, stands, goes_on, pair_value}
use Rattle.optimistic.specs.tree.Raises.{IsRisen, Rises, lifted_note}
use Rattle.optimistic.specs.tree.Trees.{IsTree, where_at, first_at, second_at}
use Rattle.optimistic.proofs.lemmas.words.Moments.{calm_here, calm_else}
use Rattle.optimistic.proofs.lemmas.forms.Levels.{where_level, where_form, leaf_whole}
use Rattle.optimistic.proofs.lemmas.CopyLemmas.{put_inner, put_values, only_first, only_second, only_none}
use Rattle.optimistic.proofs.lemmas.tree.Nodes.{clash, decide, not_true, goes_stands}
use Rattle.optimistic.proofs.lemmas.tree.Puts.{same_top, same_key, first_inner, first_is, second_is, covers_where}
use Rattle.optimistic.proofs.lemmas.tree.Rebuilding.{becomes_like}
use Rattle.optimistic.proofs.lemmas.tree.Replaced.{where_made, prefix_less, byte_less, lifted}
use Rattle.optimistic.proofs.lemmas.tree.Reading.{where_stands, none_ends, none_value, tag_ends}
use Rattle.optimistic.proofs.lemmas.tree.Setting.{room_some, other_value}
use Rattle.optimistic.proofs.lemmas.tree.Splitting.{leaf_tells}
use Rattle.optimistic.proofs.lemmas.tree.Holding.{inside, second_word}
use Rattle.optimistic.proofs.lemmas.tree.Exchanging.{own_ends, own_none, had_value}

-- a child that goes on is a node of the form that its where says
goes_form : (c x k : ℕ) → goes_on c x k ≡ true → form_of x ≡ tag_of c
unfolding goes_on
goes_form c x k on = eqb-true (form_of x) (tag_of c) (last (ltb 0 (tag_of c)) (ltb (tag_of c) 9) (eqb (form_of x) (tag_of c)) (eqb (depth x) (level_of c)) (stands x k) on)
  where
    last : (p q e g s : Bool) → (((p && q) && (e && g)) && s) ≡ true → e ≡ true
    last true true true g s h = refl
    last true true false g s h = absurd (clash false h refl)
    last true false e g s h = absurd (clash false h refl)
    last false q e g s h = absurd (clash false h refl)

sum_of : (a b c : ℕ) → a + b + c ≡ a + (b + c)
sum_of a b c = omega arith

-- the first bytes that a where says
prefix_there : (form level key : ℕ) → level < 8 → form < 16 → prefix_of (where_of form level key) level ≡ prefix_of key level
prefix_there form level key l f =
    let small : 8 * form + level < 2 ^ (64 - 8 * level) = omega (arith, pow_mono {i = 8} {j = 64 - 8 * level} (omega arith)) in
    ap (λ (z : ℕ). z / 2 ^ (64 - 8 * level)) (sum_of (prefix_of key level * 2 ^ (64 - 8 * level)) (8 * form) level) ∙ shr_high (prefix_of key level) (64 - 8 * level) (8 * form + level) small

-- a child that has only keys that go to its byte has nothing of the others with the same first byte
module _ (n : Place) (key byte c x : ℕ) (some : 0 < n.form) (low : n.form < 9) (deep : n.level < 8) (k : ℕ) (away : stands (where_of n.form n.level key) k ≡ true → byte_at k n.level ≢ byte) where
  never : (o : ℕ) → GoesTo n key byte o → where_of n.form n.level o ≡ where_of n.form n.level k → byte_at o n.level ≡ byte_at k n.level → ⊥
  never o t w b = away (ap (λ (z : ℕ). stands z k) (sym t.0 ∙ w) ∙ where_stands n.form n.level k some low deep) (sym b ∙ t.1)

  beyond_leaf : key / 72057594037927936 ≡ k / 72057594037927936 → tag_of c ≡ 9 → GoesTo n key byte (key / 72057594037927936 * 72057594037927936 + c / 256) → (goes_on c x k ≡ false) × (pair_value c x k ≡ None)
  beyond_leaf top tag t = (
    tag_ends c x k (λ s l. omega (arith, tag, l)),
    other_value c x k (λ (e : c ≡ leaf_of k).
        let same : key / 72057594037927936 * 72057594037927936 + c / 256 ≡ k = omega (arith, top, e) in
        never (key / 72057594037927936 * 72057594037927936 + c / 256) t (ap (λ (z : ℕ). where_of n.form n.level z) same) (ap (λ (z : ℕ). byte_at z n.level) same)),
  )

  beyond_node : 0 < tag_of c → tag_of c < 9 → n.level < depth x → GoesTo n key byte x → (goes_on c x k ≡ false) × (pair_value c x k ≡ None)
  beyond_node s l deeper t = (
    not_true (goes_on c x k) (λ on.
        let form = goes_form c x k on in
        let made = where_made x k (goes_stands c x k on) in
        let d : ℕ = depth x in
        let d_low : d < 8 = omega arith in
        let same : prefix_of x d ≡ prefix_of k d = ap (λ (z : ℕ). prefix_of z d) made.0 ∙ prefix_there (form_of x) d k d_low (omega (arith, form, l)) in
        let first : prefix_of x n.level ≡ prefix_of k n.level = prefix_less d n.level x k (omega (arith, deeper)) (omega (arith, d_low)) same in
        never x t (ap (λ (p : ℕ). p * 2 ^ (64 - 8 * n.level) + 8 * n.form + n.level) first) (byte_less d n.level x k deeper (omega (arith, d_low)) same)),
    other_value c x k (λ (e : c ≡ leaf_of k). let t9 : tag_of (leaf_of k) ≡ 9 = omega arith in let tc : tag_of c ≡ tag_of (leaf_of k) = ap tag_of e in omega (arith, t9, tc, l)),
  )

  pub beyond_it : key / 72057594037927936 ≡ k / 72057594037927936 → IsBelow n key byte c x → (goes_on c x k ≡ false) × (pair_value c x k ≡ None)
  beyond_it top b = ⊎_elim
      (λ (t : (tag_of c ≡ 9) × GoesTo n key byte (key / 72057594037927936 * 72057594037927936 + c / 256)). beyond_leaf top t.0 t.1)
      (λ (t : (0 < tag_of c) × (tag_of c < 9) × (n.level < depth x) × GoesTo n key byte x). beyond_node t.0 t.1 t.2 t.3) b

-- a lone leaf of a key with a key's first byte
whole_leaf : (key c o : ℕ) → c ≡ leaf_of o → leaf_of (key / 72057594037927936 * 72057594037927936 + c / 256) ≡ c
whole_leaf key c o e = omega (arith, e)

-- node n of the words w, where the child of these words may go up
module _ (n : Place) (key c x : ℕ) (before : Option ℕ) (u : View) (some : 0 < n.form) (low : n.form < 9) (deep : n.level < 8) (owns : Owns n key before u) (shape : IsForm n.form (words_of u n.node)) (r : Rises n key c x u) where
  abbrev w : ℕ → ℕ
  w = words_of u n.node

  rises_leaf : (k : ℕ) → where_of n.form n.level key ≡ where_of n.form n.level k → byte_at k n.level ≡ r.entry.byte → is_inner n.form ≡ false → leaf_of k ≡ c
  rises_leaf k covers at values =
      let not : is_inner n.form ≢ true = λ e. clash (is_inner n.form) e values in
      let leaf = r.words.leaf not in
      let seven : n.level ≡ 7 = ⊎_elim (λ (i : is_inner n.form ≡ true). absurd (not i)) (λ (q : n.level ≡ 7). q) owns.leaves in
      let nine : tag_of c ≡ 9 = ap tag_of leaf.1 ∙ nine_of leaf.0 in
      let o : ℕ = key / 72057594037927936 * 72057594037927936 + c / 256 in
      let goes : GoesTo n key r.entry.byte o = ⊎_elim
      (λ (t : (tag_of c ≡ 9) × GoesTo n key r.entry.byte o). t.1)
      (λ (t : (0 < tag_of c) × (tag_of c < 9) × (n.level < depth x) × GoesTo n key r.entry.byte x). let l = t.1 in absurd (omega (arith, nine, l))) r.below in
      let same : o ≡ k = same_key n.form o k low (subst (λ (z : ℕ). where_of n.form z o ≡ where_of n.form z k) seven (goes.0 ∙ covers)) (subst (λ (z : ℕ). byte_at o z ≡ byte_at k z) seven (goes.1 ∙ sym at)) in
      ap leaf_of (sym same) ∙ whole_leaf key c leaf.0 leaf.1
    where
      nine_of : (o : ℕ) → tag_of (leaf_of o) ≡ 9
      nine_of o = omega arith

  rises_first : (k : ℕ) → where_of n.form n.level key ≡ where_of n.form n.level k → byte_at k n.level ≡ r.entry.byte → first_of n.form w k (byte_at k n.level) ≡ c
  rises_first k covers at = ap (λ (z : ℕ). first_of n.form w k z) at ∙ (only_first n.form w (byte_at key n.level) r.entry shape r.only k ∙ ⊎_elim
      (λ (i : is_inner n.form ≡ true). put_inner n.form r.entry.first k i ∙ sym (r.words.first i))
      (λ (v : is_inner n.form ≡ false). put_values n.form r.entry.first k v ∙ rises_leaf k covers at v) (decide (is_inner n.form)))

  rises_second : (k : ℕ) → byte_at k n.level ≡ r.entry.byte → second_of n.form w k (byte_at k n.level) ≡ x
  rises_second k at = ap (λ (z : ℕ). second_of n.form w k z) at ∙ (only_second n.form w (byte_at key n.level) r.entry shape r.only k ∙ sym r.words.second)

  -- whatever else it has is the key's
  rises_only : (k s : ℕ) → where_of n.form n.level key ≡ where_of n.form n.level k → k ≢ key → byte_at k n.level ≢ r.entry.byte
      → (goes_on (first_of n.form w k (byte_at k n.level)) s k ≡ false) × (pair_value (first_of n.form w k (byte_at k n.level)) s k ≡ None)
  rises_only k s covers ne away = dite (ℕ_discrete (byte_at k n.level) (byte_at key n.level))
      (λ (q : byte_at k n.level ≡ byte_at key n.level). ⊎_elim
      (λ (i : is_inner n.form ≡ true).
      let was : first_of n.form w k (byte_at k n.level) ≡ own_first before key = ap (λ (z : ℕ). first_of n.form w k z) q ∙ (first_inner n.form w k key (byte_at key n.level) i ∙ owns.first) in
      let apart : leaf_of key ≢ leaf_of k = λ l. ne (sym (leaf_whole key k (same_top n.form n.level key k low deep covers (sym q)) l)) in
      (ap (λ (z : ℕ). goes_on z s k) was ∙ own_ends before key s k, ap (λ (z : ℕ). pair_value z s k) was ∙ own_none before key s k apart))
      (λ (seven : n.level ≡ 7). absurd (ne (sym (same_key n.form key k low (subst (λ (z : ℕ). where_of n.form z key ≡ where_of n.form z k) seven covers) (subst (λ (z : ℕ). byte_at key z ≡ byte_at k z) seven (sym q))))))
      owns.leaves)
      (λ nb. let none = only_none n.form w (byte_at key n.level) r.entry shape r.only k (byte_at k n.level) nb away in
      (ap (λ (z : ℕ). goes_on z s k) none ∙ none_ends s k, ap (λ (z : ℕ). pair_value z s k) none ∙ none_value s k))

-- Of a hand that had both nodes as they were settled, at u, has seen the child that may go up, at v, and has hung it above, at y
module _ (la ln : Locked) (key c x : ℕ) (before : Option ℕ) (u v y : View) (above : IsLocked la u) (old : IsLocked ln u) (an : la.at.node ≢ ln.at.node) (hangs : Hangs la.at ln.at key u) (owns : Owns ln.at key before u)
    (shape : IsForm ln.at.form (words_of u ln.at.node)) (r : Rises ln.at key c x u) (looks : Looks IsTree u v) (t : IsHung la.at ln.at key c x v y) (held_a : IsHeld la y) (held_n : IsHeld ln y) where
  abbrev a : ℕ
  a = la.at.node

  abbrev n : ℕ
  n = ln.at.node

  abbrev h : ℕ
  h = la.at.form

  abbrev f : ℕ
  f = ln.at.form

  abbrev l : ℕ
  l = la.at.level

  abbrev d : ℕ
  d = ln.at.level

  calm_on : (p : ℕ) → has u.mine p ≡ true → (j : ℕ) → calm_at y.seen.calm p j ≡ calm_at u.seen.calm p j
  calm_on p own j = t.goes.calm p (ap (λ (z : List Tenure). has z p) looks.mine ∙ own) j ∙ (looks.held p own).1 j

  same_above : (j : ℕ) → j < width h → words_of v a j ≡ words_of u a j
  same_above j low = (looks.held a above.held.mine).0 j (inside la.at u j above.held.place low)

  pub lifts_settled : (j : ℕ) → 0 < j → j < width f → calm_at y.seen.calm n j ≡ words_of u n j
  lifts_settled j some low = calm_on n old.held.mine j ∙ sym (old.settled j some low)

  pub lifts_value : HasValue key before y
  lifts_value = had_value ln.at key before u y old.held.place owns hangs.below held_n.mine lifts_settled

  pub may_lift : MayUnlock IsTree a (lifted_note n key) y
  may_lift b since held sound =
      let B : List Block = b.calm in
      let B2 : List Block = block n b.words ∷ B in
      let C : List Block = block a b.words ∷ B2 in
      let e : Entry = signed y.by (entry_of 0 key None) in
      let pa = above.held.place in
      let pn = old.held.place in
      let ka = held a held_a.mine in
      let kn = held n held_n.mine in
      let at_a : (j : ℕ) → j < width h → calm_at C a j ≡ words_of y a j = λ (j : ℕ) (s : j < width h). calm_here a b.words B2 j ∙ ka.0 j (inside la.at y j held_a.place s) in
      let at_n : (j : ℕ) → j < width f → calm_at C n j ≡ words_of y n j = λ (j : ℕ) (s : j < width f). calm_else a n b.words B2 j an ∙ (calm_here n b.words B j ∙ kn.0 j (inside ln.at y j held_n.place s)) in
      let was_a : (j : ℕ) → 0 < j → j < width h → calm_at B a j ≡ words_of u a j = λ (j : ℕ) (z : 0 < j) (s : j < width h). ka.1 j ∙ (calm_on a above.held.mine j ∙ sym (above.settled j z s)) in
      let was_n : (j : ℕ) → 0 < j → j < width f → calm_at B n j ≡ words_of u n j = λ (j : ℕ) (z : 0 < j) (s : j < width f). kn.1 j ∙ lifts_settled j z s in
      let wide_a = second_word la.at u pa in
      let wide_n = second_word ln.at u pn in
      let wa : where_at B a ≡ where_of h l key = was_a 1 (omega arith) wide_a ∙ hangs.covers in
      let wn : where_at B n ≡ where_of f d key = was_n 1 (omega arith) wide_n ∙ hangs.below in
      let same_a : Same h (calm_at B a) (words_of u a) = λ j z s. was_a j (omega (arith, z)) s in
      let same_n : Same f (calm_at B n) (words_of u n) = λ j z s. was_n j (omega (arith, z)) s in
      let before_a : Same h (calm_at B a) (words_of v a) = λ j z s. was_a j (omega (arith, z)) s ∙ sym (same_above j s) in
      let after_a : Same h (calm_at C a) (words_of y a) = λ j z s. at_a j s in
      let form_a : form_of (where_at B a) ≡ h = ap form_of wa ∙ where_form h l key pa.level (omega (arith, pa.form)) in
      let level_a : depth (where_at B a) ≡ l = ap depth wa ∙ where_level h l key pa.level (omega (arith, pa.form)) in
      let first_a = first_is h l key pa.some pa.form pa.level (calm_at B a) (words_of u a) wa same_a key in
      let second_a = second_is h l key pa.some pa.form pa.level (calm_at B a) (words_of u a) wa same_a key in
      let first_n : (k : ℕ) → first_at B n k ≡ first_of f (words_of u n) k (byte_at k d) = first_is f d key pn.some pn.form pn.level (calm_at B n) (words_of u n) wn same_n in
      let second_n : (k : ℕ) → second_at B n k ≡ second_of f (words_of u n) k (byte_at k d) = second_is f d key pn.some pn.form pn.level (calm_at B n) (words_of u n) wn same_n in
      let covered : (k : ℕ) → stands (where_of f d key) k ≡ true → where_of f d key ≡ where_of f d k = λ (k : ℕ) (s : stands (where_of f d key) k ≡ true).
      covers_where f d key pn.some pn.form pn.level (calm_at B n) (words_of u n) wn same_n k (ap (λ (z : ℕ). stands z k) wn ∙ s) in
      lifted B C a n key f d r.entry.byte c x b.log sound.means
      (record {
        over = record {
          inner = ap is_inner form_a ∙ hangs.inner;
          covers = ap (λ (z : ℕ). stands z key) wa ∙ where_stands h l key pa.some pa.form pa.level;
          on = (λ i. goes_on (first_a i) (second_a i) key) ∙ hangs.on;
          names = ap node_of first_a ∙ hangs.names;
          where_below = wn;
          form_some = pn.some;
          form_low = pn.form;
          depth_low = pn.level;
          apart = an;
        };
        linked = record {
          where_stays = at_a 1 wide_a ∙ (t.stays ∙ (same_above 1 wide_a ∙ sym (was_a 1 (omega arith) wide_a)));
          becomes = subst (λ (z : ℕ × ℕ). Becomes z.0 (calm_at B a) (calm_at C a) (byte_at key z.1) (λ k. c) x) (λ i. (sym form_a i, sym level_a i))
              (becomes_like h (words_of v a) (words_of y a) (calm_at B a) (calm_at C a) (byte_at key l) (λ k. c) x (room_some h pa.some pa.form) before_a after_a t.becomes);
        };
        others = λ p pa' pn' j. calm_else a p b.words B2 j (λ q. pa' (sym q)) ∙ calm_else n p b.words B j (λ q. pn' (sym q));
        gone = at_n 1 wide_n ∙ t.gone;
        only = λ k s ne away. let o = rises_only ln.at key c x before u pn.some pn.form pn.level owns shape r k (second_at B n k) (covered k s) ne away in
            (ap (λ (z : ℕ). goes_on z (second_at B n k) k) (first_n k) ∙ o.0, ap (λ (z : ℕ). pair_value z (second_at B n k) k) (first_n k) ∙ o.1);
        child = λ k s at. (
          first_n k ∙ rises_first ln.at key c x before u pn.some pn.form pn.level owns shape r k (covered k s) at,
          second_n k ∙ rises_second ln.at key c x before u pn.some pn.form pn.level owns shape r k at,
        );
        beyond = λ k s at away. beyond_it ln.at key r.entry.byte c x pn.some pn.form pn.level k away
            (same_top h l key k pa.form pa.level (covers_where h l key pa.some pa.form pa.level (calm_at B a) (words_of u a) wa same_a k s) (sym (subst (λ (z : ℕ). byte_at k z ≡ byte_at key z) level_a at))) r.below;
        off = ap (λ (z : ℕ). goes_on z (second_at B n key) key) (first_n key ∙ owns.first) ∙ own_ends before key (second_at B n key) key;
        other_byte = λ q. r.only.apart (sym q);
      })
      (b.log ++ e ∷ []) e refl refl refl

-- the words that go up are a child's
pub rises_some : (n : Place) (key c x : ℕ) (u : View) → Rises n key c x u → c ≢ 0
rises_some n key c x u r z = let none : tag_of c ≡ 0 = ap tag_of z in ⊎_elim
    (λ (t : (tag_of c ≡ 9) × GoesTo n key r.entry.byte (key / 72057594037927936 * 72057594037927936 + c / 256)). let e = t.0 in omega (arith, none, e))
    (λ (t : (0 < tag_of c) × (tag_of c < 9) × (n.level < depth x) × GoesTo n key r.entry.byte x). let e = t.0 in omega (arith, none, e)) r.below

pub risen_tells : (n : Place) (e : Item) (c x : ℕ) (v : View) → IsRisen n e c x → (is_inner n.form ≡ true → Tells e.first v) → Tells c v
risen_tells n e c x v r t = ⊎_elim
    (λ (i : is_inner n.form ≡ true). subst (λ (z : ℕ). Tells z v) (sym (r.first i)) (t i))
    (λ (o : is_inner n.form ≡ false). let leaf = r.leaf (λ i. clash (is_inner n.form) i o) in leaf_tells c leaf.0 v leaf.1) (decide (is_inner n.form))

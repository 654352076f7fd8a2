-- A node that is made anew of another one's children, but for a key's.
use Rattle.std.proofs.Common.{◌≡◌, ◌≢◌, ℕ, ◌<◌, ◌⊎◌, ⊎_elim, true, false, List, [], ◌∷◌, ◌++◌, sym, refl, ap, ◌∙◌, subst, arith, Option, None, Some}
use mathlib.Core.List.{append-nil}
use mathlib.Core.Logic.{dite}
use native.Mathlib.Decide.{ℕ_discrete}
use Rattle.optimistic.specs.Layout.{width, byte_at, child_of, node_of, leaf_of, where_of}
use Rattle.optimistic.specs.declared.tree.locked.Locked.{Locked}
use Rattle.optimistic.specs.declared.tree.place.Place.{Place}
use Rattle.optimistic.specs.declared.tree.replace.Exchange.{Exchange}
use Rattle.optimistic.specs.declared.words.rule.Block.{Block}
use Rattle.optimistic.specs.declared.words.rule.Note.{Note}
use Rattle.optimistic.specs.declared.words.rule.View.{View}
use Rattle.optimistic.specs.words.Kept.{size, calm_at, has, block}
use Rattle.optimistic.specs.words.Told.{MayUnlock, Looks}
use Rattle.optimistic.specs.Moves.{words_of, Stays}
use Rattle.optimistic.specs.forms.Children.{is_inner, first_of, second_of, IsForm, Becomes, Same}
use Rattle.optimistic.specs.forms.Copies.{Copies, own_first, own_second, given_first}
use Rattle.optimistic.specs.tree.Exchanges.{IsHeld, IsLocked, IsReady, Hangs, Owns, HasValue, IsExchanged}
use Rattle.optimistic.specs.tree.Levels.{form_of, depth, stands, goes_on, pair_value, SameAt}
use Rattle.optimistic.specs.tree.Reads.{IsPlace}
use Rattle.optimistic.specs.tree.Replace.{IsRebuilt}
use Rattle.optimistic.specs.tree.Trees.{IsTree, where_at, first_in, second_in, first_at, second_at}
use Rattle.optimistic.proofs.lemmas.words.Moments.{calm_here, calm_else}
use Rattle.optimistic.proofs.lemmas.forms.FormLemmas.{first_like, second_like}
use Rattle.optimistic.proofs.lemmas.forms.Levels.{where_level, where_form, leaf_whole}
use Rattle.optimistic.proofs.lemmas.CopyLemmas.{becomes_from, copies_like, put_inner}
use Rattle.optimistic.proofs.lemmas.MoveLemmas.{stays_mine}
use Rattle.optimistic.proofs.lemmas.tree.Nodes.{clash, same_refl, kept}
use Rattle.optimistic.proofs.lemmas.tree.Puts.{leaf_ends, leaf_none, leaf_value, same_top, same_key, first_inner, first_is, second_is, covers_where}
use Rattle.optimistic.proofs.lemmas.tree.Reading.{where_stands, none_ends, none_value}
use Rattle.optimistic.proofs.lemmas.tree.Replaced.{none_stands}
use Rattle.optimistic.proofs.lemmas.tree.Setting.{room_some, put_leaf, ends_value}
use Rattle.optimistic.proofs.lemmas.tree.Holding.{inside, second_word, locked_looks, looks_same}

-- a key's lone leaf, or none
pub own_ends : (x : Option ℕ) (key s k : ℕ) → goes_on (own_first x key) s k ≡ false
own_ends None key s k = none_ends s k
own_ends (Some y) key s k = leaf_ends s key k

pub own_none : (x : Option ℕ) (key s k : ℕ) → leaf_of key ≢ leaf_of k → pair_value (own_first x key) s k ≡ None
own_none None key s k ne = none_value s k
own_none (Some y) key s k ne = leaf_none s key k ne

pub own_value : (x : Option ℕ) (key : ℕ) → pair_value (own_first x key) (own_second x) key ≡ x
own_value None key = none_value 0 key
own_value (Some y) key = leaf_value y key

given_own : (g : ℕ) (x : Option ℕ) (key : ℕ) → given_first g x key key ≡ own_first x key
given_own g None key = refl
given_own g (Some y) key = put_leaf g (leaf_of key) key refl

given_inner : (g : ℕ) (x : Option ℕ) (key k : ℕ) → is_inner g ≡ true → given_first g x key k ≡ own_first x key
given_inner g None key k e = refl
given_inner g (Some y) key k e = put_inner g (leaf_of key) k e

-- the same words
itself : (form : ℕ) (w : ℕ → ℕ) → Same form w w
itself form w j l l' = refl

-- node f of the words w, and its copy g of the words v
module _ (f g d key : ℕ) (f_some : 0 < f) (f_low : f < 9) (g_some : 0 < g) (g_low : g < 9) (deep : d < 8) (kind : is_inner g ≡ is_inner f) (leaves : (is_inner f ≡ true) ⊎ (d ≡ 7)) (w v : ℕ → ℕ)
    (at_w : w 1 ≡ where_of f d key) (at_v : v 1 ≡ where_of g d key) (before value : Option ℕ) (first : first_of f w key (byte_at key d) ≡ own_first before key)
    (copy : Copies f w g v (byte_at key d) (given_first g value key) (own_second value)) where
  F : (k : ℕ) → first_in w k ≡ first_of f w k (byte_at k d)
  F k = first_is f d key f_some f_low deep w w at_w (itself f w) k

  S : (k : ℕ) → second_in w k ≡ second_of f w k (byte_at k d)
  S k = second_is f d key f_some f_low deep w w at_w (itself f w) k

  F' : (k : ℕ) → first_in v k ≡ first_of g v k (byte_at k d)
  F' k = first_is g d key g_some g_low deep v v at_v (itself g v) k

  S' : (k : ℕ) → second_in v k ≡ second_of g v k (byte_at k d)
  S' k = second_is g d key g_some g_low deep v v at_v (itself g v) k

  now_there : first_in v key ≡ own_first value key
  now_there = F' key ∙ (copy.first key ∙ given_own g value key)

  pub copy_off : goes_on (first_in w key) (second_in w key) key ≡ false
  copy_off = ap (λ (z : ℕ). goes_on z (second_in w key) key) (F key ∙ first) ∙ own_ends before key (second_in w key) key

  pub copy_ended : goes_on (first_in v key) (second_in v key) key ≡ false
  copy_ended = ap (λ (z : ℕ). goes_on z (second_in v key) key) now_there ∙ own_ends value key (second_in v key) key

  pub copy_says : pair_value (first_in v key) (second_in v key) key ≡ value
  copy_says = (λ i. pair_value (now_there i) ((S' key ∙ copy.second key) i) key) ∙ own_value value key

  pub copy_below : (k : ℕ) → stands (where_of f d key) k ≡ true → k ≢ key → SameAt k (first_in w k) (second_in w k) (first_in v k) (second_in v k)
  copy_below k h ne = dite (ℕ_discrete (byte_at k d) (byte_at key d))
      (λ (q : byte_at k d ≡ byte_at key d).
      let same_where : where_of f d key ≡ where_of f d k = covers_where f d key f_some f_low deep w w at_w (itself f w) k (ap (λ (z : ℕ). stands z k) at_w ∙ h) in
      ⊎_elim
      (λ (inn : is_inner f ≡ true).
      let apart : leaf_of key ≢ leaf_of k = λ l. ne (sym (leaf_whole key k (same_top f d key k f_low deep same_where (sym q)) l)) in
      let was : first_in w k ≡ own_first before key = F k ∙ (ap (λ (z : ℕ). first_of f w k z) q ∙ (first_inner f w k key (byte_at key d) inn ∙ first)) in
      let now : first_in v k ≡ own_first value key = F' k ∙ (ap (λ (z : ℕ). first_of g v k z) q ∙ (copy.first k ∙ given_inner g value key k (kind ∙ inn))) in
      let x1 : ℕ = second_in w k in
      let x2 : ℕ = second_in v k in
      let off : goes_on (first_in w k) x1 k ≡ false = ap (λ (z : ℕ). goes_on z x1 k) was ∙ own_ends before key x1 k in
      record {
        goes = ap (λ (z : ℕ). goes_on z x2 k) now ∙ (own_ends value key x2 k ∙ sym off);
        node = λ on. absurd (clash (goes_on (first_in w k) x1 k) on off);
        value = ap (λ (z : ℕ). pair_value z x2 k) now ∙ (own_none value key x2 k apart ∙ sym (ap (λ (z : ℕ). pair_value z x1 k) was ∙ own_none before key x1 k apart));
      })
      (λ (seven : d ≡ 7). absurd (ne (sym (same_key f key k f_low (subst (λ (z : ℕ). where_of f z key ≡ where_of f z k) seven same_where) (subst (λ (z : ℕ). byte_at key z ≡ byte_at k z) seven (sym q))))))
      leaves)
      (λ nb. same_refl k (first_in w k) (second_in w k) (first_in v k) (second_in v k) (F' k ∙ (copy.other_firsts k (byte_at k d) nb ∙ sym (F k))) (S' k ∙ (copy.other_seconds k (byte_at k d) nb ∙ sym (S k))))

-- the value of a key that a node had which is settled as it was
pub had_value : (n : Place) (key : ℕ) (before : Option ℕ) (u y : View) → IsPlace n u → Owns n key before u → words_of u n.node 1 ≡ where_of n.form n.level key → has y.mine n.node ≡ true
    → ((j : ℕ) → 0 < j → j < width n.form → calm_at y.seen.calm n.node j ≡ words_of u n.node j) → HasValue key before y
had_value n key before u y p owns is own calm b since held sound =
    let f = n.form in let d = n.level in let w : ℕ → ℕ = words_of u n.node in let g : ℕ → ℕ = calm_at b.calm n.node in
    let there : (j : ℕ) → 0 < j → j < width f → g j ≡ w j = λ (j : ℕ) (s : 0 < j) (l : j < width f). (held n.node own).1 j ∙ calm j s l in
    let at : g 1 ≡ where_of f d key = there 1 (omega arith) (second_word n u p) ∙ is in
    let same : Same f g w = λ j s l. there j (omega (arith, s)) l in
    sym (own_value before key)
    ∙ ends_value b.calm b.log n.node key (own_first before key) (own_second before) sound.means (ap (λ (z : ℕ). stands z key) at ∙ where_stands f d key p.some p.form p.level)
    (first_is f d key p.some p.form p.level g w at same key ∙ owns.first) (λ ne. second_is f d key p.some p.form p.level g w at same key ∙ owns.second ne) (own_ends before key (own_second before) key)

-- what a hand knows of its nodes, after a look
pub ready_looks : (e : Exchange) (v w : View) → Looks IsTree v w → IsReady e v → IsReady e w
ready_looks e v w t r = record {
  above = locked_looks e.above v w t r.above;
  old = locked_looks e.old v w t r.old;
  new = locked_looks e.new v w t r.new;
  an = r.an;
  am = r.am;
  nm = r.nm;
  kind = r.kind;
  level = r.level;
  blank = (t.held e.new.at.node r.new.held.mine).1 1 ∙ r.blank;
}

pub hangs_looks : (a n : Locked) (key : ℕ) (v w : View) → IsLocked a v → IsLocked n v → Looks IsTree v w → Hangs a.at n.at key v → Hangs a.at n.at key w
hangs_looks a n key v w la ln t h =
    let same = looks_same a v w la.held t in
    let b : ℕ = byte_at key a.at.level in
    let first = first_like a.at.form (words_of v a.at.node) (words_of w a.at.node) same key b in
    let second = second_like a.at.form (words_of v a.at.node) (words_of w a.at.node) same key b in
    record {
      inner = h.inner;
      covers = (t.held a.at.node la.held.mine).0 1 (inside a.at v 1 la.held.place (second_word a.at v la.held.place)) ∙ h.covers;
      below = (t.held n.at.node ln.held.mine).0 1 (inside n.at v 1 ln.held.place (second_word n.at v ln.held.place)) ∙ h.below;
      on = (λ i. goes_on (first i) (second i) key) ∙ h.on;
      names = ap node_of first ∙ h.names;
    }

pub owns_looks : (n : Locked) (key : ℕ) (x : Option ℕ) (v w : View) → IsHeld n v → Looks IsTree v w → Owns n.at key x v → Owns n.at key x w
owns_looks n key x v w h t o =
    let same = looks_same n v w h t in
    let b : ℕ = byte_at key n.at.level in
    record {
      leaves = o.leaves;
      first = first_like n.at.form (words_of v n.at.node) (words_of w n.at.node) same key b ∙ o.first;
      second = λ ne. second_like n.at.form (words_of v n.at.node) (words_of w n.at.node) same key b ∙ o.second ne;
    }

-- a child that goes on is some child
pub hangs_some : (a n : Place) (key : ℕ) (v : View) → Hangs a n key v → first_of a.form (words_of v a.node) key (byte_at key a.level) ≢ 0
hangs_some a n key v h z = let s : ℕ = second_of a.form (words_of v a.node) key (byte_at key a.level) in clash (goes_on (first_of a.form (words_of v a.node) key (byte_at key a.level)) s key) h.on (ap (λ (x : ℕ). goes_on x s key) z ∙ none_ends s key)

-- Of a hand that had the nodes as they were settled, at u, had filled the new one, at x, and has exchanged them, at y
module _ (e : Exchange) (value before : Option ℕ) (u x y : View) (r : IsReady e u) (hangs : Hangs e.above.at e.old.at e.write.key u) (owns : Owns e.old.at e.write.key before u) (s : Stays e.new.at.node u x)
    (copy : Copies e.old.at.form (words_of u e.old.at.node) e.new.at.form (words_of x e.new.at.node) (byte_at e.write.key e.old.at.level) (given_first e.new.at.form value e.write.key) (own_second value))
    (t : IsExchanged e x y) where
  abbrev a : ℕ
  a = e.above.at.node

  abbrev n : ℕ
  n = e.old.at.node

  abbrev m : ℕ
  m = e.new.at.node

  abbrev h : ℕ
  h = e.above.at.form

  abbrev f : ℕ
  f = e.old.at.form

  abbrev g : ℕ
  g = e.new.at.form

  abbrev d : ℕ
  d = e.old.at.level

  calm_on : (p : ℕ) → has u.mine p ≡ true → (j : ℕ) → calm_at y.seen.calm p j ≡ calm_at u.seen.calm p j
  calm_on p own j = t.goes.calm p (stays_mine m p u x s own) j ∙ s.calm p own j

  settled_old : (j : ℕ) → 0 < j → j < width f → calm_at y.seen.calm n j ≡ words_of u n j
  settled_old j some low = calm_on n r.old.held.mine j ∙ sym (r.old.settled j some low)

  pub had_before : has y.mine n ≡ true → HasValue e.write.key before y
  had_before own = had_value e.old.at e.write.key before u y r.old.held.place owns hangs.below own settled_old

  same_above : Same h (words_of x a) (words_of u a)
  same_above j some low = s.words a r.above.held.mine r.am j (inside e.above.at u j r.above.held.place low)

  where_new : words_of y m 1 ≡ where_of g d e.write.key
  where_new = t.covers ∙ ap (λ (z : ℕ). where_of g z e.write.key) r.level

  copy_now : Copies f (words_of u n) g (words_of y m) (byte_at e.write.key d) (given_first g value e.write.key) (own_second value)
  copy_now = copies_like f (words_of u n) g (words_of x m) (words_of y m) (byte_at e.write.key d) (given_first g value e.write.key) (own_second value) (room_some g r.new.held.place.some r.new.held.place.form) t.filled copy

  pub rebuilt : IsHeld e.above y → IsHeld e.old y → IsHeld e.new y → IsRebuilt a n m h f g e.write.key d value u y
  rebuilt held_a held_n held_m =
      let pa = r.above.held.place in let pn = r.old.held.place in let pm = r.new.held.place in
      let l : ℕ = e.above.at.level in
      let wa : ℕ → ℕ = words_of u a in
      let first_a = first_is h l e.write.key pa.some pa.form pa.level wa wa hangs.covers (itself h wa) e.write.key in
      let second_a = second_is h l e.write.key pa.some pa.form pa.level wa wa hangs.covers (itself h wa) e.write.key in
      let level_a : l ≡ depth (wa 1) = sym (ap depth hangs.covers ∙ where_level h l e.write.key pa.level (omega (arith, pa.form))) in
      record {
        has_above = held_a.mine;
        has_old = held_n.mine;
        has_new = held_m.mine;
        above_form = held_a.place.at;
        old_form = held_n.place.at;
        new_form = held_m.place.at;
        above_wide = second_word e.above.at u pa;
        old_wide = second_word e.old.at u pn;
        new_wide = second_word e.new.at u pm;
        above_room = room_some h pa.some pa.form;
        new_room = room_some g pm.some pm.form;
        above_settled = λ j some low. calm_on a r.above.held.mine j ∙ sym (r.above.settled j some low);
        old_settled = settled_old;
        blank = calm_on m r.new.held.mine 1 ∙ r.blank;
        above_is = ap form_of hangs.covers ∙ where_form h l e.write.key pa.level (omega (arith, pa.form));
        old_is = ap form_of hangs.below ∙ where_form f d e.write.key pn.level (omega (arith, pn.form));
        new_is = ap form_of where_new ∙ where_form g d e.write.key pn.level (omega (arith, pm.form));
        inner = hangs.inner;
        covers = ap (λ (z : ℕ). stands z e.write.key) hangs.covers ∙ where_stands h l e.write.key pa.some pa.form pa.level;
        on = (λ i. goes_on (first_a i) (second_a i) e.write.key) ∙ hangs.on;
        names = ap node_of first_a ∙ hangs.names;
        where_stays = t.stays ∙ s.words a r.above.held.mine r.am 1 (inside e.above.at u 1 pa (second_word e.above.at u pa));
        becomes = subst (λ (z : ℕ × ℕ). Becomes h wa (words_of y a) (byte_at e.write.key z.0) (λ k. child_of g z.1 m) (where_of g z.1 e.write.key)) (λ i. (level_a i, r.level i))
            (becomes_from h wa (words_of x a) (words_of y a) (byte_at e.write.key l) (λ k. child_of g e.new.at.level m) (where_of g e.new.at.level e.write.key) same_above t.becomes);
        where_old = hangs.below;
        gone = t.gone;
        where_new = where_new;
        form_new = copy_now.form_new;
        form_some = pn.some;
        form_low = pn.form;
        new_some = pm.some;
        new_low = pm.form;
        depth_low = pn.level;
        an = r.an;
        am = r.am;
        nm = r.nm;
        below = copy_below f g d e.write.key pn.some pn.form pm.some pm.form pn.level r.kind owns.leaves (words_of u n) (words_of y m) hangs.below where_new before value owns.first copy_now;
        off = copy_off f g d e.write.key pn.some pn.form pm.some pm.form pn.level r.kind owns.leaves (words_of u n) (words_of y m) hangs.below where_new before value owns.first copy_now;
        ended = copy_ended f g d e.write.key pn.some pn.form pm.some pm.form pn.level r.kind owns.leaves (words_of u n) (words_of y m) hangs.below where_new before value owns.first copy_now;
        says = copy_says f g d e.write.key pn.some pn.form pm.some pm.form pn.level r.kind owns.leaves (words_of u n) (words_of y m) hangs.below where_new before value owns.first copy_now;
      }

abbrev silent : Note
silent = record { first = None; second = None; third = None; entry = None; form = 0 }

-- a node that covers nothing, and covered nothing, may be let go whatever its other words are
pub may_drop : (m : ℕ) (v : View) → has v.mine m ≡ true → 1 < size v.seen.plots m → words_of v m 1 ≡ 0 → calm_at v.seen.calm m 1 ≡ 0 → MayUnlock IsTree m silent v
may_drop m v own in_m blank was b since held sound =
    let B : List Block = b.calm in
    let C : List Block = block m b.words ∷ B in
    let k = held m own in
    let old : where_at B m ≡ 0 = k.1 1 ∙ was in
    let new : where_at C m ≡ 0 = calm_here m b.words B 1 ∙ (k.0 1 in_m ∙ blank) in
    let path : (p : ℕ) → p ≢ m → calm_at C p ≡ calm_at B p = λ (p : ℕ) (ne : p ≢ m). λ i j. calm_else m p b.words B j (λ q. ne (sym q)) i in
    record {
      nodes = kept (where_at B) (where_at C) (first_at B) (second_at B) (first_at C) (second_at C) b.log (b.log ++ []) (append-nil b.log)
          (λ p. dite (ℕ_discrete p m) (λ (q : p ≡ m). ap (where_at C) q ∙ (new ∙ (sym old ∙ ap (where_at B) (sym q)))) (λ ne. ap (λ (w : ℕ → ℕ). w 1) (path p ne)))
          (λ p k' h. dite (ℕ_discrete p m)
          (λ (q : p ≡ m). absurd (clash (stands (where_at B p) k') h (none_stands (where_at B p) k' (ap (where_at B) q ∙ old))))
          (λ ne. same_refl k' (first_at B p k') (second_at B p k') (first_at C p k') (second_at C p k') (ap (λ (w : ℕ → ℕ). first_in w k') (path p ne)) (ap (λ (w : ℕ → ℕ). second_in w k') (path p ne))))
          sound.means.nodes;
      forms = λ p some. dite (ℕ_discrete p m) (λ (q : p ≡ m). absurd (some (ap (where_at C) q ∙ new)))
          (λ ne. subst (λ (w : ℕ → ℕ). IsForm (form_of (w 1)) w) (sym (path p ne)) (sound.means.forms p (λ z. some (ap (λ (w : ℕ → ℕ). w 1) (path p ne) ∙ z))));
      top = dite (ℕ_discrete 16 m) (λ (q : 16 ≡ m). ap (where_at C) q ∙ (new ∙ (sym old ∙ (ap (where_at B) (sym q) ∙ sound.means.top)))) (λ ne. ap (λ (w : ℕ → ℕ). w 1) (path 16 ne) ∙ sound.means.top);
    }

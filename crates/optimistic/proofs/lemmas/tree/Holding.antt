-- What a hand knows of the nodes that it has, over its steps.
use Rattle.std.proofs.Common.{◌≡◌, ◌≢◌, ℕ, ◌+◌, ◌<◌, ◌≤◌, true, false, List, [], ◌∷◌, ◌++◌, sym, refl, ap, ◌∙◌, subst, arith, Option, Some, Result, Ok, Err, MatchResult}
use mathlib.Core.List.{append-nil, append_assoc}
use mathlib.Core.Logic.{dite}
use native.Mathlib.Decide.{ℕ_discrete}
use Rattle.optimistic.specs.Layout.{width, where_of}
use Rattle.optimistic.specs.declared.tree.locked.Both.{Both}
use Rattle.optimistic.specs.declared.tree.locked.Both.TheVariants.{Had, Busy, Exhausted}
use Rattle.optimistic.specs.declared.tree.locked.Locked.{Locked}
use Rattle.optimistic.specs.declared.tree.place.Place.{Place}
use Rattle.optimistic.specs.declared.words.rule.Block.{Block}
use Rattle.optimistic.specs.declared.words.rule.Entry.{Entry}
use Rattle.optimistic.specs.declared.words.rule.Note.{Note}
use Rattle.optimistic.specs.declared.words.rule.Tenure.{Tenure}
use Rattle.optimistic.specs.declared.words.rule.View.{View}
use Rattle.optimistic.specs.words.Calls.{Later, Keeps, entry_of}
use Rattle.optimistic.specs.words.Kept.{word_at, version_at, size, calm_at, has, value_of, Calm, Since, SameWords}
use Rattle.optimistic.specs.words.Told.{Looks, Stores, Unlocks, Releases, IsDrafted, tenure, also, decided, settled}
use Rattle.optimistic.specs.Moves.{words_of, Stays}
use Rattle.optimistic.specs.forms.Children.{first_of, second_of, IsForm, Same}
use Rattle.optimistic.specs.tree.Exchanges.{IsHeld, IsLocked, GoesOn, HasPair, HasLower, IsBoth, LetsPairGo}
use Rattle.optimistic.specs.tree.Reads.{IsPlace, Found, Steady}
use Rattle.optimistic.specs.declared.tree.set.Set.{Set}
use Rattle.optimistic.specs.tree.Locks.{HasLocked}
use Rattle.optimistic.specs.tree.Sets.{Replaces, IsSet, HasNoMore}
use Rattle.optimistic.specs.tree.Trees.{IsTree}
use Rattle.optimistic.proofs.lemmas.words.Chains.{later_trans, later_keeps, looks_keeps, locks_keeps}
use Rattle.optimistic.proofs.lemmas.words.Moments.{version_word, width_some, width_more, since_trans, calm_trans, inside_since, has_here, has_else, calm_here, calm_else}
use Rattle.optimistic.proofs.lemmas.forms.FormLemmas.{first_like, second_like, form_like}
use Rattle.optimistic.proofs.lemmas.tree.Reading.{held_agrees, looks_trans}
use Rattle.optimistic.proofs.lemmas.tree.Sets.{drafted_shape}
use Rattle.optimistic.proofs.lemmas.tree.Setting.{room_some, gone, back, place_since, set_later}
use Rattle.optimistic.proofs.lemmas.tree.Nodes.{clash}

pub inside : (p : Place) (v : View) (j : ℕ) → IsPlace p v → j < width p.form → j < size v.seen.plots p.node
inside p v j t low = subst (λ (z : ℕ). j < width z) (sym t.at.is) low

pub some_word : (p : Place) (v : View) → IsPlace p v → 0 < width p.form
some_word p v t = width_some p.form t.some t.form

pub second_word : (p : Place) (v : View) → IsPlace p v → 1 < width p.form
second_word p v t = let m = width_more p.form t.some t.form in omega arith

-- a node's version, where its words are the same
pub version_same : (p : Place) (v w : View) → IsPlace p v → SameWords p.node v.seen w.seen → version_at w.seen.words p.node ≡ version_at v.seen.words p.node
version_same p v w t same = version_word w.seen.words p.node ∙ (same 0 (inside p v 0 t (some_word p v t)) ∙ sym (version_word v.seen.words p.node))

-- a node that the hand has still
module _ (l : Locked) (v w : View) where
  pub held_on : Since v.seen w.seen → has w.mine l.at.node ≡ true → version_at w.seen.words l.at.node ≡ version_at v.seen.words l.at.node → IsHeld l v → IsHeld l w
  held_on s own e t = record { place = place_since l.at v w s t.place; mine = own; version = e ∙ t.version; bounded = t.bounded }

  pub held_same : Since v.seen w.seen → has w.mine l.at.node ≡ true → SameWords l.at.node v.seen w.seen → IsHeld l v → IsHeld l w
  held_same s own same t = held_on s own (version_same l.at v w t.place same) t

  pub locked_same : Since v.seen w.seen → has w.mine l.at.node ≡ true → SameWords l.at.node v.seen w.seen → Calm l.at.node v.seen w.seen → IsLocked l v → IsLocked l w
  locked_same s own same calm t = record {
    held = held_same s own same t.held;
    settled = λ j some low. same j (inside l.at v j t.held.place low) ∙ (t.settled j some low ∙ sym (calm j));
  }

  pub held_looks : Looks IsTree v w → IsHeld l v → IsHeld l w
  held_looks t h = held_same t.since (ap (λ (m : List Tenure). has m l.at.node) t.mine ∙ h.mine) (t.held l.at.node h.mine).0 h

  pub locked_looks : Looks IsTree v w → IsLocked l v → IsLocked l w
  locked_looks t h = let k = t.held l.at.node h.held.mine in locked_same t.since (ap (λ (m : List Tenure). has m l.at.node) t.mine ∙ h.held.mine) k.0 k.1 h

  pub held_stays : (m : ℕ) → Stays m v w → l.at.node ≢ m → IsHeld l v → IsHeld l w
  held_stays m t ne h = held_same t.since (ap (λ (z : List Tenure). has z l.at.node) t.mine ∙ h.mine) (t.words l.at.node h.mine ne) h

  pub held_changed : Stays l.at.node v w → IsHeld l v → IsHeld l w
  held_changed t h = held_on t.since (ap (λ (z : List Tenure). has z l.at.node) t.mine ∙ h.mine)
      (version_word w.seen.words l.at.node ∙ (t.low h.mine 0 (omega arith) (inside l.at v 0 h.place (some_word l.at v h.place)) ∙ sym (version_word v.seen.words l.at.node))) h

  pub locked_stays : (m : ℕ) → Stays m v w → l.at.node ≢ m → IsLocked l v → IsLocked l w
  locked_stays m t ne h = locked_same t.since (ap (λ (z : List Tenure). has z l.at.node) t.mine ∙ h.held.mine) (t.words l.at.node h.held.mine ne) (t.calm l.at.node h.held.mine) h

  released_mine : (n : ℕ) → w.mine ≡ tenure n false ∷ v.mine → l.at.node ≢ n → has v.mine l.at.node ≡ true → has w.mine l.at.node ≡ true
  released_mine n e ne h = ap (λ (z : List Tenure). has z l.at.node) e ∙ (has_else n l.at.node false v.mine (λ q. ne (sym q)) ∙ h)

  pub held_release : (n : ℕ) → Releases IsTree n v w → l.at.node ≢ n → IsHeld l v → IsHeld l w
  held_release n t ne h = let own = released_mine n t.mine ne h.mine in held_same t.since own (t.others l.at.node own).0 h

  pub locked_release : (n : ℕ) → Releases IsTree n v w → l.at.node ≢ n → IsLocked l v → IsLocked l w
  locked_release n t ne h = let own = released_mine n t.mine ne h.held.mine in let k = t.others l.at.node own in locked_same t.since own k.0 k.1 h

  -- a node that was settled beside the one that was let go
  settled_there : (a : ℕ) (note : Note) → Unlocks IsTree a note v w → l.at.node ≢ a → IsHeld l v
      → ((words : List ℕ) (bs : List Block) (j : ℕ) → calm_at (settled a note words bs) l.at.node j ≡ word_at words l.at.node j) → IsLocked l w
  settled_there a note t ne h there =
      let own = released_mine a t.mine ne h.mine in
      let same : SameWords l.at.node v.seen w.seen = t.others l.at.node own in
      record {
        held = held_same t.after own same h;
        settled = λ j some low. let i = inside l.at v j h.place low in
            same j i ∙ sym (ap (λ (c : List Block). calm_at c l.at.node j) t.calm ∙ (there t.b.words t.b.calm j ∙ (t.held l.at.node h.mine).0 j i));
      }

  pub settled_first : (a : ℕ) (note : Note) → Unlocks IsTree a note v w → l.at.node ≢ a → IsHeld l v → note.first ≡ Some l.at.node → IsLocked l w
  settled_first a note t ne h is = settled_there a note t ne h (λ words bs j.
      calm_else a l.at.node words (also note.first words (also note.second words (also note.third words bs))) j (λ q. ne (sym q))
      ∙ (ap (λ (o : Option ℕ). calm_at (also o words (also note.second words (also note.third words bs))) l.at.node j) is ∙ calm_here l.at.node words (also note.second words (also note.third words bs)) j))

  pub settled_second : (a n : ℕ) (note : Note) → Unlocks IsTree a note v w → l.at.node ≢ a → l.at.node ≢ n → IsHeld l v → note.first ≡ Some n → note.second ≡ Some l.at.node → IsLocked l w
  settled_second a n note t ne ne' h is is' = settled_there a note t ne h (λ words bs j.
      calm_else a l.at.node words (also note.first words (also note.second words (also note.third words bs))) j (λ q. ne (sym q))
      ∙ (ap (λ (o : Option ℕ). calm_at (also o words (also note.second words (also note.third words bs))) l.at.node j) is
      ∙ (calm_else n l.at.node words (also note.second words (also note.third words bs)) j (λ q. ne' (sym q))
      ∙ (ap (λ (o : Option ℕ). calm_at (also o words (also note.third words bs)) l.at.node j) is' ∙ calm_here l.at.node words (also note.third words bs) j))))

-- two nodes were let go, one after the other
pub let_others : (a n : ℕ) (v u w : View) → Releases IsTree a v u → Releases IsTree n u w → (p : ℕ) → has w.mine p ≡ true → SameWords p v.seen w.seen × Calm p v.seen w.seen
let_others a n v u w s t p own =
    let before = (gone n u u w refl t.mine p own).1 in
    let x = s.others p before in
    let y = t.others p own in (
      λ j low. y.0 j (inside_since v.seen u.seen s.since p j low) ∙ x.0 j low,
      calm_trans p v.seen u.seen w.seen x.1 y.1,
    )

pub let_mine : (a n p : ℕ) (v w : View) → w.mine ≡ tenure n false ∷ (tenure a false ∷ v.mine) → a ≢ p → n ≢ p → has v.mine p ≡ true → has w.mine p ≡ true
let_mine a n p v w e na nn h = ap (λ (z : List Tenure). has z p) e ∙ (has_else n p false (tenure a false ∷ v.mine) nn ∙ (has_else a p false v.mine na ∙ h))

pub locked_drafted : (l : Locked) (v : View) → IsLocked l v → IsDrafted l.at.node l.version v
locked_drafted l v t = (t.held.mine, t.held.version, λ j some low. t.settled j some (subst (λ (z : ℕ). j < width z) t.held.place.at.is low))

-- its words are those of its form
pub locked_shape : (l : Locked) (key : ℕ) (v w : View) → IsLocked l v → Looks IsTree v w → words_of v l.at.node 1 ≡ where_of l.at.form l.at.level key → IsForm l.at.form (words_of v l.at.node)
locked_shape l key v w t looks is = let p = t.held.place in
    drafted_shape l.at.node l.at.form l.at.level key l.version v w p.some p.form p.level (room_some l.at.form p.some p.form) p.at (locked_drafted l v t) looks is

pub looks_same : (l : Locked) (v w : View) → IsHeld l v → Looks IsTree v w → Same l.at.form (words_of w l.at.node) (words_of v l.at.node)
looks_same l v w h t j some low = (t.held l.at.node h.mine).0 j (inside l.at v j h.place low)

-- its child, as it was read after some looks
pub found_there : (l : Locked) (key byte first second : ℕ) (v u w : View) → IsLocked l v → Looks IsTree v u → IsForm l.at.form (words_of v l.at.node) → Found l.at.node l.at.form first second key byte u w
    → (first_of l.at.form (words_of v l.at.node) key byte ≡ first) × (first ≢ 0 → second_of l.at.form (words_of v l.at.node) key byte ≡ second)
found_there l key byte first second v u w t looks shape found =
    let f = l.at.form in let n = l.at.node in
    let h = held_looks l v u looks t.held in
    let same = looks_same l v u t.held looks in
    let said = found (words_of u n) (held_agrees n f u w h.mine h.place.at.is) (form_like f (words_of v n) (words_of u n) same (room_some f h.place.some h.place.form) shape) in (
      sym (first_like f (words_of v n) (words_of u n) same key byte) ∙ said.0,
      λ ne. sym (second_like f (words_of v n) (words_of u n) same key byte) ∙ said.1 ne,
    )

-- and as it was read at once
pub found_now : (l : Locked) (key byte first second : ℕ) (v w : View) → IsLocked l v → IsForm l.at.form (words_of v l.at.node) → Found l.at.node l.at.form first second key byte v w
    → (first_of l.at.form (words_of v l.at.node) key byte ≡ first) × (first ≢ 0 → second_of l.at.form (words_of v l.at.node) key byte ≡ second)
found_now l key byte first second v w t shape found = found (words_of v l.at.node) (held_agrees l.at.node l.at.form v w t.held.mine t.held.place.at.is) shape

pub word_now : (l : Locked) (j x : ℕ) (v w : View) → IsHeld l v → Steady l.at.node l.at.form j x v w → words_of v l.at.node j ≡ x
word_now l j x v w t s = s (words_of v l.at.node) (held_agrees l.at.node l.at.form v w t.mine t.place.at.is)

-- a word, as it was read after some looks
pub word_then : (l : Locked) (j x : ℕ) (v u w : View) → IsHeld l v → j < width l.at.form → Looks IsTree v u → Steady l.at.node l.at.form j x u w → words_of v l.at.node j ≡ x
word_then l j x v u w t low looks s = let h = held_looks l v u looks t in
    sym ((looks.held l.at.node t.mine).0 j (inside l.at v j t.place low)) ∙ word_now l j x u w h s

-- a hand that goes on
pub goes_trans : (u v w : View) → GoesOn u v → GoesOn v w → GoesOn u w
goes_trans u v w p q = record {
  later = later_trans u v w p.later q.later;
  since = since_trans u.seen v.seen w.seen p.since q.since;
  mine = q.mine ∙ p.mine;
  calm = λ m h. calm_trans m u.seen v.seen w.seen (p.calm m h) (q.calm m (ap (λ (z : List Tenure). has z m) p.mine ∙ h));
}

pub stays_goes : (n : ℕ) (v w : View) → Stays n v w → GoesOn v w
stays_goes n v w t = record { later = t.later; since = t.since; mine = t.mine; calm = t.calm }

-- the second word of a node was written
module _ (l : Locked) (x : ℕ) (v w : View) (h : IsHeld l v) (t : Stores IsTree (l.at.node + 1) x v w) where
  pub wrote_goes : GoesOn v w
  wrote_goes = record { later = (t.since.log, t.made, t.own.0); since = t.since; mine = t.mine; calm = t.calm }

  pub wrote_mine : (p : ℕ) → has v.mine p ≡ true → has w.mine p ≡ true
  wrote_mine p own = ap (λ (z : List Tenure). has z p) t.mine ∙ own

  pub wrote_else : (p : ℕ) → has v.mine p ≡ true → p ≢ l.at.node → SameWords p v.seen w.seen
  wrote_else p own ne j low = t.others p j own low (λ (e : p + j ≡ l.at.node + 1). ne (t.sound.laid.apart p l.at.node j 1 (inside_since v.seen w.seen t.since p j low)
      (inside_since v.seen w.seen t.since l.at.node 1 (inside l.at v 1 h.place (second_word l.at v h.place))) e))

  pub wrote_same : (j : ℕ) → j ≢ 1 → j < width l.at.form → words_of w l.at.node j ≡ words_of v l.at.node j
  wrote_same j ne low = t.others l.at.node j h.mine (inside l.at v j h.place low) (λ (e : l.at.node + j ≡ l.at.node + 1). ne (omega arith))

  pub wrote_held : IsHeld l w
  wrote_held = held_on l v w t.since (wrote_mine l.at.node h.mine)
      (version_word w.seen.words l.at.node ∙ (wrote_same 0 (λ (e : 0 ≡ 1). absurd (omega (arith, e))) (some_word l.at v h.place) ∙ sym (version_word v.seen.words l.at.node))) h

-- a write was decided as a node was let go
pub unlocks_made : (n key : ℕ) (value old : Option ℕ) (note : Note) (v w : View) → note.entry ≡ Some (entry_of 0 key value) → (t : Unlocks IsTree n note v w) → old ≡ value_of key t.b.log → Replaces key value old v w
unlocks_made n key value old note v w is t was = let d : decided v.by note.entry ≡ entry_of v.by key value ∷ [] = ap (λ (e : Option Entry). decided v.by e) is in (
  (
    t.since.log.0,
    [],
    t.log ∙ ((λ i. t.since.log.1 i ++ d i) ∙ sym (append-nil ((v.seen.log ++ t.since.log.0) ++ entry_of v.by key value ∷ []))),
    t.made ∙ ap (λ (l : List Entry). v.made ++ l) d,
    t.own.0,
    t.own.1,
  ),
  was ∙ ap (λ (l : List Entry). value_of key l) t.since.log.1,
)

pub replaces_keeps : (key : ℕ) (value old : Option ℕ) (v w x : View) → Replaces key value old v w → Keeps w x → Replaces key value old v x
replaces_keeps key value old v w x t k = let p = t.0 in let l : List Entry = (v.seen.log ++ p.0) ++ entry_of v.by key value ∷ [] in (
  (
    p.0,
    p.1 ++ k.0.0.0,
    k.0.0.1 ∙ (ap (λ (z : List Entry). z ++ k.0.0.0) p.2 ∙ append_assoc l p.1 k.0.0.0),
    k.0.1 ∙ p.3,
    k.0.2 ∙ p.4,
    k.1,
  ),
  t.1,
)

-- a loop that has looked at nothing yet, or has looked
module _ (i : ℕ) (v u : View) (first : i ≡ 0 → u ≡ v) (later : 0 < i → Looks IsTree v u) where
  pub loop_looks : (w : View) → Looks IsTree u w → Looks IsTree v w
  loop_looks w t = dite (ℕ_discrete i 0) (λ (z : i ≡ 0). subst (λ (q : View). Looks IsTree q w) (first z) t) (λ ne. looks_trans v u w (later (omega (arith, ne))) t)

  pub loop_held : (l : Locked) → IsHeld l v → IsHeld l u
  loop_held l h = dite (ℕ_discrete i 0) (λ (z : i ≡ 0). subst (λ (q : View). IsHeld l q) (sym (first z)) h) (λ ne. held_looks l v u (later (omega (arith, ne))) h)

  pub loop_same : (l : Locked) → IsHeld l v → Same l.at.form (words_of v l.at.node) (words_of u l.at.node)
  loop_same l h j s low = dite (ℕ_discrete i 0) (λ (z : i ≡ 0). ap (λ (q : View). words_of q l.at.node j) (sym (first z))) (λ ne. sym (looks_same l v u h (later (omega (arith, ne))) j s low))

-- a node that was locked
pub taken_mine : (n p : ℕ) (ts : List Tenure) → has ts p ≡ true → has (tenure n true ∷ ts) p ≡ true
taken_mine n p ts h = dite (ℕ_discrete n p) (λ (q : n ≡ p). ap (λ (z : ℕ). has (tenure n true ∷ ts) z) (sym q) ∙ has_here n true ts) (λ ne. has_else n p true ts ne ∙ h)

pub locked_now : (p : Place) (version : ℕ) (v w : View) → IsPlace p w → HasLocked p.node version v w → IsLocked (record { at = p; version = version }) w
locked_now p version v w place t = record {
  held = record {
    place = place;
    mine = ap (λ (m : List Tenure). has m p.node) t.locks.mine ∙ has_here p.node true t.u.mine;
    version = t.locks.version ∙ sym t.is;
    bounded = t.bounded;
  };
  settled = λ j some low. t.locks.rests j some (inside p w j place low);
}

pub locked_keeps : (n version : ℕ) (v w : View) → HasLocked n version v w → Keeps v w
locked_keeps n version v w t = later_keeps v t.u w (looks_keeps IsTree v t.u t.looks).0 (locks_keeps IsTree n t.ver t.u w t.locks)

pub locked_since : (n version : ℕ) (v w : View) → HasLocked n version v w → Since v.seen w.seen
locked_since n version v w t = since_trans v.seen t.u.seen w.seen t.looks.since t.locks.since

pub locked_mine : (n version : ℕ) (v w : View) → HasLocked n version v w → w.mine ≡ tenure n true ∷ v.mine
locked_mine n version v w t = t.locks.mine ∙ ap (λ (z : List Tenure). tenure n true ∷ z) t.looks.mine

-- a node below one that the hand has
pub pair_now : (l : Locked) (p : Place) (version : ℕ) (v w : View) → IsLocked l v → IsPlace p w → HasLocked p.node version v w → HasPair l (record { at = p; version = version }) v w
pair_now l p version v w h place t =
    let u = t.u in
    let hu = locked_looks l v u t.looks h in
    let k = t.locks.held l.at.node hu.held.mine in
    let own : has w.mine l.at.node ≡ true = ap (λ (m : List Tenure). has m l.at.node) t.locks.mine ∙ taken_mine p.node l.at.node u.mine hu.held.mine in
    let same : version_at w.seen.words l.at.node ≡ version_at u.seen.words l.at.node = version_same l.at u w hu.held.place k.0 in
    record {
      above = locked_same l u w t.locks.since own k.0 k.1 hu;
      old = locked_now p version v w place t;
      apart = λ (q : l.at.node ≡ p.node).
          let x : version_at w.seen.words l.at.node ≡ t.ver + 1 = ap (λ (z : ℕ). version_at w.seen.words z) q ∙ t.locks.version in
          let y : version_at u.seen.words l.at.node ≤ t.ver = subst (λ (z : ℕ). version_at u.seen.words z ≤ t.ver) (sym q) t.locks.before in
          omega (arith, same, x, y);
      keeps = locked_keeps p.node version v w t;
      since = locked_since p.node version v w t;
    }

-- and both nodes
pub both_of : (a n : Place) (version : ℕ) (r : Both) (v w z : View) → HasLocked a.node version v w → HasLower (record { at = a; version = version }) n r w z → IsBoth a n r v z
both_of a n version (Had x y) v w z t s = (
  ap (λ (l : Locked). l.at) s.0,
  s.1,
  record { above = s.2.above; old = s.2.old; apart = s.2.apart; keeps = later_keeps v w z (locked_keeps a.node version v w t).0 s.2.keeps; since = since_trans v.seen w.seen z.seen (locked_since a.node version v w t) s.2.since },
  s.3 ∙ ap (λ (l : List Tenure). tenure n.node true ∷ l) (locked_mine a.node version v w t),
)
both_of a n version Busy v w z t s = (
  later_keeps v w z (locked_keeps a.node version v w t).0 s.0,
  since_trans v.seen w.seen z.seen (locked_since a.node version v w t) s.1,
  back a.node v w z (locked_mine a.node version v w t) (gone a.node w w z refl s.2),
)
both_of a n version Exhausted v w z t s = absurd s

-- nodes that are let go
pub two_gone : (a n : ℕ) (v u w : View) → u.mine ≡ v.mine → w.mine ≡ tenure n false ∷ (tenure a false ∷ u.mine) → LetsPairGo a n v w
two_gone a n v u w e e' p h = dite (ℕ_discrete n p)
    (λ (q : n ≡ p). absurd (clash (has w.mine p) h (ap (λ (l : List Tenure). has l p) e' ∙ (ap (λ (z : ℕ). has (tenure n false ∷ (tenure a false ∷ u.mine)) z) (sym q) ∙ has_here n false (tenure a false ∷ u.mine)))))
    (λ nn. dite (ℕ_discrete a p)
    (λ (q : a ≡ p). absurd (clash (has w.mine p) h (ap (λ (l : List Tenure). has l p) e' ∙ (has_else n p false (tenure a false ∷ u.mine) nn ∙ (ap (λ (z : ℕ). has (tenure a false ∷ u.mine) z) (sym q) ∙ has_here a false u.mine)))))
    (λ na. (λ q. na (sym q), λ q. nn (sym q), ap (λ (l : List Tenure). has l p) (sym e) ∙ (sym (has_else a p false u.mine na) ∙ (sym (has_else n p false (tenure a false ∷ u.mine) nn) ∙ (ap (λ (l : List Tenure). has l p) (sym e') ∙ h))))))

pub three_gone : (a n m : ℕ) (v u w : View) → u.mine ≡ tenure m true ∷ v.mine → w.mine ≡ tenure m false ∷ (tenure n false ∷ (tenure a false ∷ u.mine)) → LetsPairGo a n v w
three_gone a n m v u w e e' p h = dite (ℕ_discrete m p)
    (λ (q : m ≡ p). absurd (clash (has w.mine p) h (ap (λ (l : List Tenure). has l p) e' ∙ (ap (λ (z : ℕ). has (tenure m false ∷ (tenure n false ∷ (tenure a false ∷ u.mine))) z) (sym q) ∙ has_here m false (tenure n false ∷ (tenure a false ∷ u.mine))))))
    (λ nm. let x : View = record u { mine = tenure n false ∷ (tenure a false ∷ u.mine) } in
    let t = two_gone a n u u x refl refl p (sym (has_else m p false x.mine nm) ∙ (ap (λ (l : List Tenure). has l p) (sym e') ∙ h)) in
    (t.0, t.1, sym (has_else m p true v.mine nm) ∙ (ap (λ (l : List Tenure). has l p) (sym e) ∙ t.2)))

pub pair_back : (a n : ℕ) (v u w : View) → u.mine ≡ tenure n true ∷ (tenure a true ∷ v.mine) → LetsPairGo a n u w → HasNoMore v w
pair_back a n v u w e t p h = let q = t p h in sym (has_else a p true v.mine (λ z. q.0 (sym z))) ∙ (sym (has_else n p true (tenure a true ∷ v.mine) (λ z. q.1 (sym z))) ∙ (ap (λ (l : List Tenure). has l p) (sym e) ∙ q.2))

-- what came of a write that began later, or that no node was to be had
pub tried_later : {E : Type 0} (key : ℕ) (value : Option ℕ) (r : Result Set E) (v w x : View) → Later v w → MatchResult r (λ s. IsSet key value s w x) (λ _. Keeps w x) → MatchResult r (λ s. IsSet key value s v x) (λ _. Keeps v x)
tried_later key value (Ok s) v w x p t = set_later key value s v w x p t
tried_later key value (Err e) v w x p t = later_keeps v w x p t

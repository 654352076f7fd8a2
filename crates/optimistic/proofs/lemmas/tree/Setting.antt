-- What a writer knows of a node that it has, and what its write comes to.
use Rattle.std.proofs.Common.{◌≡◌, ◌≢◌, ℕ, ◌<◌, ◌⊎◌, ⊎_elim, Bool, true, false, List, [], ◌∷◌, ◌++◌, if◌then◌else◌, sym, refl, ap, ◌∙◌, subst, arith, ne_eqb, Option, None, Some}
use mathlib.Core.List.{append-nil, append_assoc}
use mathlib.Core.Logic.{dite}
use native.Mathlib.Decide.{ℕ_discrete}
use Rattle.optimistic.specs.Layout.{width, room, leaf_of, where_of, byte_at}
use Rattle.optimistic.specs.declared.tree.place.Place.{Place}
use Rattle.optimistic.specs.declared.tree.set.Set.{Set}
use Rattle.optimistic.specs.declared.tree.set.Set.TheVariants.{Done, Differs, Again, Full, Taken, Exhausted}
use Rattle.optimistic.specs.declared.words.rule.Block.{Block}
use Rattle.optimistic.specs.declared.words.rule.Entry.{Entry}
use Rattle.optimistic.specs.declared.words.rule.Moment.{Moment}
use Rattle.optimistic.specs.declared.words.rule.Tenure.{Tenure}
use Rattle.optimistic.specs.declared.words.rule.View.{View}
use Rattle.optimistic.specs.words.Calls.{Later, entry_of}
use Rattle.optimistic.specs.words.Kept.{word_at, size, calm_at, has, value_of, Since, Held, Sound}
use Rattle.optimistic.specs.words.Told.{HasForm, Looks, Unlocks, IsDrafted, tenure}
use Rattle.optimistic.specs.forms.Children.{is_inner, first_of, IsForm, Same, put_first}
use Rattle.optimistic.specs.tree.Levels.{stands, goes_on, pair_value}
use Rattle.optimistic.specs.tree.Reads.{Steady, Found, IsPlace}
use Rattle.optimistic.specs.tree.Sets.{Replaces, IsSet, HasNoMore, LetsGo}
use Rattle.optimistic.specs.tree.Trees.{IsTree, where_at, first_at, second_at}
use Rattle.optimistic.specs.tree.Writes.{KeepsBut, write_note}
use Rattle.optimistic.proofs.lemmas.words.Chains.{later_keeps, looks_keeps}
use Rattle.optimistic.proofs.lemmas.words.Moments.{has_here, has_else, width_some, width_more, form_since}
use Rattle.optimistic.proofs.lemmas.tree.Nodes.{clash}
use Rattle.optimistic.proofs.lemmas.tree.Puts.{first_is, second_is, leaf_ends}
use Rattle.optimistic.proofs.lemmas.tree.Reading.{held_agrees, where_stands, none_ends, none_value}
use Rattle.optimistic.proofs.lemmas.tree.Writing.{words_stay}

-- a form has room
pub room_some : (form : ℕ) → 0 < form → form < 9 → 0 < room form
room_some form some low =
    dite (ℕ_discrete form 1) (λ (e : form ≡ 1). subst (λ (z : ℕ). 0 < room z) (sym e) (omega arith)) (λ n1.
    dite (ℕ_discrete form 2) (λ (e : form ≡ 2). subst (λ (z : ℕ). 0 < room z) (sym e) (omega arith)) (λ n2.
    dite (ℕ_discrete form 3) (λ (e : form ≡ 3). subst (λ (z : ℕ). 0 < room z) (sym e) (omega arith)) (λ n3.
    dite (ℕ_discrete form 4) (λ (e : form ≡ 4). subst (λ (z : ℕ). 0 < room z) (sym e) (omega arith)) (λ n4.
    dite (ℕ_discrete form 5) (λ (e : form ≡ 5). subst (λ (z : ℕ). 0 < room z) (sym e) (omega arith)) (λ n5.
    dite (ℕ_discrete form 6) (λ (e : form ≡ 6). subst (λ (z : ℕ). 0 < room z) (sym e) (omega arith)) (λ n6.
    dite (ℕ_discrete form 7) (λ (e : form ≡ 7). subst (λ (z : ℕ). 0 < room z) (sym e) (omega arith)) (λ n7.
    dite (ℕ_discrete form 8) (λ (e : form ≡ 8). subst (λ (z : ℕ). 0 < room z) (sym e) (omega arith)) (λ n8. absurd (omega arith)))))))))

-- a put of the key's leaf
pub put_leaf : (form x key : ℕ) → x ≡ leaf_of key → put_first form x key ≡ leaf_of key
put_leaf form x key e = pick (is_inner form)
  where
    pick : (t : Bool) → (if t then x else leaf_of key) ≡ leaf_of key
    pick true = e
    pick false = refl

-- a word of a node that the hand has, as it was read meanwhile
pub held_word : (n form j x : ℕ) (v w : View) → HasForm n form v → j < width form → has v.mine n ≡ true → Looks IsTree v w → Steady n form j x v w → word_at w.seen.words n j ≡ x
held_word n form j x v w at low own t s = words_stay n form j v w at low own t ∙ s (word_at v.seen.words n) (held_agrees n form v w own at.is)

-- its child at a byte
pub held_first : (n form first second key byte : ℕ) (v w : View) → HasForm n form v → has v.mine n ≡ true → IsForm form (word_at v.seen.words n) → Found n form first second key byte v w → first_of form (word_at v.seen.words n) key byte ≡ first
held_first n form first second key byte v w at own shape found = (found (word_at v.seen.words n) (held_agrees n form v w own at.is) shape).0

-- the value that a last node's child has
pub ends_value : (calm : List Block) (log : List Entry) (n key first second : ℕ) → IsTree calm log → stands (where_at calm n) key ≡ true → first_at calm n key ≡ first → (first ≢ 0 → second_at calm n key ≡ second) → goes_on first second key ≡ false
    → pair_value first second key ≡ value_of key log
ends_value calm log n key first second t here one two ends = dite (ℕ_discrete first 0)
    (λ (z : first ≡ 0). let e : first_at calm n key ≡ 0 = one ∙ z in let x : ℕ = second_at calm n key in
    (λ i. pair_value (z i) second key) ∙ (none_value second key ∙ (sym (none_value x key) ∙ ((λ i. pair_value (sym e i) x key) ∙ t.nodes.means n key (here, (λ i. goes_on (e i) x key) ∙ none_ends x key)))))
    (λ ne. let g = two ne in (λ i. pair_value (sym one i) (sym g i) key) ∙ t.nodes.means n key (here, (λ i. goes_on (one i) (g i) key) ∙ ends))

inside : (n form j : ℕ) (v : View) → HasForm n form v → j < width form → j < size v.seen.plots n
inside n form j v at low = subst (λ (z : ℕ). j < width z) (sym at.is) low

-- what a key had right before its leaf's write was settled
pub held_value : (n form level key first second ver : ℕ) (a w y : View) (b : Moment) → 0 < form → form < 9 → level < 8 → HasForm n form a → IsDrafted n ver a → Looks IsTree a w → KeepsBut n w y → Held y.mine y.seen b → Sound IsTree b
    → word_at a.seen.words n 1 ≡ where_of form level key → IsForm form (word_at a.seen.words n) → Found n form first second key (byte_at key level) a w → goes_on first second key ≡ false → pair_value first second key ≡ value_of key b.log
held_value n form level key first second ver a w y b some low deep at draft looks keeps held sound is shape found ends =
    let own_a = draft.0 in let own_w : has w.mine n ≡ true = ap (λ (l : List Tenure). has l n) looks.mine ∙ own_a in let own_y = keeps.has_it n own_w in
    let f : ℕ → ℕ = word_at a.seen.words n in let g : ℕ → ℕ = calm_at b.calm n in
    let calm : (j : ℕ) → 0 < j → j < width form → g j ≡ f j = λ j l l'. (held n own_y).1 j ∙ (keeps.calm n own_w j ∙ ((looks.held n own_a).1 j ∙ sym (draft.2 j l (inside n form j a at l')))) in
    let more = width_more form some low in
    let where_b : g 1 ≡ where_of form level key = calm 1 (omega arith) (omega arith) ∙ is in
    let same : Same form g f = λ j l l'. calm j (omega arith) l' in
    let said = found f (held_agrees n form a w own_a at.is) shape in
    ends_value b.calm b.log n key first second sound.means (ap (λ (z : ℕ). stands z key) where_b ∙ where_stands form level key some low deep)
    (first_is form level key some low deep g f where_b same key ∙ said.0) (λ ne. second_is form level key some low deep g f where_b same key ∙ said.1 ne) ends

-- an open place goes on to no key
pub open_ends : (first second key : ℕ) → (first ≡ 0) ⊎ (first ≡ leaf_of key) → goes_on first second key ≡ false
open_ends first second key = ⊎_elim (λ z. (λ i. goes_on (z i) second key) ∙ none_ends second key) (λ z. (λ i. goes_on (z i) second key) ∙ leaf_ends second key key)

-- a child that isn't the key's leaf is no value of it
pub other_value : (first second key : ℕ) → first ≢ leaf_of key → pair_value first second key ≡ None
unfolding pair_value
other_value first second key ne = ap (λ (b : Bool). if b then Some second else None) (ne_eqb first (leaf_of key) ne)

-- a node was written, and let go
pub unlocks_replaces : (n key : ℕ) (value old : Option ℕ) (v w : View) → (t : Unlocks IsTree n (write_note key value) v w) → old ≡ value_of key t.b.log → Replaces key value old v w
unlocks_replaces n key value old v w t is = let e : List Entry = entry_of v.by key value ∷ [] in (
  (t.since.log.0, [], t.log ∙ (ap (λ (l : List Entry). l ++ e) t.since.log.1 ∙ sym (append-nil ((v.seen.log ++ t.since.log.0) ++ e))), t.made, t.own.0, t.own.1),
  is ∙ ap (λ (l : List Entry). value_of key l) t.since.log.1,
)

pub later_replaces : (key : ℕ) (value old : Option ℕ) (v w x : View) → Later v w → Replaces key value old w x → Replaces key value old v x
later_replaces key value old v w x p s = let t = s.0 in let e : ℕ → List Entry = λ z. entry_of z key value ∷ [] in
    let log : w.seen.log ++ t.0 ≡ v.seen.log ++ (p.0.0 ++ t.0) = ap (λ (l : List Entry). l ++ t.0) p.0.1 ∙ append_assoc v.seen.log p.0.0 t.0 in (
      (
        p.0.0 ++ t.0,
        t.1,
        t.2 ∙ ((λ i. (log i ++ e w.by) ++ t.1) ∙ ap (λ (z : ℕ). ((v.seen.log ++ (p.0.0 ++ t.0)) ++ e z) ++ t.1) p.2),
        t.3 ∙ (ap (λ (l : List Entry). l ++ e w.by) p.1 ∙ ap (λ (z : ℕ). v.made ++ e z) p.2),
        t.4 ∙ p.2,
        t.5,
      ),
      s.1 ∙ ap (λ (l : List Entry). value_of key l) log,
    )

pub writes_replaces : (n key : ℕ) (value old : Option ℕ) (v w y z : View) → Looks IsTree v w → KeepsBut n w y → (u : Unlocks IsTree n (write_note key value) y z) → old ≡ value_of key u.b.log → Replaces key value old v z
writes_replaces n key value old v w y z t p u is = let k = looks_keeps IsTree v w t in
    later_replaces key value old v w z k.0 (later_replaces key value old w y z p.later (unlocks_replaces n key value old y z u is))

-- what came of a write that began later
pub set_later : (key : ℕ) (value : Option ℕ) (r : Set) (v w x : View) → Later v w → IsSet key value r w x → IsSet key value r v x
set_later key value (Done old) v w x p t = later_replaces key value old v w x p t
set_later key value (Differs y) v w x p t = (later_keeps v w x p t.0, t.1)
set_later key value Again v w x p t = later_keeps v w x p t
set_later key value Full v w x p t = later_keeps v w x p t
set_later key value Taken v w x p t = later_keeps v w x p t
set_later key value Exhausted v w x p t = (later_keeps v w x p t.0, t.1)

-- a node was let go, and no other was taken
pub gone : (n : ℕ) (v u w : View) → u.mine ≡ v.mine → w.mine ≡ tenure n false ∷ u.mine → LetsGo n v w
gone n v u w e e' m h = dite (ℕ_discrete m n)
    (λ (q : m ≡ n). absurd (clash (has w.mine m) h (ap (λ (l : List Tenure). has l m) e' ∙ (ap (λ (z : ℕ). has (tenure n false ∷ u.mine) z) q ∙ has_here n false u.mine))))
    (λ ne. (ne, ap (λ (l : List Tenure). has l m) (sym e) ∙ (sym (has_else n m false u.mine (λ q. ne (sym q))) ∙ (ap (λ (l : List Tenure). has l m) (sym e') ∙ h))))

pub gone_from : (n : ℕ) (v u w : View) → u.mine ≡ v.mine → LetsGo n u w → LetsGo n v w
gone_from n v u w e t m h = let q = t m h in (q.0, ap (λ (l : List Tenure). has l m) (sym e) ∙ q.1)

-- a node was taken and let go
pub back : (n : ℕ) (v u w : View) → u.mine ≡ tenure n true ∷ v.mine → LetsGo n u w → HasNoMore v w
back n v u w e t m h = let q = t m h in sym (has_else n m true v.mine (λ z. q.0 (sym z))) ∙ (ap (λ (l : List Tenure). has l m) (sym e) ∙ q.1)

pub no_more : (v w : View) → w.mine ≡ v.mine → HasNoMore v w
no_more v w e m h = ap (λ (l : List Tenure). has l m) (sym e) ∙ h

pub no_more_from : (v u w : View) → u.mine ≡ v.mine → HasNoMore u w → HasNoMore v w
no_more_from v u w e t m h = ap (λ (l : List Tenure). has l m) (sym e) ∙ t m h

-- a node that a thread knows is known later
pub place_since : (p : Place) (v w : View) → Since v.seen w.seen → IsPlace p v → IsPlace p w
place_since p v w s t = record { at = form_since p.node p.form v w (width_some p.form t.some t.form) t.at s; some = t.some; form = t.form; level = t.level }

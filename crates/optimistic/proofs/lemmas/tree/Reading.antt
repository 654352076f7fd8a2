-- What a reader knows of a node that it reads word by word.
use Rattle.std.proofs.Common.{◌≡◌, ◌≢◌, ℕ, ◌+◌, ◌-◌, ◌*◌, ◌%◌, ◌<◌, eqb, ltb, leb, ◌&&◌, IsTrue, ◌↔◌, rules, Bool, true, false, List, if◌then◌else◌, sym, refl, ap, ◌∙◌, subst, arith, eq-eqb, ne_eqb, None, Some}
use Rattle.std.proofs.lemmas.Bool.{eqb-true}
use mathlib.Core.Logic.{dite}
use native.Mathlib.Decide.{ℕ_discrete}
use Rattle.optimistic.specs.Layout.{width, links, tag_of, level_of, leaf_of, byte_at, where_of}
use Rattle.optimistic.specs.declared.words.rule.Moment.{Moment}
use Rattle.optimistic.specs.declared.words.rule.Tenure.{Tenure}
use Rattle.optimistic.specs.declared.words.rule.View.{View}
use Rattle.optimistic.specs.words.Kept.{word_at, form_at, calm_at, has, value_of, Since, Sound}
use Rattle.optimistic.specs.words.Told.{Looks}
use Rattle.optimistic.specs.forms.Children.{first_of, second_of, IsForm}
use Rattle.optimistic.specs.tree.Levels.{form_of, depth, stands, goes_on, pair_value}
use Rattle.optimistic.specs.tree.Reads.{Still, Agrees, Steady, Found}
use Rattle.optimistic.specs.tree.Trees.{IsTree, first_at, second_at}
use Rattle.optimistic.proofs.lemmas.words.Moments.{since_refl, since_trans, held_trans}
use Rattle.optimistic.proofs.lemmas.words.Chains.{word_between}
use Rattle.optimistic.proofs.lemmas.forms.Levels.{where_level, where_form}

pub looks_trans : (v w x : View) → Looks IsTree v w → Looks IsTree w x → Looks IsTree v x
looks_trans v w x p q = record {
  since = since_trans v.seen w.seen x.seen p.since q.since;
  held = held_trans v.mine v.seen w.seen x.seen p.since p.held (λ n h. q.held n (ap (λ (l : List Tenure). has l n) p.mine ∙ h));
  sound = q.sound;
  mine = q.mine ∙ p.mine;
  made = q.made ∙ p.made;
  own = (q.own.0 ∙ p.own.0, q.own.1);
}

-- a node's words agree from a later view on, and up to an earlier
pub agrees_from : (node form : ℕ) (u v w : View) (f : ℕ → ℕ) → Agrees node form u w f → Looks IsTree u v → Agrees node form v w f
agrees_from node form u v w f s t = record { words = λ x l q. s.words x (looks_trans u v x t l) q }

pub agrees_to : (node form : ℕ) (u v w : View) (f : ℕ → ℕ) → Agrees node form u w f → Since v.seen w.seen → Agrees node form u v f
agrees_to node form u v w f s t = record { words = λ x l q. s.words x l (since_trans x.seen v.seen w.seen q t) }

pub steady_since : (node form j x : ℕ) (u v w : View) → Steady node form j x v w → Looks IsTree u v → Steady node form j x u w
steady_since node form j x u v w s t f ag = s f (agrees_from node form u v w f ag t)

pub steady_until : (node form j x : ℕ) (u v w : View) → Steady node form j x u v → Since v.seen w.seen → Steady node form j x u w
steady_until node form j x u v w s t f ag = s f (agrees_to node form u v w f ag t)

-- a word that was read
pub steady : (node form j x : ℕ) (v w : View) → 0 < j → j < width form → Looks IsTree v w → x ≡ word_at w.seen.words node j → Steady node form j x v w
steady node form j x v w some_word low t is f ag = sym (ag.words w t (since_refl w.seen) j some_word low) ∙ sym is

-- a node whose version stays has the words that it was settled with, and one that the thread has those that it has
pub still_agrees : (node form : ℕ) (v w : View) (a b : Moment) → Still node form v w a b → Agrees node form v w (calm_at b.calm node)
still_agrees node form v w a b s = record {
  words = λ u l q j some_word low. sym (word_between IsTree a u.seen b node form (word_at a.words node 0) j s.is (since_trans a v.seen u.seen s.before l.since) (since_trans u.seen w.seen b q s.after) refl s.even s.same l.sound some_word low);
}

pub held_agrees : (node form : ℕ) (v w : View) → has v.mine node ≡ true → form_at v.seen.plots node ≡ form → Agrees node form v w (word_at v.seen.words node)
held_agrees node form v w own is = record {
  words = λ u l q j some_word low. (l.held node own).0 j (subst (λ (z : ℕ). j < width z) (sym is) low);
}

-- a where covers the key that it is of
pub where_stands : (form level key : ℕ) → 0 < form → form < 9 → level < 8 → stands (where_of form level key) key ≡ true
unfolding stands
where_stands form level key some low deep =
    let f : form_of (where_of form level key) ≡ form = where_form form level key deep (omega arith) in
    let d : depth (where_of form level key) ≡ level = where_level form level key deep (omega arith) in
    let a : ltb 0 (form_of (where_of form level key)) ≡ true = ap (λ (z : ℕ). ltb 0 z) f ∙ positive form some in
    let e : eqb (where_of form level key) (where_of (form_of (where_of form level key)) (depth (where_of form level key)) key) ≡ true = eq-eqb (where_of form level key) (where_of (form_of (where_of form level key)) (depth (where_of form level key)) key) (λ i. where_of (sym f i) (sym d i) key) in
    (λ i. a i && e i)
  where
    positive : (n : ℕ) → 0 < n → ltb 0 n ≡ true
    positive n l = grind arith

pub where_some : (form level key : ℕ) → 0 < form → form < 9 → level < 8 → where_of form level key ≢ 0
where_some form level key some low deep e = let f : form_of (where_of form level key) ≡ form = where_form form level key deep (omega arith) in let z : form_of (where_of form level key) ≡ 0 = ap form_of e in omega arith

-- a child of a form goes on to a key where its second word is the where of that form and level that covers the key
pub goes_where : (f x key : ℕ) → 0 < tag_of f → tag_of f < 9 → eqb x (where_of (tag_of f) (level_of f) key) ≡ goes_on f x key
unfolding goes_on stands
goes_where f x key some low =
    let l : level_of f < 8 = omega arith in
    let w : ℕ = where_of (tag_of f) (level_of f) key in
    let tags : (ltb 0 (tag_of f) && ltb (tag_of f) 9) ≡ true = (λ i. below 0 (tag_of f) some i && below (tag_of f) 9 low i) in
    dite (ℕ_discrete x w)
    (λ (e : x ≡ w).
    let ff : form_of x ≡ tag_of f = ap form_of e ∙ where_form (tag_of f) (level_of f) key l (omega arith) in
    let dd : depth x ≡ level_of f = ap depth e ∙ where_level (tag_of f) (level_of f) key l (omega arith) in
    let s : (ltb 0 (form_of x) && eqb x (where_of (form_of x) (depth x) key)) ≡ true =
    (λ i. below 0 (form_of x) (subst (λ (z : ℕ). 0 < z) (sym ff) some) i && eq-eqb x (where_of (form_of x) (depth x) key) (e ∙ (λ j. where_of (sym ff j) (sym dd j) key)) i) in
    eq-eqb x w e ∙ sym (λ i. (tags i && (eq-eqb (form_of x) (tag_of f) ff i && eq-eqb (depth x) (level_of f) dd i)) && s i))
    (λ ne. ne_eqb x w ne ∙ sym (never (ltb 0 (tag_of f) && ltb (tag_of f) 9) (eqb (form_of x) (tag_of f)) (eqb (depth x) (level_of f)) (ltb 0 (form_of x)) (eqb x (where_of (form_of x) (depth x) key))
    (λ a b c. ne (eqb-true x (where_of (form_of x) (depth x) key) c ∙ (λ i. where_of (eqb-true (form_of x) (tag_of f) a i) (eqb-true (depth x) (level_of f) b i) key)))))
  where
    below : (a b : ℕ) → a < b → ltb a b ≡ true
    below a b l = grind arith

    never : (t a b p c : Bool) → (a ≡ true → b ≡ true → c ≡ true → ⊥) → ((t && (a && b)) && (p && c)) ≡ false
    never false a b p c h = refl
    never true false b p c h = refl
    never true true false p c h = refl
    never true true true false c h = refl
    never true true true true false h = refl
    never true true true true true h = absurd (h refl refl refl)

-- no child goes on, and none is a key's
pub none_ends : (x key : ℕ) → goes_on 0 x key ≡ false
unfolding goes_on
none_ends x key = refl

pub none_value : (x key : ℕ) → pair_value 0 x key ≡ None
unfolding pair_value
none_value x key = ap (λ (b : Bool). if b then Some x else None) (ne_eqb 0 (leaf_of key) (λ (e : 0 ≡ leaf_of key). omega arith))

-- a child with a tag of no form goes on to no key
pub tag_ends : (f x key : ℕ) → (0 < tag_of f → tag_of f < 9 → ⊥) → goes_on f x key ≡ false
unfolding goes_on
tag_ends f x key no_form = last (ltb 0 (tag_of f)) (ltb (tag_of f) 9) (eqb (form_of x) (tag_of f) && eqb (depth x) (level_of f)) (stands x key) (λ a b. no_form (above 0 (tag_of f) a) (above (tag_of f) 9 b))
  where
    above : (a b : ℕ) → ltb a b ≡ true → a < b
    above a b e = grind arith

    last : (a b c d : Bool) → (a ≡ true → b ≡ true → ⊥) → (((a && b) && c) && d) ≡ false
    last false b c d h = refl
    last true false c d h = refl
    last true true c d h = absurd (h refl refl)

-- A node whose where and whose child at a key were read under one version
pub reads : (v w : View) (a b : Moment) (node form level key first second : ℕ) → 0 < form → form < 9 → level < 8 → Still node form v w a b → calm_at b.calm node 1 ≡ where_of form level key → Sound IsTree b
    → Found node form first second key (byte_at key level) v w → goes_on first second key ≡ false → pair_value first second key ≡ value_of key b.log
reads v w a b node form level key first second some low deep still is sound found ends =
    let W : ℕ = calm_at b.calm node 1 in
    let f : form_of W ≡ form = ap form_of is ∙ where_form form level key deep (omega arith) in
    let d : depth W ≡ level = ap depth is ∙ where_level form level key deep (omega arith) in
    let here : stands W key ≡ true = ap (λ (z : ℕ). stands z key) is ∙ where_stands form level key some low deep in
    let shape : IsForm form (calm_at b.calm node) = subst (λ (z : ℕ). IsForm z (calm_at b.calm node)) f (sound.means.forms node (λ (z : W ≡ 0). where_some form level key some low deep (sym is ∙ z))) in
    let said = found (calm_at b.calm node) (still_agrees node form v w a b still) shape in
    let one : first_at b.calm node key ≡ first = (λ i. first_of (f i) (calm_at b.calm node) key (byte_at key (d i))) ∙ said.0 in
    let two : first ≢ 0 → second_at b.calm node key ≡ second = λ ne. (λ i. second_of (f i) (calm_at b.calm node) key (byte_at key (d i))) ∙ said.1 ne in
    let t = sound.means.nodes in
    dite (ℕ_discrete first 0)
    (λ (z : first ≡ 0). let e : first_at b.calm node key ≡ 0 = one ∙ z in let x : ℕ = second_at b.calm node key in
    (λ i. pair_value (z i) second key) ∙ (none_value second key ∙ (sym (none_value x key) ∙ ((λ i. pair_value (sym e i) x key) ∙ t.means node key (here, (λ i. goes_on (e i) x key) ∙ none_ends x key)))))
    (λ ne. let g = two ne in (λ i. pair_value (sym one i) (sym g i) key) ∙ t.means node key (here, (λ i. goes_on (one i) (g i) key) ∙ ends))

-- the first words of entries are child words
pub links_at : (i n k : ℕ) → k < n → links i n (i + 2 * k) ≡ true
links_at i n k l = λ x. (least x && below x) && even x
  where
    least : leb i (i + 2 * k) ≡ true
    least = grind arith

    below : ltb (i + 2 * k) (i + 2 * n) ≡ true
    below = let m : i + 2 * k < i + 2 * n = omega arith in grind arith

    even : eqb ((i + 2 * k - i) % 2) 0 ≡ true
    even = eq-eqb ((i + 2 * k - i) % 2) 0 (omega arith)

-- the lone leaf of a place that is taken
pub taken_first : (x : ℕ) (t : Bool) (key : ℕ) → (IsTrue t ↔ (x ≡ 1)) → (if eqb x 1 then leaf_of key else 0) ≡ (if t then leaf_of key else 0)
taken_first x true key h = ap (λ (z : Bool). if z then leaf_of key else 0) (eq-eqb x 1 (h.0 (search rules)))
taken_first x false key h = ap (λ (z : Bool). if z then leaf_of key else 0) (ne_eqb x 1 (λ e. no (h.1 e)))
  where
    no : IsTrue false → ⊥
    no p = grind (arith, p)

-- What a chain of steps tells.
use Rattle.std.proofs.Common.{◌≡◌, ◌≢◌, ℕ, ◌+◌, ◌%◌, ◌<◌, Bool, true, List, [], ◌∷◌, ◌++◌, if◌then◌else◌, sym, refl, ap, ◌∙◌, subst, arith, eq-eqb, ne_eqb, Option, None, Some}
use mathlib.Core.List.{append-nil, append_assoc}
use Rattle.optimistic.specs.Layout.{width}
use Rattle.optimistic.specs.declared.words.rule.Entry.{Entry}
use Rattle.optimistic.specs.declared.words.rule.Moment.{Moment}
use Rattle.optimistic.specs.declared.words.rule.Note.{Note}
use Rattle.optimistic.specs.declared.words.rule.Tenure.{Tenure}
use Rattle.optimistic.specs.declared.words.rule.View.{View}
use Rattle.optimistic.specs.words.Kept.{word_at, version_at, form_at, size, calm_at, has, value_after, value_of, Calm, Since, Sound}
use Rattle.optimistic.specs.words.Calls.{Later, Keeps, entry_of, Puts}
use Rattle.optimistic.specs.words.Told.{Good, decided, Looks, Locks, Stores, Unlocks, Releases, IsDrafted}
use Rattle.optimistic.proofs.lemmas.words.Moments.{version_word, sandwich, has_here, value_on, inside_since}

-- Where a node has one even version at a and at b, it is settled at b as at any moment m in between, and as its words were then
pub settled_between : (a m b : Moment) (n ver : ℕ) → 0 < size a.plots n → Since a m → Since m b → ver ≡ word_at a.words n 0 → ver % 2 ≡ 0 → word_at b.words n 0 ≡ ver
    → (version_at m.words n ≡ ver) × (version_at m.words n % 2 ≡ 0) × Calm n m b
settled_between a m b n ver some_word p q first even last = let e : version_at a.words n ≡ ver = version_word a.words n ∙ sym first in let e' : version_at b.words n ≡ ver = version_word b.words n ∙ last in
    let some_m = inside_since a m p n 0 some_word in
    let t = sandwich (version_at a.words n) (version_at m.words n) (version_at b.words n) (p.grows n some_word) (q.grows n some_m) (e ∙ sym e') in
    let here : version_at m.words n ≡ ver = sym t.0 ∙ e in let even' : version_at m.words n % 2 ≡ 0 = ap (λ (z : ℕ). z % 2) here ∙ even in (here, even', q.still n some_m even' t.1)

pub word_between : (good : Good) (a m b : Moment) (n form ver j : ℕ) → form_at a.plots n ≡ form → Since a m → Since m b → ver ≡ word_at a.words n 0 → ver % 2 ≡ 0 → word_at b.words n 0 ≡ ver → Sound good m → 0 < j → j < width form
    → calm_at b.calm n j ≡ word_at m.words n j
word_between good a m b n form ver j is p q first even last sound some_word low = let inside : j < size a.plots n = subst (λ (z : ℕ). j < width z) (sym is) low in let some_a : 0 < size a.plots n = omega arith in
    let t = settled_between a m b n ver some_a p q first even last in t.2 j ∙ sound.rests n j some_word (inside_since a m p n j inside) t.1

module _ (good : Good) where
  -- a node that is locked is drafted
  pub locks_drafts : (n ver : ℕ) (v w : View) → Locks good n ver v w → IsDrafted n (ver + 1) w
  locks_drafts n ver v w t = (ap (λ (l : List Tenure). has l n) t.mine ∙ has_here n true v.mine, t.version, t.rests)

-- what a key has after one call more
pub value_here : (log : List Entry) (e : Entry) (key : ℕ) → e.key ≡ key → value_of key (log ++ e ∷ []) ≡ e.value
value_here log e key same = value_on None key log (e ∷ []) ∙ ap (λ (z : Bool). if z then e.value else value_after None key log) (eq-eqb e.key key same)

pub value_else : (log : List Entry) (e : Entry) (key : ℕ) → e.key ≢ key → value_of key (log ++ e ∷ []) ≡ value_of key log
value_else log e key other = value_on None key log (e ∷ []) ∙ ap (λ (z : Bool). if z then e.value else value_after None key log) (ne_eqb e.key key other)

pub later_refl : (v : View) → Later v v
later_refl v = (([], sym (append-nil v.seen.log)), refl, refl)

pub later_trans : (v w x : View) → Later v w → Later w x → Later v x
later_trans v w x p q = ((p.0.0 ++ q.0.0, q.0.1 ∙ (ap (λ (l : List Entry). l ++ q.0.0) p.0.1 ∙ append_assoc v.seen.log p.0.0 q.0.0)), q.1 ∙ p.1, q.2 ∙ p.2)

pub later_keeps : (v w x : View) → Later v w → Keeps w x → Keeps v x
later_keeps v w x p q = (later_trans v w x p q.0, q.1)

pub later_puts : (key : ℕ) (value : Option ℕ) (v w x : View) → Later v w → Puts key value w x → Puts key value v x
later_puts key value v w x p t = let e : ℕ → List Entry = λ z. entry_of z key value ∷ [] in (
  p.0.0 ++ t.0,
  t.1,
  t.2 ∙ (ap (λ (l : List Entry). ((l ++ t.0) ++ e w.by) ++ t.1) p.0.1 ∙ (ap (λ (l : List Entry). (l ++ e w.by) ++ t.1) (append_assoc v.seen.log p.0.0 t.0) ∙ ap (λ (z : ℕ). ((v.seen.log ++ (p.0.0 ++ t.0)) ++ e z) ++ t.1) p.2)),
  t.3 ∙ (ap (λ (l : List Entry). l ++ e w.by) p.1 ∙ ap (λ (z : ℕ). v.made ++ e z) p.2),
  t.4 ∙ p.2,
  t.5,
)

pub puts_keeps : (key : ℕ) (value : Option ℕ) (v w x : View) → Puts key value v w → Keeps w x → Puts key value v x
puts_keeps key value v w x t p = let l : List Entry = (v.seen.log ++ t.0) ++ entry_of v.by key value ∷ [] in (
  t.0,
  t.1 ++ p.0.0.0,
  p.0.0.1 ∙ (ap (λ (z : List Entry). z ++ p.0.0.0) t.2 ∙ append_assoc l t.1 p.0.0.0),
  p.0.1 ∙ t.3,
  p.0.2 ∙ t.4,
  p.1,
)

module _ (good : Good) where
  pub looks_keeps : (v w : View) → Looks good v w → Keeps v w
  looks_keeps v w t = ((t.since.log, t.made, t.own.0), t.own.1)

  pub locks_keeps : (n ver : ℕ) (v w : View) → Locks good n ver v w → Keeps v w
  locks_keeps n ver v w t = ((t.since.log, t.made, t.own.0), t.own.1)

  pub stores_keeps : (i x : ℕ) (v w : View) → Stores good i x v w → Keeps v w
  stores_keeps i x v w t = ((t.since.log, t.made, t.own.0), t.own.1)

  pub releases_keeps : (n : ℕ) (v w : View) → Releases good n v w → Keeps v w
  releases_keeps n v w t = ((t.since.log, t.made, t.own.0), t.own.1)

  -- a node is let go, and no call decided
  pub unlocks_keeps : (n : ℕ) (note : Note) (v w : View) → note.entry ≡ None → Unlocks good n note v w → Keeps v w
  unlocks_keeps n note v w none t = let d : decided v.by note.entry ≡ [] = ap (λ (e : Option Entry). decided v.by e) none in
      ((t.after.log, t.made ∙ (ap (λ (l : List Entry). v.made ++ l) d ∙ append-nil v.made), t.own.0), t.own.1)

  -- a node is let go, and a write decided
  pub unlocks_puts : (n key : ℕ) (value : Option ℕ) (note : Note) (v w : View) → note.entry ≡ Some (entry_of 0 key value) → Unlocks good n note v w → Puts key value v w
  unlocks_puts n key value note v w some t = let d : decided v.by note.entry ≡ entry_of v.by key value ∷ [] = ap (λ (e : Option Entry). decided v.by e) some in (
    t.since.log.0,
    [],
    t.log ∙ ((λ i. t.since.log.1 i ++ d i) ∙ sym (append-nil ((v.seen.log ++ t.since.log.0) ++ entry_of v.by key value ∷ []))),
    t.made ∙ ap (λ (l : List Entry). v.made ++ l) d,
    t.own.0,
    t.own.1,
  )

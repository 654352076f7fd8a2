-- What a hand knows of a node that said that it covers no key, and that it took at the version under which it said so.
use Rattle.std.proofs.Common.{◌≡◌, ℕ, ◌+◌, ◌%◌, ◌<◌, ◌≤◌, ◌^◌, Result, Ok, Err, MatchResult, true, List, ◌∷◌, slice_index_or, sym, ap, ◌∙◌, subst, arith}
use Rattle.std.specs.Prelude.{Vec, length}
use Rattle.std.specs.declared.alloc.Global.{Global}
use Rattle.optimistic.specs.Layout.{width}
use Rattle.optimistic.specs.declared.tree.fresh.Free.{Free}
use Rattle.optimistic.specs.declared.tree.fresh.Fresh.{Fresh}
use Rattle.optimistic.specs.declared.words.rule.Tenure.{Tenure}
use Rattle.optimistic.specs.declared.words.rule.View.{View}
use Rattle.optimistic.specs.words.Kept.{word_at, version_at, size, calm_at, has, Since}
use Rattle.optimistic.specs.words.Told.{HasForm, Looks, Locks, tenure}
use Rattle.optimistic.specs.tree.Fresh.{AreOf, IsFreeOf, IsMade}
use Rattle.optimistic.specs.tree.Trees.{IsTree}
use Rattle.optimistic.proofs.lemmas.words.Moments.{version_word, width_some, width_more, inside_since, since_trans, held_trans, held_version, form_since}
use Rattle.optimistic.proofs.lemmas.words.Chains.{looks_keeps, locks_keeps, locks_drafts, later_keeps}
use Rattle.optimistic.proofs.lemmas.tree.Nodes.{not_true}
use Rattle.optimistic.proofs.lemmas.tree.Reading.{looks_trans}

-- the names of free nodes are so at each later view
pub free_since : (free : Free) (v w : View) → IsFreeOf free v → Since v.seen w.seen → IsFreeOf free w
free_since free v w t s = record { forms = t.forms; names = λ form list some low k d l. form_since (slice_index_or (slice_index_or free.lists.items form list).items k d) form v w (width_some form some low) (t.names form list some low k d l) s }

-- the same of the same lists
pub free_same : (f g : Free) (v : View) → g.lists ≡ f.lists → IsFreeOf f v → IsFreeOf g v
free_same f g v same t = record {
  forms = subst (λ (l : Vec (Vec ℕ Global) Global). length l.items ≡ 9) (sym same) t.forms;
  names = λ form list some low. subst (λ (l : Vec (Vec ℕ Global) Global). AreOf form (slice_index_or l.items form list).items v) (sym same) (t.names form list some low);
}

-- a node has the version that it had before, at the look between, where it was taken at that version
still_version : (n form ver : ℕ) (v a u w : View) → HasForm n form v → 0 < width form → Looks IsTree v a → ver ≡ word_at a.seen.words n 0 → Looks IsTree a u → Locks IsTree n ver u w → version_at u.seen.words n ≡ ver
still_version n form ver v a u w at some p first q t =
    let inside : 0 < size v.seen.plots n = subst (λ (z : ℕ). 0 < width z) (sym at.is) some in
    let at_a : version_at a.seen.words n ≡ ver = version_word a.seen.words n ∙ sym first in
    let grows : version_at a.seen.words n ≤ version_at u.seen.words n = q.since.grows n (inside_since v.seen a.seen p.since n 0 inside) in
    let before : version_at u.seen.words n ≤ ver = t.before in
    omega arith

pub made : (n form ver covers : ℕ) (v a u w : View) → 0 < form → form < 9 → HasForm n form v → Looks IsTree v a → ver ≡ word_at a.seen.words n 0 → ver % 2 ≡ 0 → ver + 2 < 2 ^ 64 → Looks IsTree a u → covers ≡ word_at u.seen.words n 1 → covers ≡ 0 → Locks IsTree n ver u w → HasForm n form w
    → IsMade (record { node = n; version = ver + 1 }) form v w
made n form ver covers v a u w some low at p first even ends q is zero t at_w =
    let lu : Looks IsTree v u = looks_trans v a u p q in
    let wide = width_some form some low in let more = width_more form some low in
    let at_u : version_at u.seen.words n ≡ ver = still_version n form ver v a u w at wide p first q t in
    let form_u : HasForm n form u = form_since n form v u wide at lu.since in
    let in_u : (j : ℕ) → j < width form → j < size u.seen.plots n = λ j l. subst (λ (z : ℕ). j < width z) (sym form_u.is) l in
    let calm_u : calm_at u.seen.calm n 1 ≡ 0 = q.sound.rests n 1 (omega arith) (in_u 1 (omega arith)) (ap (λ (z : ℕ). z % 2) at_u ∙ even) ∙ (sym is ∙ zero) in
    let mine : (m : ℕ) → has v.mine m ≡ true → has u.mine m ≡ true = λ m h. ap (λ (l : List Tenure). has l m) lu.mine ∙ h in
    record {
      at = at_w;
      mine = t.mine ∙ ap (λ (l : List Tenure). tenure n true ∷ l) lu.mine;
      apart = not_true (has v.mine n) (λ h. let same : version_at w.seen.words n ≡ version_at u.seen.words n = held_version u.mine u.seen w.seen t.held n (in_u 0 wide) (mine n h) in let now : version_at w.seen.words n ≡ ver + 1 = t.version in omega arith);
      drafted = locks_drafts IsTree n ver u w t;
      ends = omega arith;
      blank = t.taken at_u 1 ∙ calm_u;
      keeps = later_keeps v u w (looks_keeps IsTree v u lu).0 (locks_keeps IsTree n ver u w t);
      since = since_trans v.seen u.seen w.seen lu.since t.since;
      held = held_trans v.mine v.seen u.seen w.seen lu.since lu.held (λ m h. t.held m (mine m h));
    }

-- a node that is taken after a look
pub made_later : (r : Fresh) (form : ℕ) (u v w : View) → Looks IsTree u v → IsMade r form v w → IsMade r form u w
made_later r form u v w p t = record {
  at = t.at;
  mine = t.mine ∙ ap (λ (l : List Tenure). tenure r.node true ∷ l) p.mine;
  apart = ap (λ (l : List Tenure). has l r.node) (sym p.mine) ∙ t.apart;
  drafted = t.drafted;
  ends = t.ends;
  blank = t.blank;
  keeps = later_keeps u v w (looks_keeps IsTree u v p).0 t.keeps;
  since = since_trans u.seen v.seen w.seen p.since t.since;
  held = held_trans u.mine u.seen v.seen w.seen p.since p.held (λ m h. t.held m (ap (λ (l : List Tenure). has l m) p.mine ∙ h));
}

pub result_later : {E : Type 0} (r : Result Fresh E) (form : ℕ) (u v w : View) → Looks IsTree u v → MatchResult r (λ f. IsMade f form v w) (λ _. Looks IsTree v w) → MatchResult r (λ f. IsMade f form u w) (λ _. Looks IsTree u w)
result_later (Ok f) form u v w p t = made_later f form u v w p t
result_later (Err e) form u v w p t = looks_trans u v w p t

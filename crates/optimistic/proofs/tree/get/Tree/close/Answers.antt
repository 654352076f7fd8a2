use Rattle.std.proofs.Common.{◌≡◌, ℕ, ◌+◌, ◌%◌, ◌≤◌, List, length, inl, inr, sym, ap, ◌∙◌, subst}
use Rattle.optimistic.specs.Layout.{width}
use Rattle.optimistic.specs.words.Kept.{word_at, version_at, moment, Sound}
use Rattle.optimistic.specs.words.Last.{words_in}
use Rattle.optimistic.specs.tree.Trees.{IsTree, where_at}
use Rattle.optimistic.specs.tree.Nexts.{IsEnd}
use Rattle.optimistic.proofs.lemmas.FillLemmas.{match_true}
use Rattle.optimistic.proofs.lemmas.drain.Ends.{match_false, root_inside, root_locked, root_where}
use Rattle.optimistic.proofs.tree.get.Tree.close.Goals as goal

pub returns-then-not-unlocked-clause-locked : goal.returns-then-not-unlocked-clause-locked
returns-then-not-unlocked-clause-locked c =
    let e = c.close-words.ensures in
    let inside : 16 + width 4 ≤ length (words_in c.close-words.result) = subst (λ (w : List ℕ). 16 + width 4 ≤ length w) e.1 (root_inside e.0 e.2.sound) in
    let odd = match_false _ _ _ c.if-not-unlocked.true c.is_unlocked-unlocked.ensures inside in
    record { end = e.0; sound = e.2.sound; comes = (e.2.since.log, e.2.calls); cause = inl (root_locked e.0 e.2.sound (subst (λ (w : List ℕ). version_at w 16 % 2 ≡ 1) (sym e.1) odd)) }

pub returns-then-covers-ne-COVERS_ALL-clause-locked : goal.returns-then-covers-ne-COVERS_ALL-clause-locked
returns-then-covers-ne-COVERS_ALL-clause-locked c =
    let e = c.close-words.ensures in
    let even = subst (λ (w : List ℕ). version_at w 16 % 2 ≡ 0) (sym e.1) (match_true _ _ _ c.if-not-unlocked.false c.is_unlocked-unlocked.ensures).1 in
    record { end = e.0; sound = e.2.sound; comes = (e.2.since.log, e.2.calls); cause = inr (λ h. c.if-covers-ne-COVERS_ALL.true (c.word-covers.ensures ∙ ap (λ (w : List ℕ). word_at w 16 1) (sym e.1) ∙ sym (root_where e.0 e.2.sound even) ∙ h)) }

pub returns-clause-pairs : goal.returns-clause-pairs
returns-clause-pairs c =
    let e = c.close-words.ensures in
    let m = e.0 in
    let ws : List ℕ = words_in c.close-words.result in
    let even = subst (λ (w : List ℕ). version_at w 16 % 2 ≡ 0) (sym e.1) (match_true _ _ _ c.if-not-unlocked.false c.is_unlocked-unlocked.ensures).1 in
    let covers : where_at m.calm 16 ≡ 32 = root_where m e.2.sound even ∙ ap (λ (w : List ℕ). word_at w 16 1) e.1 ∙ sym c.word-covers.ensures ∙ c.if-covers-ne-COVERS_ALL.false in
    let end : IsEnd ws m.plots m.calm m.log = record { sound = subst (λ (w : List ℕ). Sound IsTree (moment w m.plots m.calm m.log)) e.1 e.2.sound; covers = covers } in
    record {
      log = m.log;
      all = c.new.ensures.all;
      has = (m.plots, m.calm, subst (λ (w : List ℕ). IsEnd w m.plots m.calm m.log) (sym (ap words_in c.new.ensures.words)) end);
      comes = (e.2.since.log, e.2.calls);
    }

use Rattle.std.proofs.Common.{ℕ, sym, subst}
use Rattle.optimistic.specs.words.Told.{HasForm}
use Rattle.optimistic.specs.tree.Sights.{Lacks}
use Rattle.optimistic.proofs.lemmas.forms.Gaps.{only_gap}
use Rattle.optimistic.proofs.lemmas.tree.Reading.{looks_trans}
use Rattle.optimistic.proofs.lemmas.tree.Runs.{lacks_in}
use Rattle.optimistic.proofs.lemmas.tree.Setting.{place_since}
use Rattle.optimistic.proofs.lemmas.words.Moments.{since_refl}
use Rattle.optimistic.proofs.tree.get.Tree.byte_from.Goals as goal

pub gap_of_wide-requires-clause-at : goal.gap_of_wide-requires-clause-at
gap_of_wide-requires-clause-at c = subst (λ (z : ℕ). HasForm c.args.at.node z c.args.hand.now.me.0) c.if-at-eq4.true c.requires.at.at

pub returns-then-at-eq4-clause-place : goal.returns-then-at-eq4-clause-place
returns-then-at-eq4-clause-place c = place_since c.args.at c.args.hand.now.me.0 c.gap_of_wide.new.hand.me.0 c.gap_of_wide.ensures.looks.since c.requires.at

pub returns-then-at-eq4-clause-looks : goal.returns-then-at-eq4-clause-looks
returns-then-at-eq4-clause-looks c a l = looks_trans a c.args.hand.now.me.0 c.gap_of_wide.new.hand.me.0 l c.gap_of_wide.ensures.looks

pub returns-then-at-eq4-clause-lacks : goal.returns-then-at-eq4-clause-lacks
returns-then-at-eq4-clause-lacks c a l has =
    let v = c.args.hand.now.me.0 in
    let w = c.gap_of_wide.new.hand.me.0 in
    lacks_in c.args.at.node c.args.at.form c.args.from c.gap_of_wide.result a v w w l
    (subst (λ (z : ℕ). Lacks c.args.at.node z c.args.from c.gap_of_wide.result v w) (sym c.if-at-eq4.true) c.gap_of_wide.ensures.lacks) (since_refl w.seen)

pub returns-clause-lacks : goal.returns-clause-lacks
returns-clause-lacks c a l has f ag is = only_gap c.args.at.form f c.args.bytes.now c.args.from c.first_set.result (has c.if-at-eq4.false f ag is) c.first_set.ensures.bounds.1 c.first_set.ensures.none

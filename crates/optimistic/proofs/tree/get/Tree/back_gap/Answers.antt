use Rattle.std.proofs.Common.{ℕ, ◌+◌, sym, subst, arith}
use Rattle.optimistic.specs.words.Told.{HasForm}
use Rattle.optimistic.specs.tree.Sights.{Lacks}
use Rattle.optimistic.proofs.lemmas.forms.Gaps.{only_gap}
use Rattle.optimistic.proofs.tree.get.Tree.back_gap.Goals as goal

pub back_gap_of_wide-requires-clause-at : goal.back_gap_of_wide-requires-clause-at
back_gap_of_wide-requires-clause-at c = subst (λ (z : ℕ). HasForm c.args.at.node z c.args.hand.now.me.0) c.if-at-eq4.true c.requires.at.at

pub returns-then-at-eq4-clause-lacks : goal.returns-then-at-eq4-clause-lacks
returns-then-at-eq4-clause-lacks c =
    subst (λ (z : ℕ). Lacks c.args.at.node z c.back_gap_of_wide.result (c.args.to + 1) c.args.hand.now.me.0 c.back_gap_of_wide.new.hand.me.0) (sym c.if-at-eq4.true) c.back_gap_of_wide.ensures.lacks

pub returns-clause-lacks : goal.returns-clause-lacks
returns-clause-lacks c f ag is =
    let low = c.ranges.to.fits in
    only_gap c.args.at.form f c.bytes-bytes.result c.last_set.result (c.args.to + 1) (c.bytes-bytes.ensures.only f ag is) (omega (arith, low)) c.last_set.ensures.none

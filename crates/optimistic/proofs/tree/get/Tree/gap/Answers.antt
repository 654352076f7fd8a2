use Rattle.std.proofs.Common.{ℕ, sym, subst}
use Rattle.optimistic.specs.words.Told.{HasForm}
use Rattle.optimistic.specs.tree.Sights.{Lacks}
use Rattle.optimistic.proofs.lemmas.forms.Gaps.{only_gap}
use Rattle.optimistic.proofs.tree.get.Tree.gap.Goals as goal

pub gap_of_wide-requires-clause-at : goal.gap_of_wide-requires-clause-at
gap_of_wide-requires-clause-at c = subst (λ (z : ℕ). HasForm c.args.at.node z c.args.hand.now.me.0) c.if-at-eq4.true c.requires.at.at

pub returns-then-at-eq4-clause-lacks : goal.returns-then-at-eq4-clause-lacks
returns-then-at-eq4-clause-lacks c = subst (λ (z : ℕ). Lacks c.args.at.node z c.args.from c.gap_of_wide.result c.args.hand.now.me.0 c.gap_of_wide.new.hand.me.0) (sym c.if-at-eq4.true) c.gap_of_wide.ensures.lacks

pub returns-clause-lacks : goal.returns-clause-lacks
returns-clause-lacks c f ag is = only_gap c.args.at.form f c.bytes-bytes.result c.args.from c.first_set.result (c.bytes-bytes.ensures.only f ag is) c.first_set.ensures.bounds.1 c.first_set.ensures.none

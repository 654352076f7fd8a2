use Rattle.std.proofs.Common.{ℕ, sym, subst}
use Rattle.optimistic.specs.words.Told.{HasForm}
use Rattle.optimistic.specs.tree.Reads.{Found}
use Rattle.optimistic.proofs.tree.get.Tree.child_there.Goals as goal

pub value_of_wide-requires-clause-at : goal.value_of_wide-requires-clause-at
value_of_wide-requires-clause-at c = subst (λ (z : ℕ). HasForm c.args.at.node z c.args.hand.now.me.0) c.if-at-eq8.true c.requires.at.at

pub returns-then-at-eq8-clause-found : goal.returns-then-at-eq8-clause-found
returns-then-at-eq8-clause-found c = subst (λ (z : ℕ). Found c.args.at.node z c.value_of_wide.result.first c.value_of_wide.result.second c.args.key c.args.byte c.args.hand.now.me.0 c.value_of_wide.new.hand.me.0) (sym c.if-at-eq8.true) c.value_of_wide.ensures.found

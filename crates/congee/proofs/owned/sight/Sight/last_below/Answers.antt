use Rattle.std.proofs.Common.{subst}
use Rattle.congee.specs.owned.Entries.{lone_seen}
use Rattle.congee.specs.owned.Sights.{Sees}
use Rattle.congee.proofs.lemmas.owned.LastSights.{inner_below, leaf_below, lone_above, lone_below}
use Rattle.congee.proofs.owned.sight.Sight.last_below.Goals as goal

pub returns-then-end-last : goal.returns-then-end-last
returns-then-end-last g c = λ s at x seen e. lone_above s at (lone_seen c.in-Inline.lone) (subst (Sees s at) c.in-Inline.is seen) x e c.args.end c.if-end-last.true

pub returns-else-end-last : goal.returns-else-end-last
returns-else-end-last g c = λ s at x seen e. lone_below s at (lone_seen c.in-Inline.lone) (subst (Sees s at) c.in-Inline.is seen) x e c.args.end c.if-end-last.false

pub returns-in-Inner : goal.returns-in-Inner
returns-in-Inner g c = λ s at x seen e. inner_below s at x e c.in-Inner.field-0 c.in-Inner.n.now (subst (Sees s at) c.in-Inner.is seen) c.args.end c.last_below.result c.last_below.ensures

pub returns-in-Leaf : goal.returns-in-Leaf
returns-in-Leaf g c = λ s at x seen e. leaf_below s at x e c.in-Leaf.field-0 c.in-Leaf.n.now (subst (Sees s at) c.in-Leaf.is seen) c.args.end c.last_below-in-Leaf.result c.last_below-in-Leaf.ensures

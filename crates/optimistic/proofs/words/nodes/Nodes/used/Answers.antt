use Rattle.std.proofs.Common.{◌+◌, ◌≤◌, ◌<◌, ◌∙◌, ℕ, sym, arith, subst, length}
use Rattle.optimistic.specs.Layout.{width}
use Rattle.optimistic.proofs.lemmas.words.Moments.{root_since}
use Rattle.optimistic.proofs.lemmas.words.Steps.{looks}
use Rattle.optimistic.proofs.words.nodes.Nodes.used.Goals as goal

pub load-requires : goal.load-requires
load-requires g c = (c.requires.of.0, (let a : 16 + width 4 ≤ length c.args.hand.now.me.0.seen.words = c.requires.of.3.ends in let b = c.requires.of.2 in omega arith), looks _ _ _ _ _ _ c.requires.of.4)

pub returns-clause-of : goal.returns-clause-of
returns-clause-of g c = (c.load.ensures.0 ∙ c.requires.of.0, c.load.ensures.2.0 ∙ c.requires.of.1, c.load.ensures.2.1.since.wide ∙ c.requires.of.2, root_since _ _ c.requires.of.3 c.load.ensures.2.1.since, subst (λ (z : ℕ). 0 < z) (sym c.load.ensures.2.1.own.0) c.requires.of.4)

use Rattle.std.proofs.Common.{◌+◌, ◌≤◌, ◌<◌, ◌∙◌, ℕ, rules, sym, arith, subst, length}
use Rattle.optimistic.specs.Layout.{width}
use Rattle.optimistic.proofs.lemmas.words.Moments.{form_since, root_since}
use Rattle.optimistic.proofs.lemmas.words.Steps.{looks, told}
use Rattle.optimistic.proofs.words.nodes.Nodes.load.Goals as goal

pub load-requires : goal.load-requires
load-requires g c = (search rules, (let a : c.args.node + width c.args.form ≤ length c.args.hand.now.me.0.seen.words = c.requires.at.ends in let b = c.requires.of.2 in let l = c.requires.inside in omega arith), looks _ _ _ _ _ _ c.requires.of.4)

pub returns-clause-of : goal.returns-clause-of
returns-clause-of g c = (c.load.ensures.0 ∙ c.requires.of.0, c.load.ensures.2.0 ∙ c.requires.of.1, c.load.ensures.2.1.since.wide ∙ c.requires.of.2, root_since _ _ c.requires.of.3 c.load.ensures.2.1.since, subst (λ (z : ℕ). 0 < z) (sym c.load.ensures.2.1.own.0) c.requires.of.4)

pub returns-clause-at : goal.returns-clause-at
returns-clause-at g c = form_since c.args.node c.args.form _ _ (let l = c.requires.inside in omega arith) c.requires.at c.load.ensures.2.1.since

pub returns-clause-tells : goal.returns-clause-tells
returns-clause-tells g c link = told _ c.args.node c.args.form c.args.word c.load.result _ (form_since c.args.node c.args.form _ _ (let l = c.requires.inside in omega arith) c.requires.at c.load.ensures.2.1.since) c.requires.inside c.load.ensures.2.1.sound c.load.ensures.2.2 link

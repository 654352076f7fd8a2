use Rattle.std.proofs.Common.{◌+◌, ◌≤◌, ◌<◌, ◌∙◌, ℕ, rules, refl, sym, arith, subst, length}
use Rattle.optimistic.specs.Layout.{width}
use Rattle.optimistic.proofs.lemmas.words.Moments.{form_since, root_since}
use Rattle.optimistic.proofs.lemmas.words.Steps.{puts}
use Rattle.optimistic.proofs.words.nodes.Nodes.store.Goals as goal

pub store-requires : goal.store-requires
store-requires g c = (
  search rules,
  (let a : c.args.node + width c.args.form ≤ length c.args.hand.now.me.0.seen.words = c.requires.at.ends in let b = c.requires.of.2 in let l = c.requires.inside.1 in omega arith),
  puts _ _ _ _ _ c.args.node c.args.form c.args.word _ c.args.value c.requires.of.4 c.requires.mine c.requires.at c.requires.inside.0 c.requires.inside.1 refl c.requires.tells,
)

pub returns-clause-of : goal.returns-clause-of
returns-clause-of g c = let s = c.store.ensures.2.1.since in (c.store.ensures.0 ∙ c.requires.of.0, c.store.ensures.2.0 ∙ c.requires.of.1, s.wide ∙ c.requires.of.2, root_since _ _ c.requires.of.3 s, subst (λ (z : ℕ). 0 < z) (sym c.store.ensures.2.1.own.0) c.requires.of.4)

pub returns-clause-at : goal.returns-clause-at
returns-clause-at g c = form_since c.args.node c.args.form _ _ (let l = c.requires.inside.1 in omega arith) c.requires.at c.store.ensures.2.1.since

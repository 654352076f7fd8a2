use Rattle.std.proofs.Common.{◌+◌, ◌≤◌, ◌<◌, ◌∙◌, ℕ, rules, refl, sym, subst, arith, length}
use Rattle.optimistic.specs.Layout.{width}
use Rattle.optimistic.proofs.lemmas.words.Moments.{root_since}
use Rattle.optimistic.proofs.lemmas.words.Steps.{releases}
use Rattle.optimistic.proofs.words.nodes.Nodes.release.Goals as goal

pub compare_exchange-requires : goal.compare_exchange-requires
compare_exchange-requires g c = (
  search rules,
  (let a : c.args.node + width c.args.form ≤ length c.args.hand.now.me.0.seen.words = c.requires.at.ends in let b = c.requires.of.2 in let l = c.requires.some in omega arith),
  releases _ _ _ _ _ c.args.node c.args.version _ c.requires.of.4 c.requires.drafted refl,
)

pub returns-clause-of : goal.returns-clause-of
returns-clause-of g c = let s = c.compare_exchange.ensures.2.1.since in (c.compare_exchange.ensures.0 ∙ c.requires.of.0, c.compare_exchange.ensures.2.0 ∙ c.requires.of.1, s.wide ∙ c.requires.of.2, root_since _ _ c.requires.of.3 s, subst (λ (z : ℕ). 0 < z) (sym c.compare_exchange.ensures.2.1.own.0) c.requires.of.4)

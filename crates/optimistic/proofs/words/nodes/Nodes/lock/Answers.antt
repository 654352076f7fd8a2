use Rattle.std.proofs.Common.{◌+◌, ◌≤◌, ◌<◌, ◌∙◌, ℕ, rules, refl, sym, arith, subst, length}
use Rattle.optimistic.specs.Layout.{width}
use Rattle.optimistic.proofs.lemmas.words.Moments.{form_since, root_since}
use Rattle.optimistic.proofs.lemmas.words.Steps.{locks}
use Rattle.optimistic.proofs.words.nodes.Nodes.lock.Goals as goal

pub compare_exchange-found-requires : goal.compare_exchange-found-requires
compare_exchange-found-requires g c = (
  search rules,
  (let a : c.args.node + width c.args.form ≤ length c.args.hand.now.me.0.seen.words = c.requires.at.ends in let b = c.requires.of.2 in let l = c.requires.some in omega arith),
  locks _ _ _ _ _ c.args.node c.args.version _ c.requires.of.4 (subst (λ (z : ℕ). 0 < width z) (sym c.requires.at.is) c.requires.some) c.requires.free.0 refl,
)

pub returns-clause-of : goal.returns-clause-of
returns-clause-of g c = let s = c.compare_exchange-found.ensures.2.1 in (c.compare_exchange-found.ensures.0 ∙ c.requires.of.0, c.compare_exchange-found.ensures.2.0 ∙ c.requires.of.1, s.wide ∙ c.requires.of.2, root_since _ _ c.requires.of.3 s, subst (λ (z : ℕ). 0 < z) (sym c.compare_exchange-found.ensures.2.4) c.requires.of.4)

pub returns-clause-at : goal.returns-clause-at
returns-clause-at g c = form_since c.args.node c.args.form _ _ c.requires.some c.requires.at c.compare_exchange-found.ensures.2.1

use Rattle.std.proofs.Common.{◌+◌, ◌≤◌, ◌<◌, ◌∙◌, ℕ, rules, refl, ap, sym, arith, subst, length}
use Rattle.optimistic.specs.Layout.{width}
use Rattle.optimistic.proofs.lemmas.words.Steps.{looks, carves}
use Rattle.optimistic.proofs.words.nodes.Nodes.carve.Goals as goal

pub load-end-requires : goal.load-end-requires
load-end-requires g c = (c.requires.of.0, (let a : 16 + width 4 ≤ length c.args.hand.now.me.0.seen.words = c.requires.of.3.ends in let b = c.requires.of.2 in omega arith), looks _ _ _ _ _ _ c.requires.of.4)

pub compare_exchange_with-found-requires : goal.compare_exchange_with-found-requires
compare_exchange_with-found-requires g c = (
  c.load-end.ensures.0 ∙ c.requires.of.0,
  (let a : 16 + width 4 ≤ length c.args.hand.now.me.0.seen.words = c.requires.of.3.ends in let b = c.requires.of.2 in omega arith),
  carves _ _ _ _ _ c.load-end.result _ _ (subst (λ (z : ℕ). 0 < z) (sym c.load-end.ensures.2.1.own.0) c.requires.of.4) (let w = c.width_of-width.ensures in subst (λ (z : ℕ). 0 < z) w.0 w.1) (ap (λ (z : ℕ). c.load-end.result + z) c.width_of-width.ensures.0) (search rules),
)

pub returns-then-found-end-clause-node : goal.returns-then-found-end-clause-node
returns-then-found-end-clause-node g c = c.compare_exchange_with-found.ensures.2.2 _ refl (search rules)

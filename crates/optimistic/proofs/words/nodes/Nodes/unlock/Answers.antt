use Rattle.std.proofs.Common.{◌+◌, ◌≤◌, ◌<◌, ℕ, rules, refl, sym, ◌∙◌, arith, subst, length}
use Rattle.optimistic.specs.Layout.{width}
use Rattle.optimistic.proofs.lemmas.words.Moments.{form_since, root_since}
use Rattle.optimistic.proofs.lemmas.words.Steps.{unlocks}
use Rattle.optimistic.proofs.words.nodes.Nodes.unlock.Goals as goal

pub compare_exchange_with-requires : goal.compare_exchange_with-requires
compare_exchange_with-requires g c = (
  search rules,
  (let a : c.args.node + width c.args.form ≤ length c.args.hand.now.me.0.seen.words = c.requires.at.ends in let b = c.requires.of.2 in let l = c.requires.some in omega arith),
  unlocks _ _ _ _ _ c.args.node c.args.version _ c.args.note.now c.requires.of.4 c.requires.mine c.requires.version.0 refl c.requires.also.0 c.requires.also.1 c.requires.also.2 c.requires.may,
)

pub returns-clause-of : goal.returns-clause-of
returns-clause-of g c = let u = c.compare_exchange_with.ensures.2.1 c.args.note.now refl in
    (c.compare_exchange_with.ensures.0 ∙ c.requires.of.0, c.compare_exchange_with.ensures.2.0 ∙ c.requires.of.1, u.after.wide ∙ c.requires.of.2, root_since _ _ c.requires.of.3 u.after, subst (λ (z : ℕ). 0 < z) (sym u.own.0) c.requires.of.4)

pub returns-clause-at : goal.returns-clause-at
returns-clause-at g c = let u = c.compare_exchange_with.ensures.2.1 c.args.note.now refl in form_since c.args.node c.args.form _ _ c.requires.some c.requires.at u.after

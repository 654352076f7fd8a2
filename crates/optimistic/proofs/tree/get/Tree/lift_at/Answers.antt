use Rattle.std.proofs.Common.{ℕ, sym, subst, Option}
use Rattle.optimistic.specs.tree.Sets.{IsSet}
use Rattle.optimistic.proofs.lemmas.words.Chains.{later_refl}
use Rattle.optimistic.proofs.tree.get.Tree.lift_at.Goals as goal

pub returns-in-None-clause-set : goal.returns-in-None-clause-set
returns-in-None-clause-set c = subst (λ (z : Option ℕ). IsSet c.args.write.key z c.try_lift.result c.args.hand.now.me.0 c.try_lift.new.hand.me.0) (sym c.in-None.is) c.try_lift.ensures.set

pub returns-in-Some-clause-set : goal.returns-in-Some-clause-set
returns-in-Some-clause-set c = (later_refl c.args.hand.now.me.0, c.requires.own)

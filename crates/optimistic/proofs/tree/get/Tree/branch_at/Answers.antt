use Rattle.std.proofs.Common.{ℕ, sym, subst, MatchResult, Option}
use Rattle.optimistic.specs.words.Calls.{Keeps}
use Rattle.optimistic.specs.tree.Sets.{IsSet}
use Rattle.optimistic.proofs.lemmas.words.Chains.{later_refl}
use Rattle.optimistic.proofs.tree.get.Tree.branch_at.Goals as goal

pub returns-then-not-allowed-clause-set : goal.returns-then-not-allowed-clause-set
returns-then-not-allowed-clause-set c = (later_refl c.args.hand.now.me.0, c.requires.own)

pub returns-in-None-clause-set : goal.returns-in-None-clause-set
returns-in-None-clause-set c = (later_refl c.args.hand.now.me.0, c.requires.own)

pub returns-in-Some-clause-set : goal.returns-in-Some-clause-set
returns-in-Some-clause-set c = let v = c.args.hand.now.me.0 in let w = c.try_split.new.hand.me.0 in
    subst (λ (z : Option ℕ). MatchResult c.try_split.result (λ s. IsSet c.args.write.key z s v w) (λ _. Keeps v w)) (sym c.in-Some.is) c.try_split.ensures.set

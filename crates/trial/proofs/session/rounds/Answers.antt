use Rattle.std.proofs.Common.{subst, Option}
use Rattle.joint.specs.declared.refusal.Refusal.{Refusal}
use Rattle.trial.specs.Session.{Round}
use Rattle.trial.proofs.Rounds.{round_ends, round_goes}
use Rattle.trial.proofs.session.rounds.Goals as goal

pub returns-in-Some-clause-ok : goal.returns-in-Some-clause-ok
returns-in-Some-clause-ok c =
    let P : Option Refusal → Type 0 = λ o. Round c.loop-i.index c.args.worker c.round.new.index o in
    c.loop-i.invariant _ _ (round_ends c.args.count c.loop-i._i _ _ _ _ c.loop-i-test.true (subst P c.in-Some.is c.in_ok-refusal.ensures.ok))

pub loop-i-preserved : goal.loop-i-preserved
loop-i-preserved c =
    let P : Option Refusal → Type 0 = λ o. Round c.loop-i.index c.args.worker c.round.new.index o in
    λ new r rest. c.loop-i.invariant new r (round_goes c.args.count c.loop-i._i _ _ new _ r c.loop-i-test.true (subst P c.in_default.is c.in_ok-refusal.ensures.ok) rest)

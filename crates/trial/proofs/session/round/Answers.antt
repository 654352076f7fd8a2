use Rattle.std.proofs.Common.{refl, subst, Option, Some}
use Rattle.joint.specs.declared.refusal.Refusal.{Refusal}
use Rattle.trial.specs.Session.{AfterPin, Round, Unwinds}
use Rattle.trial.proofs.Filling.{if_ok}
use Rattle.trial.proofs.session.round.Goals as goal

pub returns-in-Some-clause-ok : goal.returns-in-Some-clause-ok
returns-in-Some-clause-ok c =
    let P : Option Refusal → Type 0 = λ o. AfterPin o c.call.new.self c.args.worker c.call.new.self (Some c.in-Some.refusal) in
    (c.call.new.self, c.in_ok-pin.pin, c.in_ok-pin.ensures.ok, subst P c.in-Some.ensures (refl, refl))

pub returns-in-None-clause-ok : goal.returns-in-None-clause-ok
returns-in-None-clause-ok c =
    if_ok (λ first. Unwinds c.call.new.self c.args.worker c.unwind.new.index first) (λ first. Round c.args.index.now c.args.worker c.unwind.new.index first)
    c.unwind.result (λ first u.
    let P : Option Refusal → Type 0 = λ o. AfterPin o c.call.new.self c.args.worker c.unwind.new.index first in
    (c.call.new.self, c.in_ok-pin.pin, c.in_ok-pin.ensures.ok, subst P c.in-None.ensures u)) c.unwind.ensures.ok

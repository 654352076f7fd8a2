use Rattle.std.proofs.Common.{◌≡◌, ◌∙◌, sym, ◌-◌, ◌≤◌, arith, true, false}
use Rattle.joint.specs.Reports.{is_in_flight}
use Rattle.trial.proofs.Rounds.{call_ends, call_stays, call_goes}
use Rattle.trial.proofs.open_tree.OpenTree.go_on.Goals as goal

pub returns-then-not-is_in_flight-clause-ok : goal.returns-then-not-is_in_flight-clause-ok
returns-then-not-is_in_flight-clause-ok c =
    let ended : is_in_flight c.loop-i.outcome ≡ false = sym c.is_in_flight.ensures ∙ c.if-not-is_in_flight.true in
    c.loop-i.invariant _ _ (call_ends (c.args.most - c.loop-i._i) c.loop-i.self c.args.worker c.loop-i.outcome ended)

pub loop-i-preserved : goal.loop-i-preserved
loop-i-preserved c =
    let runs : is_in_flight c.loop-i.outcome ≡ true = sym c.is_in_flight.ensures ∙ c.if-not-is_in_flight.false in
    λ new told rest. c.loop-i.invariant new told (call_goes c.args.most c.loop-i._i _ _ new _ _ _ told c.loop-i-test.true runs c.in_ok-outcome.ensures.ok rest)

pub returns-clause-ok : goal.returns-clause-ok
returns-clause-ok c =
    let none : c.args.most ≤ c.loop-i._i = omega (arith, c.loop-i-test.false) in
    c.loop-i.invariant _ _ (call_stays c.args.most c.loop-i._i c.loop-i.self c.args.worker c.loop-i.outcome none)

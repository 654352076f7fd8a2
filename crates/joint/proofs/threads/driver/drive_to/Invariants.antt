use Rattle.std.proofs.Common.{◌≡◌}
use Rattle.joint.specs.threads.Driving.{IsTurn}
use Rattle.joint.proofs.lemmas.threads.Driving.{GoesOn}
use Rattle.joint.proofs.threads.driver.drive_to.Given as goal

-- the next turn may be taken; and whatever it and those after it are, with those so far they are the whole call
abbrev pub invariant-loop : goal.invariant-loop
invariant-loop g l =
    record {
      can : (goal.iterator-loop g).can_next l.iterator';
      finite : (goal.iterator-loop g).is_finite l.iterator';
      ready : g.C.Answer.can_answer l.answers;
      worker : g.T.Turns.worker l.turns ≡ l.worker;
      next : IsTurn (g.T.Turns.worker l.turns) (g.T.Turns.op l.turns) (g.T.Turns.last l.turns) l.step;
      goes_on : GoesOn g.T.Turns.gives g.C.Answer.answers g.Q.Pair.pair l.worker l.fn.op l.fn.answers l.fn.turns l.fn.found l.turns l.step l.answers l.found;
    }

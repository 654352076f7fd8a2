use Rattle.std.proofs.Common.{rules, ◌≡◌, ◌∙◌, ap, subst, sym, Some, None}
use Rattle.joint.specs.declared.steps.Outcome.{Outcome}
use Rattle.joint.specs.threads.Driving.{Goes, IsTurn, go_step, put_by}
use Rattle.joint.proofs.lemmas.threads.Driving.{driven_begins, driven_ends, driven_goes_on, goes_is_go}
use Rattle.joint.proofs.threads.driver.drive_to.Goals as goal
use Rattle.joint.proofs.threads.driver.drive_to.Goals.{in-Running, in-Asks, in-Found}

-- the first turn
pub loop-init : goal.loop-init
loop-init g c =
    record {
      can = search rules;
      finite = search rules;
      ready = c.requires.ready;
      worker = c.requires.worker;
      next =
          let P = λ (who : _) (op : _) (last : _). IsTurn who op last c.begin_step-step.result in
          let here : P c.args.worker c.args.op None = c.begin_step-step.ensures in
          rw (c.requires.worker, c.requires.op, c.requires.new) here;
      goes_on = driven_begins g.T.Turns.gives g.C.Answer.answers g.Q.Pair.pair c.args.worker c.args.op c.args.answers.now c.args.turns.now c.args.found.now c.begin_step-step.result c.begin_step-step.ensures;
    }

pub returns-in-Done-clause-turns : goal.returns-in-Done-clause-turns
returns-in-Done-clause-turns g c =
    driven_ends g.T.Turns.gives g.C.Answer.answers g.Q.Pair.pair c.args.worker c.args.op c.args.answers.now c.args.turns.now c.args.found.now c.loop.turns c.loop.step c.loop.answers c.loop.found c.loop.invariant.goes_on
    c.turn-outcome.result c.turn-outcome.new.self _ c.turn-outcome.ensures.gives (ap (λ o. put_by g.Q.Pair.pair o c.loop.found) c.in-Done.is) c.in-Done.is

pub returns-in-Refused-clause-turns : goal.returns-in-Refused-clause-turns
returns-in-Refused-clause-turns g c =
    driven_ends g.T.Turns.gives g.C.Answer.answers g.Q.Pair.pair c.args.worker c.args.op c.args.answers.now c.args.turns.now c.args.found.now c.loop.turns c.loop.step c.loop.answers c.loop.found c.loop.invariant.goes_on
    c.turn-outcome.result c.turn-outcome.new.self _ c.turn-outcome.ensures.gives (ap (λ o. put_by g.Q.Pair.pair o c.loop.found) c.in-Refused.is) c.in-Refused.is

pub loop-preserved : goal.loop-preserved
loop-preserved g c =
    let calls = g.C.Answer.answers in
    let G : Outcome g.row.P.Denot → Type 0 = λ o. Goes calls c.args.worker o c.loop.answers c.go_step-step.result c.match-outcome.answers in
    let goes : G c.turn-outcome.result.outcome =
    elim c.match-outcome.branch [
      | in-Running w ↦ subst G (sym w.in-Running.is) (c.go_step-step.ensures ∙ ap (go_step c.args.worker) w.answer-is, w.answers-is)
      | in-Asks w ↦ subst G (sym w.in-Asks.is) (w.answer.result, rw w.answers-is w.answer.ensures.answers, c.go_step-step.ensures ∙ ap (go_step c.args.worker) w.answer-is)
      | in-Found w ↦ subst G (sym w.in-Found.is) (c.go_step-step.ensures ∙ ap (go_step c.args.worker) w.answer-is, w.answers-is)
    ] in
    let put = λ (o : Outcome g.row.P.Denot). put_by g.Q.Pair.pair o c.loop.found in
    let found : c.match-outcome.found ≡ put c.turn-outcome.result.outcome =
    elim c.match-outcome.branch [
      | in-Running w ↦ w.found-is ∙ sym (ap put w.in-Running.is)
      | in-Asks w ↦ w.found-is ∙ sym (ap put w.in-Asks.is)
      | in-Found w ↦ w.found-is ∙ (rw w.pair.ensures at w.put_at.ensures) ∙ sym (ap put w.in-Found.is)
    ] in
    let who : g.T.Turns.worker c.turn-outcome.new.self ≡ c.args.worker = c.turn-outcome.ensures.worker ∙ c.loop.invariant.worker in
    record {
      can = search rules;
      finite = search rules;
      ready = elim c.match-outcome.branch [
        | in-Running w ↦ rw w.answers-is c.loop.invariant.ready
        | in-Asks w ↦ rw w.answers-is w.answer.ensures.again
        | in-Found w ↦ rw w.answers-is c.loop.invariant.ready
      ];
      worker = who;
      next =
          let P = λ (n : _) (last : _). IsTurn n (g.T.Turns.op c.turn-outcome.new.self) last c.go_step-step.result in
          let here : P c.args.worker (Some c.turn-outcome.result) = goes_is_go calls c.args.worker c.turn-outcome.result.outcome c.loop.answers c.go_step-step.result c.match-outcome.answers goes in
          rw (who, c.turn-outcome.ensures.last) here;
      goes_on = driven_goes_on g.T.Turns.gives calls g.Q.Pair.pair c.args.worker c.args.op c.args.answers.now c.args.turns.now c.args.found.now c.loop.turns c.loop.step c.loop.answers c.loop.found c.loop.invariant.goes_on
          c.turn-outcome.result c.turn-outcome.new.self c.go_step-step.result c.match-outcome.answers c.match-outcome.found c.turn-outcome.ensures.gives goes found;
    }

use Rattle.std.proofs.Common.{rules, ◌≡◌, arith, inr, refl, sym, ap, subst, ◌∙◌}
use Rattle.std.specs.Prelude.{IsTrue, nat_eq, false, true}
use Rattle.std.proofs.lemmas.Bool.{false≢true}
use Rattle.joint.specs.declared.steps.Report.{Report}
use Rattle.joint.specs.threads.Driving.{IsToldInCall}
use Rattle.joint.specs.threads.Writing.{MayStep, Progress, WontRepeat, WritingTurn, given_after, noted}
use Rattle.joint.proofs.lemmas.threads.Holding.{step_tells}
use Rattle.joint.proofs.lemmas.threads.WritingStep.{hold_turn, told_tells, write_count}
use Rattle.joint.proofs.threads.journaled_world.JournaledWorld.write.Goals as goal
use Rattle.joint.proofs.threads.journaled_world.JournaledWorld.write.Goals.{then-not-may_step-via-then-not-may_step, then-not-may_step-via-else-not-may_step+then-not-wont_repeat}

pub invariant_of-self : goal.invariant_of-self
invariant_of-self g c =
    let kept = c.args.self.now in
    let places = c.step_on-report.ensures.appended.places in
    let more = write_count kept.world c.step_on-report.new.world c.args.step.worker c.args.op.now c.call.inside.given c.args.step.event g.W.Watch.watched c.step_on-report.result.1 c.requires.writing c.step_on-report.ensures.appended in
    record {
      some = omega (arith, places, kept.some);
      few = omega (arith, places, kept.few);
      counted = omega (arith, c.note.ensures.book, kept.counted, more);
    }

pub returns-clause-turn : goal.returns-clause-turn
returns-clause-turn g c =
    let watched = g.W.Watch.watched in
    let op = c.args.op.now in
    let event = c.args.step.event in
    let entry = c.step_on-report.result.1 in
    let call : Progress = record { given = c.call.inside.given; entry = c.call.inside.entry; share = c.call.inside.share } in
    let once : IsTrue c.wont_repeat.result = search rules in
    let may : IsTrue c.may_step.result = search rules in
    let after_answer = c.take_answer.ensures ∙ sym (ap (λ (y : Progress). record y { given = given_after op y.given event }) c.call.view_is) in
    let has = c.note.ensures.call ∙ ap (λ (y : Progress). noted watched y entry) after_answer in
    subst (λ (p : Progress). WritingTurn watched c.args.step.worker op p c.args.self.now.world c.args.step c.tell.result c.note.new.self c.step_on-report.new.world) c.call.view_is
    (hold_turn c.args.self.now.world c.step_on-report.new.world op watched call c.note.new.self c.args.step c.step_on-report.result.0 c.tell.result entry c.requires.writing (c.may_step.ensures.0 may) c.step_on-report.ensures.step c.step_on-report.ensures.appended (c.wont_repeat.ensures.0 once) has c.tell.ensures)

pub returns-clause-told : goal.returns-clause-told
returns-clause-told g c =
    let hold = step_tells nat_eq true c.args.step c.step_on-report.result.0 c.requires.call (c.args.self.now.world, c.step_on-report.new.world, c.step_on-report.ensures.step) in
    subst IsToldInCall (sym (ap (λ (r : Report _). r.outcome) c.tell.ensures)) (told_tells c.note.new.self.entry c.step_on-report.result.0.outcome hold)

pub returns-then-not-may_step-clause-turn : goal.returns-then-not-may_step-clause-turn
returns-then-not-may_step-clause-turn g c =
    let s = c.args.self.now.world in
    let who = c.args.step.worker in
    let why : MayStep s who c.args.op.now c.call.inside.given c.args.step.event → WontRepeat s who c.call.inside.entry → ⊥ = λ may once. elim c.then-not-may_step.branch [
      | then-not-may_step-via-then-not-may_step w ↦ (let no : c.may_step.result ≡ false = w.if-not-may_step.true in let yes : c.may_step.result ≡ true = c.may_step.ensures.1 may in false≢true (sym no ∙ yes))
      | then-not-may_step-via-else-not-may_step+then-not-wont_repeat w ↦ (let no : w.wont_repeat.result ≡ false = w.if-not-wont_repeat.true in let yes : w.wont_repeat.result ≡ true = w.wont_repeat.ensures.1 once in false≢true (sym no ∙ yes))
    ] in
    inr (record {
      holds = c.sound.ensures.holds;
      why = subst (λ (p : Progress). MayStep s who c.args.op.now p.given c.args.step.event → WontRepeat s who p.entry → ⊥) c.call.view_is why;
      same = refl;
      ends = c.stopped.ensures ∙ c.settled.ensures;
      stays = refl;
    })

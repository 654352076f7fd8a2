use Rattle.std.proofs.Common.{refl}
use Rattle.joint.proofs.lemmas.calls.Beside.{run_beside}
use Rattle.joint.proofs.lemmas.calls.CallScans.{fills}
use Rattle.joint.proofs.lemmas.calls.CallSurveys.{tells}
use Rattle.joint.proofs.lemmas.calls.KeyReplies.{answers}
use Rattle.joint.proofs.lemmas.calls.MapCalls.{called_plays}
use Rattle.joint.proofs.lemmas.calls.Running.{run_map}
use Rattle.joint.proofs.world.World.call.Goals as goal

pub returns-clause-scan : goal.returns-clause-scan
returns-clause-scan g c fs m st fl =
    let x = run_map g.P.Payload.same_as g.P.Payload.always_copies _ _ _ _ fs m c.sound.ensures.holds c.take_steps.ensures.run st fl in
    fills g.P.Payload.same_as _ fs m _ c.take_steps.ensures.reports _ _ _ _ refl (x.lines, x.flights, x.steps_are, x.reports_are, x.run) c.take_steps.ensures.goes c.take_steps.ensures.last c.take_steps.ensures.found

pub returns-clause-map : goal.returns-clause-map
returns-clause-map g c fs m st fl = called_plays g.P.Payload.same_as g.P.Payload.always_copies _ fs m _ _ c.sound.ensures.holds st fl _ _ _ _ _ c.take_steps.ensures

pub returns-clause-answers : goal.returns-clause-answers
returns-clause-answers g c fs m st fl e r asked told = answers g.P.Payload.same_as fs m _ r _ _ e _ asked told (returns-clause-map g c fs m st fl)

pub returns-clause-survey : goal.returns-clause-survey
returns-clause-survey g c fs m st fl =
    let x = run_map g.P.Payload.same_as g.P.Payload.always_copies _ _ _ _ fs m c.sound.ensures.holds c.take_steps.ensures.run st fl in
    tells g.P.Payload.same_as _ fs m _ c.take_steps.ensures.reports _ _ refl (x.lines, x.flights, x.steps_are, x.reports_are, x.run) c.take_steps.ensures.goes c.take_steps.ensures.last

pub returns-clause-beside : goal.returns-clause-beside
returns-clause-beside g c = run_beside g.P.Payload.same_as g.P.Payload.always_copies _ _ _ _ c.take_steps.ensures.run

pub returns-clause-alone : goal.returns-clause-alone
returns-clause-alone g c = c.runs_alone.ensures.calls _ _ _ _ _ _ _ _ c.sound.ensures.holds c.take_steps.ensures

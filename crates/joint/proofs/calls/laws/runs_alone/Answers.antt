use Rattle.joint.specs.Names.{root}
use Rattle.joint.proofs.lemmas.calls.Alone.{all_end_alone, ends_here}
use Rattle.joint.proofs.lemmas.calls.AloneCalls.{call_ends}
use Rattle.joint.proofs.calls.laws.runs_alone.Goals as goal

pub returns-clause-runs : goal.returns-clause-runs
returns-clause-runs g c = all_end_alone g.P.Payload.same_as g.P.Payload.always_copies c.call_laws.ensures c.progress.ensures (λ f i a h h'. c.alone.ensures.step f h h' i a) (λ h p. c.alone.ensures.begins h root p) c.alone.ensures.whole

pub returns-clause-calls : goal.returns-clause-calls
returns-clause-calls g c = call_ends g.P.Payload.same_as g.P.Payload.always_copies (ends_here g.P.Payload.same_as g.P.Payload.always_copies c.call_laws.ensures c.progress.ensures (λ f i a h h'. c.alone.ensures.step f h h' i a) (λ h p. c.alone.ensures.begins h root p) c.alone.ensures.whole)

use Rattle.joint.proofs.lemmas.calls.WorldSteps.{journal_replays}
use Rattle.joint.proofs.lemmas.world.RunJournals.{none_kept}
use Rattle.joint.proofs.lemmas.calls.Running.{run_journal, fresh_journal}
use Rattle.joint.proofs.calls.run_laws.runs_journal.Goals as goal

pub returns-clause-goes_on : goal.returns-clause-goes_on
returns-clause-goes_on g c = run_journal g.P.Payload.same_as g.P.Payload.always_copies

pub returns-clause-fresh : goal.returns-clause-fresh
returns-clause-fresh g c = fresh_journal g.P.Payload.same_as g.P.Payload.always_copies

pub returns-clause-replays : goal.returns-clause-replays
returns-clause-replays g c s m h p st = journal_replays g.P.Payload.same_as g.P.Payload.always_copies s h m p st

pub returns-clause-none : goal.returns-clause-none
returns-clause-none g c = none_kept g.P.Payload.same_as g.P.Payload.always_copies

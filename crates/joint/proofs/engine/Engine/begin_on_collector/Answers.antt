use Rattle.std.proofs.Common.{refl, ◌∙◌, ap}
use Rattle.joint.specs.engine.Log.{no_log}
use Rattle.joint.specs.engine.Engine.{collection}
use Rattle.joint.proofs.lemmas.engine.Proceeding.{begun_collecting}
use Rattle.joint.proofs.engine.Engine.begin_on_collector.Goals as goal

pub returns-clause-begun : goal.returns-clause-begun
returns-clause-begun g c =
    begun_collecting g.P.Payload.same_as g.P.Payload.always_copies (record { forest = c.args.self.now.nodes; machines = c.args.self.now.machines.items; calls = c.args.self.now.calls.items; log = no_log }) c.args.who c.requires.registered c.requires.idle c.progress.ensures c.requires.intact c.args.op c.begin_collecting-collector_report.result (record { forest = c.begin_collecting-collector_report.new.self.nodes; machines = c.begin_collecting-collector_report.new.self.machines.items; calls = c.begin_collecting-collector_report.new.self.calls.items; log = no_log }) c.begin_collecting-collector_report.ensures.collected c.requires.charged
    (ap (λ v. v.items) c.begin_collecting-collector_report.ensures.machines) c.begin_collecting-collector_report.ensures.calls refl c.collection.result (c.collection.ensures ∙ ap (collection c.begin_collecting-collector_report.result) c.of_collector.ensures)

pub returns-clause-charged : goal.returns-clause-charged
returns-clause-charged g c = c.begin_collecting-collector_report.ensures.collected.charged

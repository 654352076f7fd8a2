use Rattle.joint.proofs.lemmas.engine.CollectStep.{collected_beside}
use Rattle.joint.proofs.engine.Engine.collect.Goals as goal

pub returns-clause-collected : goal.returns-clause-collected
returns-clause-collected g c =
    collected_beside g.P.Payload.same_as g.P.Payload.always_copies c.cell_laws.ensures c.call_laws.ensures c.args.self.now.nodes c.collect.new.self c.args.self.now.machines.items c.args.who c.args.event c.collect.result c.requires.safe c.requires.rests
    c.collect.ensures.report c.collect.ensures.state c.collect.ensures.moves c.collect.ensures.told c.collect.ensures.beside c.collect.ensures.charged

use Rattle.std.proofs.Common.{◌∙◌, ap}
use Rattle.joint.specs.nodes.Nodes.{with_collector}
use Rattle.joint.proofs.lemmas.engine.HandOver.{never_refused, into_place, handed_safe}
use Rattle.joint.proofs.engine.Engine.hand_over.Goals as goal

pub unreachable-requires : goal.unreachable-requires
unreachable-requires g c = never_refused g.P.Payload.same_as g.P.Payload.always_copies c.cell_laws.ensures c.call_laws.ensures c.args.self.now.nodes c.args.self.now.machines.items c.args.who c.args.node c.charged.ensures.few c.requires c.in-Err.field-0 c.in-Err.ensures.fault

pub returns-clause-safe : goal.returns-clause-safe
returns-clause-safe g c =
    handed_safe g.P.Payload.same_as g.P.Payload.always_copies c.cell_laws.ensures c.call_laws.ensures c.args.self.now.nodes c.args.self.now.machines.items c.args.who c.args.node c.charged.ensures.few c.requires
    c.in-Ok.field-0 c.defer.new.self c.in-Ok.ensures.state c.in-Ok.ensures.ticket c.in-Ok.ensures.told

pub returns-clause-state : goal.returns-clause-state
returns-clause-state g c =
    c.in-Ok.ensures.state ∙ ap (with_collector c.args.self.now.nodes) (into_place g.P.Payload.same_as g.P.Payload.always_copies c.cell_laws.ensures c.call_laws.ensures c.args.self.now.nodes c.args.self.now.machines.items c.args.who c.args.node c.charged.ensures.few c.requires)

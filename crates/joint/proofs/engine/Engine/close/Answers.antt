use Rattle.std.proofs.Common.{◌∙◌, ap}
use Rattle.joint.specs.engine.Standing.{the_pairs}
use Rattle.joint.specs.nodes.Nodes.{nodes}
use Rattle.joint.proofs.lemmas.calls.Replied.{map_stands}
use Rattle.joint.proofs.lemmas.nodes.Closing.{registered_kept}
use Rattle.joint.proofs.lemmas.world.Standing.{intact_tree}
use Rattle.joint.proofs.engine.Engine.close.Goals as goal

pub drain-drainer-requires-clause-tree : goal.drain-drainer-requires-clause-tree
drain-drainer-requires-clause-tree g c = intact_tree g.P.Payload.same_as g.P.Payload.always_copies c.args.self.nodes c.args.self.machines.items c.args.self.calls.items c.requires.intact

pub release-requires : goal.release-requires
release-requires g c = registered_kept c.args.self.nodes c.drain-drainer.new.self c.drain-drainer.ensures.frame ∙ c.requires.no_worker

pub returns : goal.returns
returns g c = record {
  no_worker = c.requires.no_worker;
  drained = c.drain-drainer.ensures.drained;
  pairs = c.drain-drainer.ensures.drained (the_pairs (nodes c.args.self.nodes)) (map_stands (nodes c.args.self.nodes));
  charge_is = c.release.ensures.charge ∙ ap (λ s. s.base) c.drain-drainer.ensures.frame;
  limit_is = c.release.ensures.limit ∙ ap (λ s. s.limit) c.drain-drainer.ensures.frame;
}

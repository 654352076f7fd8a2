use Rattle.std.proofs.Common.{arith}
use Rattle.std.specs.List.{flat_map}
use Rattle.std.proofs.lemmas.List.{length-append}
use Rattle.joint.specs.nodes.Listing.{handed_nodes}
use Rattle.joint.specs.engine.Census.{taken_by}
use Rattle.joint.proofs.lemmas.calls.CensusSteps.{few_machines, taken_few}
use Rattle.joint.proofs.engine.Engine.waiting.Goals as goal

pub overflow_add-result : goal.overflow_add-result
overflow_add-result g c =
    let f = taken_few c.args.self.now.census c.args.self.now.nodes c.args.self.now.machines.items c.requires.counted (few_machines g.P.Payload.same_as g.P.Payload.always_copies c.args.self.now.nodes c.args.self.now.machines.items c.args.self.now.calls.items c.requires.intact) in
    omega (arith, f, c.handed.ensures.few)

pub returns : goal.returns
returns g c =
    let l = length-append (handed_nodes c.args.self.now.nodes) (flat_map taken_by c.args.self.now.machines.items) in
    omega (arith, l, c.requires.counted.taken, c.handed.ensures.value)

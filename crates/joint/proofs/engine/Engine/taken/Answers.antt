use Rattle.std.proofs.Common.{◌∷◌, ◌∙◌, ap, arith, length, map, refl, sym}
use Rattle.std.specs.List.{sum_by}
use Rattle.std.specs.Option.{option_to_list}
use Rattle.std.proofs.lemmas.List.{length-map}
use Rattle.std.proofs.lemmas.Option.{slice_get_read}
use Rattle.joint.specs.engine.Census.{taken_at}
use Rattle.joint.specs.nodes.Listing.{bytes_of}
use Rattle.joint.specs.nodes.View.{id_number}
use Rattle.joint.proofs.lemmas.world.Waiting.{both_stand, told_taken}
use Rattle.joint.proofs.engine.Engine.taken.Goals as goal

pub weighed-requires-clause-stands : goal.weighed-requires-clause-stands
weighed-requires-clause-stands g c = (both_stand g.P.Payload.same_as g.P.Payload.always_copies c.args.self.now.nodes c.args.self.now.machines.items c.args.self.now.calls.items c.requires.intact c.args.who c.index.result.now c.in-Some.node c.in-Some.next
    (slice_get_read c.args.self.now.machines.items (length c.args.self.now.machines.items) c.args.who c.index.result.now refl c.requires.inside c.index.ensures) (told_taken c.index.result.now.phase c.in-Some.node c.in-Some.next c.in-Some.ensures)).0

pub weighed-requires-clause-stand : goal.weighed-requires-clause-stand
weighed-requires-clause-stand g c = (both_stand g.P.Payload.same_as g.P.Payload.always_copies c.args.self.now.nodes c.args.self.now.machines.items c.args.self.now.calls.items c.requires.intact c.args.who c.index.result.now c.in-Some.node c.in-Some.next
    (slice_get_read c.args.self.now.machines.items (length c.args.self.now.machines.items) c.args.who c.index.result.now refl c.requires.inside c.index.ensures) (told_taken c.index.result.now.phase c.in-Some.node c.in-Some.next c.in-Some.ensures)).1

pub returns-in-Some-clause-nodes : goal.returns-in-Some-clause-nodes
returns-in-Some-clause-nodes g c = c.weighed.ensures.nodes ∙ sym (length-map (c.in-Some.node ∷ option_to_list c.in-Some.next) id_number) ∙ ap length (sym (ap taken_at (slice_get_read c.args.self.now.machines.items (length c.args.self.now.machines.items) c.args.who c.index.result.now refl c.requires.inside c.index.ensures) ∙ ap (map id_number) c.in-Some.ensures))

pub returns-in-Some-clause-bytes : goal.returns-in-Some-clause-bytes
returns-in-Some-clause-bytes g c = c.weighed.ensures.bytes ∙ ap (sum_by (bytes_of c.args.self.now.nodes)) (sym (ap taken_at (slice_get_read c.args.self.now.machines.items (length c.args.self.now.machines.items) c.args.who c.index.result.now refl c.requires.inside c.index.ensures) ∙ ap (map id_number) c.in-Some.ensures))

pub returns-in-None : goal.returns-in-None
returns-in-None g c =
    let none = ap taken_at (slice_get_read c.args.self.now.machines.items (length c.args.self.now.machines.items) c.args.who c.index.result.now refl c.requires.inside c.index.ensures) ∙ ap (map id_number) c.in-None.ensures in
    record {
      nodes = ap length (sym none);
      bytes = ap (sum_by (bytes_of c.args.self.now.nodes)) (sym none);
      few = omega arith;
      small = omega arith;
    }

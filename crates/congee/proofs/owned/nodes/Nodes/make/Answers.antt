use Rattle.std.proofs.Common.{ap, ◌<◌, length, arith}
use Rattle.congee.proofs.lemmas.owned.SlotComes.{comes_stored, comes_made}
use Rattle.congee.proofs.lemmas.owned.SlotOps.{spare_room, same_view_room}
use Rattle.congee.specs.forms.Forms.{prefix_of}
use Rattle.congee.proofs.owned.nodes.Nodes.make.Goals as goal

pub insert_reserved-slot-requires : goal.insert_reserved-slot-requires
insert_reserved-slot-requires g c = let r = spare_room c.self.inside.slab c.args.self.now c.self.view_is c.self.inside.inline c.self.invariant 1 c.requires.room in omega (arith, r)

pub invariant_of-self : goal.invariant_of-self
invariant_of-self g c =
    let short : length (prefix_of c.least.result) < 7 = (let p = ap length c.least.ensures.prefix in let q = c.requires.inner in omega (arith, p, q)) in
    comes_stored c.self.inside.slab c.insert_reserved-slot.new.self c.args.self.now c.self.view_is c.self.inside.inline c.self.invariant c.insert_reserved-slot.result c.least.result c.insert_reserved-slot.ensures.was_vacant c.insert_reserved-slot.ensures.updates c.least.ensures.children short c.insert_reserved-slot.ensures.capacity (spare_room c.self.inside.slab c.args.self.now c.self.view_is c.self.inside.inline c.self.invariant 1 c.requires.room)

pub returns : goal.returns
returns g c =
    let o = c.of.ensures in
    record {
      made = comes_made c.self.inside.slab c.insert_reserved-slot.new.self c.args.self.now c.self.view_is c.self.inside.inline c.self.invariant c.insert_reserved-slot.result c.least.result c.insert_reserved-slot.ensures.was_vacant c.insert_reserved-slot.ensures.updates c.least.ensures.children c.args.prefix.now c.least.ensures.form c.least.ensures.prefix c.of.result c.of.ensures;
      own = omega (arith, o);
      capacity = same_view_room c.self.inside.slab c.insert_reserved-slot.new.self c.args.self.now c.self.view_is c.insert_reserved-slot.ensures.capacity;
    }

use Rattle.std.proofs.Common.{rules, ◌≡◌, length, get_or, ap, ◌∙◌, arith}
use Rattle.std.proofs.lemmas.List.{length-take-le}
use Rattle.std.specs.FinMap as map
use Rattle.congee.specs.forms.Forms.{prefix_of}
use Rattle.congee.specs.declared.forms.child.Child.TheVariants.{Value}
use Rattle.congee.proofs.lemmas.owned.SlotComes.{leaf_comes_stored, leaf_comes_made, least_absent, least_room}
use Rattle.congee.proofs.lemmas.owned.SlotOps.{spare_room, same_view_room}
use Rattle.congee.proofs.owned.nodes.Nodes.make_leaf.Goals as goal

pub insert-requires : goal.insert-requires
insert-requires g c = (
  g.met.P.Stored.leaf_fits,
  (least_absent c.least-leaf.result (get_or c.args.key.now 7 0) c.least-leaf.ensures.children, least_room c.least-leaf.result c.least-leaf.ensures.form c.least-leaf.ensures.children),
)

pub insert_reserved-requires : goal.insert_reserved-requires
insert_reserved-requires g c = let r = spare_room c.self.inside.slab c.args.self.now c.self.view_is c.self.inside.inline c.self.invariant 1 c.requires.room in omega (arith, r)

pub invariant_of-self : goal.invariant_of-self
invariant_of-self g c =
    let whole : length c.args.key.now ≡ 8 = search rules in
    let seven : length (prefix_of c.insert.new.self) ≡ 7 = ap length (c.insert.ensures.prefix ∙ c.least-leaf.ensures.prefix) ∙ length-take-le 7 c.args.key.now (omega (arith, whole)) in
    leaf_comes_stored c.self.inside.slab c.insert_reserved.new.self c.args.self.now c.self.view_is c.self.inside.inline c.self.invariant c.insert_reserved.result c.insert.new.self c.insert_reserved.ensures.was_vacant c.insert_reserved.ensures.updates seven c.insert_reserved.ensures.capacity (spare_room c.self.inside.slab c.args.self.now c.self.view_is c.self.inside.inline c.self.invariant 1 c.requires.room)

pub returns : goal.returns
returns g c =
    let o = c.of.ensures in
    record {
      made = leaf_comes_made c.self.inside.slab c.insert_reserved.new.self c.args.self.now c.self.view_is c.self.inside.inline c.self.invariant c.insert_reserved.result c.insert.new.self c.insert_reserved.ensures.was_vacant c.insert_reserved.ensures.updates c.args.key.now c.args.value (c.insert.ensures.form ∙ c.least-leaf.ensures.form) (c.insert.ensures.prefix ∙ c.least-leaf.ensures.prefix) (c.insert.ensures.children ∙ ap (λ m. map.insert m (get_or c.args.key.now 7 0) (Value c.args.value)) c.least-leaf.ensures.children) c.of.result c.of.ensures;
      own = omega (arith, o);
      capacity = same_view_room c.self.inside.slab c.insert_reserved.new.self c.args.self.now c.self.view_is c.insert_reserved.ensures.capacity;
    }

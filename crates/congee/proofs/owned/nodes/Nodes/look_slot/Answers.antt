use Rattle.std.proofs.Common.{rules, sym, ap, ◌∙◌, ◌<◌, ◌*◌, get_or}
use Rattle.std.specs.Prelude.{Some}
use Rattle.std.specs.Option.{option_map}
use Rattle.congee.specs.Heap.{Below, fits}
use Rattle.congee.specs.owned.Entries.{child_there, lone_seen}
use Rattle.congee.specs.owned.Arena.{heap_of}
use Rattle.congee.specs.declared.forms.child.Child.TheVariants.{Blank, Node as Sub, Value}
use Rattle.congee.proofs.lemmas.owned.Ways.{below_stands, no_blank}
use Rattle.congee.proofs.lemmas.owned.Stored.{slot_there, inner_nothing, inner_leads, inline_fits, leaf_nothing, leaf_holds, leads_below}
use Rattle.congee.proofs.owned.nodes.Nodes.look_slot.Goals as goal

pub index-requires : goal.index-requires
index-requires g c = slot_there c.self.inside.slab c.args.slot (rw c.self.view_is c.requires.stands)

pub unreachable-requires : goal.unreachable-requires
unreachable-requires g c = no_blank c.args.self.now c.requires.tree c.args.key.now (257 * c.args.slot) c.requires.stands (inner_leads c.self.inside.slab c.args.self.now c.self.view_is c.args.slot c.index.result.now c.args.key.now c.index.ensures c.in-Inner.n c.in-Inner.is c.prefix_len.result c.prefix_len.ensures.count (option_map child_there c.get_child.result) c.get_child.ensures.child Blank (ap (option_map child_there) (c.in-Some-Blank.is ∙ ap Some c.in-Some-Blank.field-0-is)))

pub way_below-requires : goal.way_below-requires
way_below-requires g c = below_stands c.args.self.now c.requires.tree (257 * c.args.slot) (257 * c.in-Some-Node.below) c.args.key.now c.requires.stands (inner_leads c.self.inside.slab c.args.self.now c.self.view_is c.args.slot c.index.result.now c.args.key.now c.index.ensures c.in-Inner.n c.in-Inner.is c.prefix_len.result c.prefix_len.ensures.count (option_map child_there c.get_child.result) c.get_child.ensures.child (Sub c.in-Some-Node.below) (ap (option_map child_there) (c.in-Some-Node.is ∙ ap Some c.in-Some-Node.field-0-is)))

pub returns-in-None : goal.returns-in-None
returns-in-None g c = inner_nothing c.self.inside.slab c.args.self.now c.self.view_is c.args.slot c.index.result.now c.args.key.now c.index.ensures c.in-Inner.n c.in-Inner.is c.prefix_len.result c.prefix_len.ensures.count (option_map child_there c.get_child.result) c.get_child.ensures.child (ap (option_map child_there) c.in-None.is)

pub returns-in-Some-Node : goal.returns-in-Some-Node
returns-in-Some-Node g c = leads_below c.args.self.now c.args.key.now (257 * c.args.slot) (257 * c.in-Some-Node.below) c.way_below.result (inner_leads c.self.inside.slab c.args.self.now c.self.view_is c.args.slot c.index.result.now c.args.key.now c.index.ensures c.in-Inner.n c.in-Inner.is c.prefix_len.result c.prefix_len.ensures.count (option_map child_there c.get_child.result) c.get_child.ensures.child (Sub c.in-Some-Node.below) (ap (option_map child_there) (c.in-Some-Node.is ∙ ap Some c.in-Some-Node.field-0-is))) c.way_below.ensures

pub returns-then-leads : goal.returns-then-leads
returns-then-leads g c =
    let small : get_or c.args.key.now c.prefix_len.result 0 < 256 = search rules in (
      inner_leads c.self.inside.slab c.args.self.now c.self.view_is c.args.slot c.index.result.now c.args.key.now c.index.ensures c.in-Inner.n c.in-Inner.is c.prefix_len.result c.prefix_len.ensures.count (option_map child_there c.get_child.result) c.get_child.ensures.child (Value (lone_seen c.in-Some-Leaf.lone)) (ap (option_map child_there) (c.in-Some-Leaf.is ∙ ap Some c.in-Some-Leaf.field-0-is)) ∙ ap Below (sym c.inline-name.ensures),
      ap (λ n. fits (heap_of c.args.self.now n).prefix c.args.key.now) c.inline-name.ensures ∙ (inline_fits c.self.inside.slab c.args.self.now c.self.view_is c.args.slot c.index.result.now c.args.key.now c.index.ensures c.in-Inner.n c.in-Inner.is c.prefix_len.result c.prefix_len.ensures.count (option_map child_there c.get_child.result) c.get_child.ensures.child (lone_seen c.in-Some-Leaf.lone) small (ap (option_map child_there) (c.in-Some-Leaf.is ∙ ap Some c.in-Some-Leaf.field-0-is)) ∙ (sym c.leads.ensures ∙ c.if-leads.true)),
    )

pub returns-else-leads : goal.returns-else-leads
returns-else-leads g c =
    let small : get_or c.args.key.now c.prefix_len.result 0 < 256 = search rules in (
      inner_leads c.self.inside.slab c.args.self.now c.self.view_is c.args.slot c.index.result.now c.args.key.now c.index.ensures c.in-Inner.n c.in-Inner.is c.prefix_len.result c.prefix_len.ensures.count (option_map child_there c.get_child.result) c.get_child.ensures.child (Value (lone_seen c.in-Some-Leaf.lone)) (ap (option_map child_there) (c.in-Some-Leaf.is ∙ ap Some c.in-Some-Leaf.field-0-is)) ∙ ap Below (sym c.inline-name.ensures),
      ap (λ n. fits (heap_of c.args.self.now n).prefix c.args.key.now) c.inline-name.ensures ∙ (inline_fits c.self.inside.slab c.args.self.now c.self.view_is c.args.slot c.index.result.now c.args.key.now c.index.ensures c.in-Inner.n c.in-Inner.is c.prefix_len.result c.prefix_len.ensures.count (option_map child_there c.get_child.result) c.get_child.ensures.child (lone_seen c.in-Some-Leaf.lone) small (ap (option_map child_there) (c.in-Some-Leaf.is ∙ ap Some c.in-Some-Leaf.field-0-is)) ∙ (sym c.leads.ensures ∙ c.if-leads.false)),
    )

pub returns-in-None-get_child : goal.returns-in-None-get_child
returns-in-None-get_child g c = leaf_nothing c.self.inside.slab c.args.self.now c.self.view_is c.args.slot c.index.result.now c.args.key.now c.index.ensures c.in-Leaf.n c.in-Leaf.is c.prefix_len-in-Leaf.result c.prefix_len-in-Leaf.ensures.count c.get_child-in-Leaf.result c.get_child-in-Leaf.ensures c.in-None-get_child.is

pub returns-in-Some : goal.returns-in-Some
returns-in-Some g c = leaf_holds c.self.inside.slab c.args.self.now c.self.view_is c.args.slot c.index.result.now c.args.key.now c.index.ensures c.in-Leaf.n c.in-Leaf.is c.prefix_len-in-Leaf.result c.prefix_len-in-Leaf.ensures.count c.get_child-in-Leaf.result c.get_child-in-Leaf.ensures c.in-Some.value c.in-Some.is

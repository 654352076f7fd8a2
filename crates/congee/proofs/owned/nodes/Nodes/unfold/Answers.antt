use Rattle.std.proofs.Common.{rules, ◌<◌, arith}
use Rattle.congee.proofs.lemmas.owned.SlotOps.{has_slot}
use Rattle.congee.proofs.lemmas.owned.Unfolds.{fits_room, inline_value, lost_room, unfold_absent, unfold_inner, unfold_keeps, unfold_one, unfold_renames, unfold_room, unfold_stands}
use Rattle.congee.specs.owned.Entries.{lone_seen}
use Rattle.congee.proofs.owned.nodes.Nodes.unfold.Goals as goal

pub index-parent-requires : goal.index-parent-requires
index-parent-requires g c = has_slot c.self.inside.slab c.args.self.now c.self.view_is c.self.inside.inline c.self.invariant c.args.at c.at.inside.slot c.at.inside.byte c.at.view_is c.at.invariant c.requires.stands c.requires.inner

pub lone-requires : goal.lone-requires
lone-requires g c =
    let low : c.args.byte < 256 = search rules in (
      g.met.P.Stored.fits,
      inline_value c.self.inside.slab c.args.self.now c.self.view_is c.self.inside.inline c.self.invariant c.args.at c.at.inside.slot c.at.inside.byte c.at.view_is c.at.invariant c.requires.stands c.requires.inner c.args.byte low c.requires.present c.index-parent.result.now c.index-parent.ensures,
    )

pub make_leaf-leaf-requires : goal.make_leaf-leaf-requires
make_leaf-leaf-requires g c =
    let room = fits_room c.self.inside.slab c.args.self.now c.self.view_is c.self.inside.inline c.self.invariant in
    record { room = lost_room c.args.self.now c.unhang_leaf-value.new.self c.args.at c.args.byte c.unhang_leaf-value.result c.requires.stands c.unhang_leaf-value.ensures.takes room c.unhang_leaf-value.ensures.capacity }

pub hang_node-requires-clause-stands : goal.hang_node-requires-clause-stands
hang_node-requires-clause-stands g c =
    let low : c.args.byte < 256 = search rules in
    unfold_stands c.self.inside.slab c.args.self.now c.self.view_is c.self.inside.inline c.self.invariant c.args.at c.at.inside.slot c.at.inside.byte c.at.view_is c.at.invariant c.requires.stands c.requires.inner c.args.byte low c.requires.present c.index-parent.result.now c.index-parent.ensures (lone_seen c.lone.result) c.lone.ensures.leaf c.unhang_leaf-value.new.self c.make_leaf-leaf.new.self c.unhang_leaf-value.result c.make_leaf-leaf.result c.unhang_leaf-value.ensures.takes c.make_leaf-leaf.ensures.made

pub hang_node-requires-clause-inner : goal.hang_node-requires-clause-inner
hang_node-requires-clause-inner g c =
    let low : c.args.byte < 256 = search rules in
    unfold_inner c.self.inside.slab c.args.self.now c.self.view_is c.self.inside.inline c.self.invariant c.args.at c.at.inside.slot c.at.inside.byte c.at.view_is c.at.invariant c.requires.stands c.requires.inner c.args.byte low c.requires.present c.index-parent.result.now c.index-parent.ensures (lone_seen c.lone.result) c.lone.ensures.leaf c.unhang_leaf-value.new.self c.make_leaf-leaf.new.self c.unhang_leaf-value.result c.make_leaf-leaf.result c.unhang_leaf-value.ensures.takes c.make_leaf-leaf.ensures.made

pub hang_node-requires-clause-absent : goal.hang_node-requires-clause-absent
hang_node-requires-clause-absent g c =
    let low : c.args.byte < 256 = search rules in
    unfold_absent c.self.inside.slab c.args.self.now c.self.view_is c.self.inside.inline c.self.invariant c.args.at c.at.inside.slot c.at.inside.byte c.at.view_is c.at.invariant c.requires.stands c.requires.inner c.args.byte low c.requires.present c.index-parent.result.now c.index-parent.ensures (lone_seen c.lone.result) c.lone.ensures.leaf c.unhang_leaf-value.new.self c.make_leaf-leaf.new.self c.unhang_leaf-value.result c.make_leaf-leaf.result c.unhang_leaf-value.ensures.takes c.make_leaf-leaf.ensures.made

pub hang_node-requires-clause-room : goal.hang_node-requires-clause-room
hang_node-requires-clause-room g c = λ z h.
    let low : c.args.byte < 256 = search rules in
    let n = c.len.ensures.count in let fit = c.len.ensures.fits in
    unfold_room c.self.inside.slab c.args.self.now c.self.view_is c.self.inside.inline c.self.invariant c.args.at c.at.inside.slot c.at.inside.byte c.at.view_is c.at.invariant c.requires.stands c.requires.inner c.args.byte low c.requires.present c.index-parent.result.now c.index-parent.ensures (lone_seen c.lone.result) c.lone.ensures.leaf c.unhang_leaf-value.new.self c.make_leaf-leaf.new.self c.unhang_leaf-value.result c.make_leaf-leaf.result c.unhang_leaf-value.ensures.takes c.make_leaf-leaf.ensures.made z h (omega (arith, n, fit))

pub returns-clause-renames : goal.returns-clause-renames
returns-clause-renames g c =
    let low : c.args.byte < 256 = search rules in
    unfold_renames c.self.inside.slab c.args.self.now c.self.view_is c.self.inside.inline c.self.invariant c.args.at c.at.inside.slot c.at.inside.byte c.at.view_is c.at.invariant c.requires.stands c.requires.inner c.args.byte low c.requires.present c.index-parent.result.now c.index-parent.ensures (lone_seen c.lone.result) c.lone.ensures.leaf c.unhang_leaf-value.new.self c.make_leaf-leaf.new.self c.unhang_leaf-value.result c.make_leaf-leaf.result c.unhang_leaf-value.ensures.takes c.make_leaf-leaf.ensures.made c.hang_node.new.self c.make_leaf-leaf.ensures.own c.hang_node.ensures.hangs

pub returns-clause-lone : goal.returns-clause-lone
returns-clause-lone g c =
    let low : c.args.byte < 256 = search rules in
    unfold_one c.self.inside.slab c.args.self.now c.self.view_is c.self.inside.inline c.self.invariant c.args.at c.at.inside.slot c.at.inside.byte c.at.view_is c.at.invariant c.requires.stands c.requires.inner c.args.byte low c.requires.present c.index-parent.result.now c.index-parent.ensures (lone_seen c.lone.result) c.lone.ensures.leaf c.unhang_leaf-value.new.self c.make_leaf-leaf.new.self c.unhang_leaf-value.result c.make_leaf-leaf.result c.unhang_leaf-value.ensures.takes c.make_leaf-leaf.ensures.made c.hang_node.new.self c.make_leaf-leaf.ensures.own c.hang_node.ensures.hangs

pub returns-clause-keeps : goal.returns-clause-keeps
returns-clause-keeps g c =
    let low : c.args.byte < 256 = search rules in
    unfold_keeps c.self.inside.slab c.args.self.now c.self.view_is c.self.inside.inline c.self.invariant c.args.at c.at.inside.slot c.at.inside.byte c.at.view_is c.at.invariant c.requires.stands c.requires.inner c.args.byte low c.requires.present c.index-parent.result.now c.index-parent.ensures (lone_seen c.lone.result) c.lone.ensures.leaf c.unhang_leaf-value.new.self c.make_leaf-leaf.new.self c.unhang_leaf-value.result c.make_leaf-leaf.result c.unhang_leaf-value.ensures.takes c.make_leaf-leaf.ensures.made c.hang_node.new.self c.make_leaf-leaf.ensures.own c.hang_node.ensures.hangs c.unhang_leaf-value.ensures.capacity c.make_leaf-leaf.ensures.capacity c.hang_node.ensures.capacity

use Rattle.std.proofs.Common.{rules, ℕ, suc, List, ◌<◌, ◌-◌, ◌∙◌, length, refl, sym, ap, subst, arith}
use Rattle.congee.specs.Heap.{Node}
use Rattle.congee.specs.protocol.Regions.{IsRegion}
use Rattle.joint.specs.nodes.Nodes.{nodes}
use Rattle.joint.specs.nodes.View.{id_number}
use Rattle.joint.proofs.lemmas.nodes.LastWalks.{last_in, last_begun, last_passed, last_below_found, last_value_found, last_ended}
use Rattle.joint.proofs.nodes.Nodes.+last_below.Goals as goal

pub loop-byte-init : goal.loop-byte-init
loop-byte-init g t c =
    let P : List ℕ → Type 0 = λ p. IsRegion p c.of-region.result.base c.of-region.result.depth in
    last_begun (nodes c.args.self.now) (id_number c.args.at) c.of-region.result (suc c.args.last) c.end_byte-end.result (subst P (c.prefix.ensures.bytes ∙ ap (λ (z : Node _). z.prefix) (c.node-node.ensures.shape ∙ sym c.slot.ensures.node)) c.of-region.ensures) c.end_byte-end.ensures.few c.end_byte-end.ensures.ends

pub last_below-requires : goal.last_below-requires
last_below-requires g t c κs within =
    let h = nodes c.args.self.now in
    let below = last_in (nodes c.args.self.now) (id_number c.args.at) c.requires c.of-region.result (suc c.args.last) c.loop-byte.end c.loop-byte.invariant c.node-node.result.now c.slot.result.now.word (c.node-node.ensures.shape ∙ sym c.slot.ensures.node) c.in-Some.byte c.in-Some.child.now c.in-Some.ensures c.in-Node.below c.in-Node.is in
    let smaller : 8 - length (h (id_number c.in-Node.below)).prefix < 8 - length (h (id_number c.args.at)).prefix = omega (arith, below.1, below.2) in
    (search rules, (within.0, (within.1, below.0)))

pub returns-in-Some-last_below : goal.returns-in-Some-last_below
returns-in-Some-last_below g t c = last_below_found (nodes c.args.self.now) (id_number c.args.at) c.requires c.of-region.result (suc c.args.last) c.loop-byte.end c.loop-byte.invariant c.node-node.result.now c.slot.result.now.word (c.node-node.ensures.shape ∙ sym c.slot.ensures.node) c.in-Some.byte c.in-Some.child.now c.in-Some.ensures c.in-Node.below c.in-Node.is _ c.in-Some-last_below.ensures _ refl

pub returns-then-key-last : goal.returns-then-key-last
returns-then-key-last g t c = last_value_found (nodes c.args.self.now) (id_number c.args.at) c.requires c.of-region.result (suc c.args.last) c.loop-byte.end c.loop-byte.invariant c.node-node.result.now c.slot.result.now.word (c.node-node.ensures.shape ∙ sym c.slot.ensures.node) c.in-Some.byte c.in-Some.child.now c.in-Some.ensures _ c.in-Value.is c.first_under-key.result c.first_under-key.ensures (omega (arith, c.if-key-last.true))

pub loop-byte-preserved-in_default-last_below : goal.loop-byte-preserved-in_default-last_below
loop-byte-preserved-in_default-last_below g t c = last_passed (nodes c.args.self.now) (id_number c.args.at) c.requires c.of-region.result (suc c.args.last) c.loop-byte.end c.loop-byte.invariant c.node-node.result.now c.slot.result.now.word (c.node-node.ensures.shape ∙ sym c.slot.ensures.node) c.in-Some.byte c.in-Some.child.now c.in-Some.ensures c.in-Node.below c.in-Node.is _ c.in_default-last_below.ensures refl

pub returns : goal.returns
returns g t c = last_ended (nodes c.args.self.now) (id_number c.args.at) c.requires c.of-region.result (suc c.args.last) c.loop-byte.end c.loop-byte.invariant c.node-node.result.now c.slot.result.now.word (c.node-node.ensures.shape ∙ sym c.slot.ensures.node) c.in_default.ensures

use Rattle.std.proofs.Common.{rules, ℕ, List, ◌<◌, ◌-◌, ◌∙◌, length, refl, sym, ap, subst, arith}
use Rattle.congee.specs.Heap.{Node}
use Rattle.congee.specs.protocol.Regions.{IsRegion}
use Rattle.joint.specs.nodes.Nodes.{nodes}
use Rattle.joint.specs.nodes.View.{id_number}
use Rattle.joint.proofs.lemmas.nodes.FirstWalks.{first_in, first_begun, first_passed, first_below_found, first_lesser, first_value_found, first_ended}
use Rattle.joint.proofs.nodes.Nodes.+first_below.Goals as goal

pub loop-byte-init : goal.loop-byte-init
loop-byte-init g t c =
    let P : List ℕ → Type 0 = λ p. IsRegion p c.of-region.result.base c.of-region.result.depth in
    first_begun (nodes c.args.self.now) (id_number c.args.at) c.of-region.result c.args.from c.first_byte-start.result (subst P (c.prefix.ensures.bytes ∙ ap (λ (z : Node _). z.prefix) (c.node-node.ensures.shape ∙ sym c.slot.ensures.node)) c.of-region.ensures) c.first_byte-start.ensures.few c.first_byte-start.ensures.starts

pub first_below-requires : goal.first_below-requires
first_below-requires g t c κs within =
    let h = nodes c.args.self.now in
    let below = first_in (nodes c.args.self.now) (id_number c.args.at) c.requires c.of-region.result c.args.from c.loop-byte.start c.loop-byte.invariant c.node-node.result.now c.slot.result.now.word (c.node-node.ensures.shape ∙ sym c.slot.ensures.node) c.in-Some.byte c.in-Some.child.now c.in-Some.ensures c.in-Node.below c.in-Node.is in
    let smaller : 8 - length (h (id_number c.in-Node.below)).prefix < 8 - length (h (id_number c.args.at)).prefix = omega (arith, below.1, below.2) in
    (search rules, (within.0, (within.1, below.0)))

pub returns-in-Some-first_below : goal.returns-in-Some-first_below
returns-in-Some-first_below g t c = first_below_found (nodes c.args.self.now) (id_number c.args.at) c.requires c.of-region.result c.args.from c.loop-byte.start c.loop-byte.invariant c.node-node.result.now c.slot.result.now.word (c.node-node.ensures.shape ∙ sym c.slot.ensures.node) c.in-Some.byte c.in-Some.child.now c.in-Some.ensures (omega arith) c.in-Node.below c.in-Node.is _ c.in-Some-first_below.ensures _ refl

pub returns-then-key-from : goal.returns-then-key-from
returns-then-key-from g t c = first_value_found (nodes c.args.self.now) (id_number c.args.at) c.requires c.of-region.result c.args.from c.loop-byte.start c.loop-byte.invariant c.node-node.result.now c.slot.result.now.word (c.node-node.ensures.shape ∙ sym c.slot.ensures.node) c.in-Some.byte c.in-Some.child.now c.in-Some.ensures (omega arith) _ c.in-Value.is c.first_under-key.result c.first_under-key.ensures (omega (arith, c.if-key-from.true))

pub loop-byte-preserved-in_default-first_below : goal.loop-byte-preserved-in_default-first_below
loop-byte-preserved-in_default-first_below g t c = first_passed (nodes c.args.self.now) (id_number c.args.at) c.requires c.of-region.result c.args.from c.loop-byte.start c.loop-byte.invariant c.node-node.result.now c.slot.result.now.word (c.node-node.ensures.shape ∙ sym c.slot.ensures.node) c.in-Some.byte c.in-Some.child.now c.in-Some.ensures (omega arith) c.in-Node.below c.in-Node.is _ c.in_default-first_below.ensures refl

pub loop-byte-preserved : goal.loop-byte-preserved
loop-byte-preserved g t c = first_lesser (nodes c.args.self.now) (id_number c.args.at) c.requires c.of-region.result c.args.from c.loop-byte.start c.loop-byte.invariant c.node-node.result.now c.slot.result.now.word (c.node-node.ensures.shape ∙ sym c.slot.ensures.node) c.in-Some.byte c.in-Some.child.now c.in-Some.ensures (omega arith) _ c.in-Value.is c.first_under-key.result c.first_under-key.ensures (omega (arith, c.if-key-from.false))

pub returns : goal.returns
returns g t c = first_ended (nodes c.args.self.now) (id_number c.args.at) c.requires c.of-region.result c.args.from c.loop-byte.start c.loop-byte.invariant c.node-node.result.now c.slot.result.now.word (c.node-node.ensures.shape ∙ sym c.slot.ensures.node) c.in_default.ensures

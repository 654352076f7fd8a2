use Rattle.std.proofs.Common.{rules, ℕ, List, ◌+◌, ◌<◌, ◌-◌, ◌∙◌, length, sym, ap, subst, arith}
use Rattle.joint.specs.nodes.Nodes.{nodes}
use Rattle.joint.specs.nodes.View.{id_number}
use Rattle.joint.proofs.lemmas.nodes.KeyWalks.{PutSoFar, below_in, keys_put, put_below, put_key, put_none}
use Rattle.joint.proofs.nodes.Nodes.+keys_below.Goals as goal
use Rattle.joint.proofs.nodes.Nodes.+keys_below.Goals.{in-Blank, in-Node+in_ok-keys_below-in-Node, in-Value+in_ok-push-in-Value}

pub keys_below-requires : goal.keys_below-requires
keys_below-requires g t c κs within =
    let h = nodes c.args.self.now in
    let below = below_in (nodes c.args.self.now) (id_number c.args.at) c.requires c.of-region.result c.loop-byte.invariant.region c.node-node.result.now c.slot.result.now.word (c.node-node.ensures.shape ∙ sym c.slot.ensures.node) c.loop-byte.from c.in-Some.byte c.in-Some.child.now c.in-Some.ensures c.in-Node.below c.in-Node.is in
    let smaller : 8 - length (h (id_number c.in-Node.below)).prefix < 8 - length (h (id_number c.args.at)).prefix = omega (arith, below.1, below.2) in
    (search rules, (within.0, (within.1, below.0)))

pub loop-byte-preserved : goal.loop-byte-preserved
loop-byte-preserved g t c =
    let So : List ℕ → Type 0 = λ ks. PutSoFar (nodes c.args.self.now) (id_number c.args.at) c.of-region.result (c.in-Some.byte + 1) c.args.keys.now.items ks in
    elim c.match-child.branch [
      | in-Blank w ↦ subst So (sym (ap (λ v. v.items) w.keys-is)) (put_none (nodes c.args.self.now) (id_number c.args.at) c.requires c.of-region.result c.loop-byte.invariant.region c.node-node.result.now c.slot.result.now.word (c.node-node.ensures.shape ∙ sym c.slot.ensures.node) c.loop-byte.from c.in-Some.byte c.in-Some.child.now c.in-Some.ensures (omega arith) c.args.keys.now.items c.loop-byte.keys.items c.loop-byte.invariant w.in-Blank.is)
      | in-Node+in_ok-keys_below-in-Node w ↦ subst So (sym (ap (λ v. v.items) w.keys-is)) (put_below (nodes c.args.self.now) (id_number c.args.at) c.requires c.of-region.result c.loop-byte.invariant.region c.node-node.result.now c.slot.result.now.word (c.node-node.ensures.shape ∙ sym c.slot.ensures.node) c.loop-byte.from c.in-Some.byte c.in-Some.child.now c.in-Some.ensures (omega arith) c.args.keys.now.items c.loop-byte.keys.items c.loop-byte.invariant w.in-Node.below w.keys_below.new.keys.items w.in-Node.is w.in_ok-keys_below-in-Node.ensures)
      | in-Value+in_ok-push-in-Value w ↦ subst So (sym (ap (λ v. v.items) w.keys-is ∙ w.in_ok-push-in-Value.ensures.items)) (put_key (nodes c.args.self.now) (id_number c.args.at) c.requires c.of-region.result c.loop-byte.invariant.region c.node-node.result.now c.slot.result.now.word (c.node-node.ensures.shape ∙ sym c.slot.ensures.node) c.loop-byte.from c.in-Some.byte c.in-Some.child.now c.in-Some.ensures (omega arith) c.args.keys.now.items c.loop-byte.keys.items c.loop-byte.invariant _ w.first_under.result w.in-Value.is w.first_under.ensures)
    ]

pub returns : goal.returns
returns g t c = keys_put (nodes c.args.self.now) (id_number c.args.at) c.requires c.of-region.result c.loop-byte.invariant.region c.node-node.result.now c.slot.result.now.word (c.node-node.ensures.shape ∙ sym c.slot.ensures.node) c.loop-byte.from c.args.keys.now.items c.loop-byte.keys.items c.loop-byte.invariant c.in_default.ensures

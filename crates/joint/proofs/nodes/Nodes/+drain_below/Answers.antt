use Rattle.std.proofs.Common.{rules, ◌+◌, ◌<◌, ◌-◌, ◌∙◌, length, refl, sym, ap, subst, arith}
use Rattle.congee.specs.Heap.{Node}
use Rattle.congee.specs.protocol.Regions.{IsRegion}
use Rattle.joint.specs.nodes.Nodes.{Nodes, frame, nodes}
use Rattle.joint.specs.nodes.View.{id_number}
use Rattle.joint.proofs.lemmas.nodes.DrainWalks.{TakenSoFar, drain_begun, below_in, drain_ended, holds, node_in, went_below, went_blank, went_value}
use Rattle.joint.proofs.nodes.Nodes.+drain_below.Goals as goal
use Rattle.joint.proofs.nodes.Nodes.+drain_below.Goals.{in-Blank, in-Node, in-Value}

pub loop-byte-init : goal.loop-byte-init
loop-byte-init g t c =
    let same = c.prefix.ensures.bytes ∙ ap (λ (z : Node g.row.P.Denot). z.prefix) (c.node.ensures.shape ∙ sym c.slot.ensures.node) in
    record {
      node = c.requires.node;
      ready = c.requires.ready;
      frame_is = refl;
      so = drain_begun g.D.Drainer.drains (nodes c.args.self.now) (id_number c.args.at) c.requires.node c.of-region.result c.args.drainer.now (subst (λ p. IsRegion p c.of-region.result.base c.of-region.result.depth) same c.of-region.ensures);
    }

pub slot-requires-in-loop-byte : goal.slot-requires-in-loop-byte
slot-requires-in-loop-byte g t c = c.loop-byte.invariant.node.tree.stands (id_number c.args.at) c.loop-byte.invariant.node.linked

pub drain_below-requires : goal.drain_below-requires
drain_below-requires g t c κs within =
    let below = below_in g.D.Drainer.drains (nodes c.args.self.now) (id_number c.args.at) c.requires.node c.of-region.result c.args.drainer.now c.loop-byte.from (nodes c.loop-byte.self) c.loop-byte.drainer c.loop-byte.invariant.so c.node-in-loop-byte.result.now c.slot-in-loop-byte.result.now.word (c.node-in-loop-byte.ensures.shape ∙ sym c.slot-in-loop-byte.ensures.node) c.in-Some.byte c.in-Some.child.now c.in-Some.ensures c.in-Node.below c.in-Node.is in
    let smaller : 8 - length (nodes c.loop-byte.self (id_number c.in-Node.below)).prefix < 8 - length (nodes c.args.self.now (id_number c.args.at)).prefix = omega (arith, below.1, below.2) in
    (search rules, (within.0, (within.1.0, (within.1.1, (below.0, c.loop-byte.invariant.ready)))))

pub pull-value-requires-clause-holds : goal.pull-value-requires-clause-holds
pull-value-requires-clause-holds g t c = (c.in-Value.field-0, holds g.D.Drainer.drains (nodes c.args.self.now) (id_number c.args.at) c.requires.node c.of-region.result c.args.drainer.now c.loop-byte.from (nodes c.loop-byte.self) c.loop-byte.drainer c.loop-byte.invariant.so c.node-in-loop-byte.result.now c.slot-in-loop-byte.result.now.word (c.node-in-loop-byte.ensures.shape ∙ sym c.slot-in-loop-byte.ensures.node) c.in-Some.byte c.in-Some.child.now c.in-Some.ensures c.in-Value.field-0 c.in-Value.is)

pub loop-byte-preserved : goal.loop-byte-preserved
loop-byte-preserved g t c =
    let So : Nodes g.row.P.Denot → g.row.D.Denot → Type 0 = λ s d. TakenSoFar g.D.Drainer.drains (nodes c.args.self.now) (id_number c.args.at) c.of-region.result (c.in-Some.byte + 1) c.args.drainer.now (nodes s) d in
    let stays = node_in g.D.Drainer.drains (nodes c.args.self.now) (id_number c.args.at) c.requires.node c.of-region.result c.args.drainer.now (c.in-Some.byte + 1) (nodes c.match-child.self) c.match-child.drainer in
    elim c.match-child.branch [
      | in-Blank w ↦ (
          let so : So c.match-child.self c.match-child.drainer = subst (λ s. So s c.match-child.drainer) (sym w.self-is) (subst (λ d. So c.loop-byte.self d) (sym w.drainer-is) (went_blank g.D.Drainer.drains (nodes c.args.self.now) (id_number c.args.at) c.requires.node c.of-region.result c.args.drainer.now c.loop-byte.from (nodes c.loop-byte.self) c.loop-byte.drainer c.loop-byte.invariant.so c.node-in-loop-byte.result.now c.slot-in-loop-byte.result.now.word (c.node-in-loop-byte.ensures.shape ∙ sym c.slot-in-loop-byte.ensures.node) c.in-Some.byte c.in-Some.child.now c.in-Some.ensures (omega arith) w.in-Blank.is)) in
          record {
            node = stays so;
            ready = subst g.D.Drainer.can_drain (sym w.drainer-is) c.loop-byte.invariant.ready;
            frame_is = ap frame w.self-is ∙ c.loop-byte.invariant.frame_is;
            so = so;
          })
      | in-Node w ↦ (
          let so : So c.match-child.self c.match-child.drainer = subst (λ s. So s c.match-child.drainer) (sym w.self-is) (subst (λ d. So w.drain_below.new.self d) (sym w.drainer-is) (went_below g.D.Drainer.drains (nodes c.args.self.now) (id_number c.args.at) c.requires.node c.of-region.result c.args.drainer.now c.loop-byte.from (nodes c.loop-byte.self) c.loop-byte.drainer c.loop-byte.invariant.so c.node-in-loop-byte.result.now c.slot-in-loop-byte.result.now.word (c.node-in-loop-byte.ensures.shape ∙ sym c.slot-in-loop-byte.ensures.node) c.in-Some.byte c.in-Some.child.now c.in-Some.ensures (omega arith) w.in-Node.below w.in-Node.is (nodes w.drain_below.new.self) w.drain_below.new.drainer w.drain_below.ensures.takes)) in
          record {
            node = stays so;
            ready = subst g.D.Drainer.can_drain (sym w.drainer-is) w.drain_below.ensures.ready;
            frame_is = ap frame w.self-is ∙ w.drain_below.ensures.frame ∙ c.loop-byte.invariant.frame_is;
            so = so;
          })
      | in-Value w ↦ (
          let so : So c.match-child.self c.match-child.drainer = subst (λ s. So s c.match-child.drainer) (sym w.self-is) (subst (λ d. So w.pull-value.new.self d) (sym w.drainer-is) (went_value g.D.Drainer.drains (nodes c.args.self.now) (id_number c.args.at) c.requires.node c.of-region.result c.args.drainer.now c.loop-byte.from (nodes c.loop-byte.self) c.loop-byte.drainer c.loop-byte.invariant.so c.node-in-loop-byte.result.now c.slot-in-loop-byte.result.now.word (c.node-in-loop-byte.ensures.shape ∙ sym c.slot-in-loop-byte.ensures.node) c.in-Some.byte c.in-Some.child.now c.in-Some.ensures (omega arith) _ w.in-Value.is w.pull-value.result w.pull-value.ensures.value (nodes w.pull-value.new.self) w.pull-value.ensures.node w.first_under.result w.first_under.ensures w.drain.new.self w.drain.ensures.drained)) in
          record {
            node = stays so;
            ready = subst g.D.Drainer.can_drain (sym w.drainer-is) w.drain.ensures.again;
            frame_is = ap frame w.self-is ∙ w.pull-value.ensures.frame ∙ c.loop-byte.invariant.frame_is;
            so = so;
          })
    ]

pub returns-clause-takes : goal.returns-clause-takes
returns-clause-takes g t c = drain_ended g.D.Drainer.drains (nodes c.args.self.now) (id_number c.args.at) c.requires.node c.of-region.result c.args.drainer.now c.loop-byte.from (nodes c.loop-byte.self) c.loop-byte.drainer c.loop-byte.invariant.so c.node-in-loop-byte.result.now c.slot-in-loop-byte.result.now.word (c.node-in-loop-byte.ensures.shape ∙ sym c.slot-in-loop-byte.ensures.node) c.in_default.ensures

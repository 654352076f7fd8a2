use Rattle.std.proofs.Common.{rules, ◌<◌, ◌≤◌, ◌+◌, ◌-◌, ◌∙◌, length, sym, subst, arith}
use Rattle.std.specs.Vec.{vec_len}
use Rattle.congee.specs.declared.owned.stats.NodeStats.{NodeStats}
use Rattle.joint.specs.nodes.Nodes.{nodes}
use Rattle.joint.specs.nodes.View.{id_number}
use Rattle.joint.proofs.lemmas.nodes.Counting.{Counted, node_counted, went_below, went_past, child_in, survey_counted}
use Rattle.joint.proofs.nodes.Nodes.+count_from.Goals as goal
use Rattle.joint.proofs.nodes.Nodes.+count_from.Goals.{in-Node+in_ok-count_from, in_default-child}

pub loop-byte-init : goal.loop-byte-init
loop-byte-init g t c =
    node_counted (nodes c.args.self.now) (id_number c.args.at) c.node-node.result.now c.slot.result.now.word (c.node-node.ensures.shape ∙ sym c.slot.ensures.node)
    c.args.stats.now c.count.new.self c.args.level (rw (← c.node_type.ensures, ← c.len.ensures.count) c.in_ok-count.ensures.counted)

pub count_from-requires : goal.count_from-requires
count_from-requires g t c κs within =
    let h = nodes c.args.self.now in
    let below = child_in h (id_number c.args.at) c.node-node.result.now c.slot.result.now.word (c.node-node.ensures.shape ∙ sym c.slot.ensures.node)
    c.args.level c.loop-byte.from c.in-Some.byte c.in-Some.child.now c.in-Some.ensures c.in-Node.below c.in-Node.is c.requires.node in
    let smaller : 8 - length (h (id_number c.in-Node.below)).prefix < 8 - length (h (id_number c.args.at)).prefix = omega (arith, below.1, below.2) in
    let level : c.args.level + 1 ≤ length (h (id_number c.in-Node.below)).prefix = omega (arith, below.1, c.requires.level) in
    let opened : c.args.level + 1 ≤ vec_len c.loop-byte.stats.levels = let o = c.loop-byte.invariant.opened in omega (arith, o) in
    (search rules, (within.0, (within.1, (below.0, (level, opened)))))

pub loop-byte-preserved : goal.loop-byte-preserved
loop-byte-preserved g t c =
    let h = nodes c.args.self.now in
    let So : NodeStats → Type 0 = λ stats. Counted h c.args.stats.now stats c.args.level (id_number c.args.at) (c.in-Some.byte + 1) in
    elim c.match-child.branch [
      | in-Node+in_ok-count_from w ↦ subst So (sym w.stats-is) (went_below h (id_number c.args.at) c.node-node.result.now c.slot.result.now.word (c.node-node.ensures.shape ∙ sym c.slot.ensures.node)
          c.args.level c.loop-byte.from c.in-Some.byte c.in-Some.child.now c.in-Some.ensures
          c.args.stats.now c.loop-byte.stats w.count_from.new.stats w.in-Node.below w.in-Node.is c.loop-byte.invariant (omega arith) w.in_ok-count_from.ensures.levels w.in_ok-count_from.ensures.counted)
      | in_default-child w ↦ subst So (sym w.stats-is) (went_past h (id_number c.args.at) c.node-node.result.now c.slot.result.now.word (c.node-node.ensures.shape ∙ sym c.slot.ensures.node)
          c.args.level c.loop-byte.from c.in-Some.byte c.in-Some.child.now c.in-Some.ensures
          c.args.stats.now c.loop-byte.stats w.in_default-child.not-Node c.loop-byte.invariant (omega arith))
    ]

pub returns-clause-counted : goal.returns-clause-counted
returns-clause-counted g t c =
    survey_counted (nodes c.args.self.now) (id_number c.args.at) c.node-node.result.now c.slot.result.now.word (c.node-node.ensures.shape ∙ sym c.slot.ensures.node)
    c.args.stats.now c.loop-byte.stats c.args.level c.loop-byte.from c.requires.node c.loop-byte.invariant c.in_default.ensures

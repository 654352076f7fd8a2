use Rattle.std.proofs.Common.{◌-◌, ◌≤◌, length, ap, arith}
use Rattle.std.specs.FinMap.{entries, len-entries}
use Rattle.congee.specs.forms.Forms.{children_of}
use Rattle.joint.specs.nodes.Slots.{and_name}
use Rattle.joint.proofs.lemmas.nodes.NameLists.{name_here, name_later, no_name, past_name, last_name}
use Rattle.joint.proofs.nodes.slot.nth_name.Goals as goal
use Rattle.joint.proofs.nodes.slot.nth_name.Goals.{in-Some-default-Node+else-left-eq0, in-Some-default-Value, in-Some-default-Blank, in-None}

pub returns-then-left-eq0 : goal.returns-then-left-eq0
returns-then-left-eq0 g c = name_here (entries (children_of c.args.node.now)) c.loop-k.k c.loop-k.left c.in-Some-default-Node.field-0-0 c.in-Some-default-Node.field-0-1.now c.in-Some-default-Node.id _ c.in-Some-default-Node.ensures c.in-Some-default-Node.field-0-1-is c.if-left-eq0.true c.loop-k.invariant

pub loop-k-preserved : goal.loop-k-preserved
loop-k-preserved g c = elim c.match-child_at.branch [
  | in-Some-default-Node+else-left-eq0 w ↦ rw w.left-is (name_later (entries (children_of c.args.node.now)) c.loop-k.k c.loop-k.left (c.loop-k.left - 1) w.in-Some-default-Node.field-0-0 w.in-Some-default-Node.field-0-1.now w.in-Some-default-Node.id _ w.in-Some-default-Node.ensures w.in-Some-default-Node.field-0-1-is (omega (arith, w.if-left-eq0.false)) c.loop-k.invariant)
  | in-Some-default-Value w ↦ rw w.left-is (no_name (entries (children_of c.args.node.now)) c.loop-k.k c.loop-k.left w.in-Some-default-Value.field-0-0 w.in-Some-default-Value.field-0-1.now _ w.in-Some-default-Value.ensures (λ xs. ap (λ y. and_name y xs) w.in-Some-default-Value.field-0-1-is) c.loop-k.invariant)
  | in-Some-default-Blank w ↦ rw w.left-is (no_name (entries (children_of c.args.node.now)) c.loop-k.k c.loop-k.left w.in-Some-default-Blank.field-0-0 w.in-Some-default-Blank.field-0-1.now _ w.in-Some-default-Blank.ensures (λ xs. ap (λ y. and_name y xs) w.in-Some-default-Blank.field-0-1-is) c.loop-k.invariant)
  | in-None w ↦ rw w.left-is (past_name (entries (children_of c.args.node.now)) c.loop-k.k c.loop-k.left _ w.in-None.ensures c.loop-k.invariant)
]

pub returns : goal.returns
returns g c =
    let l : length (entries (children_of c.args.node.now)) ≤ c.loop-k.k = omega (arith, len-entries (children_of c.args.node.now), c.len-k-end.ensures.count, c.loop-k-test.false) in
    last_name (entries (children_of c.args.node.now)) c.loop-k.k c.loop-k.left _ l c.loop-k.invariant

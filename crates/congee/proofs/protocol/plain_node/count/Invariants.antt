use Rattle.std.proofs.Common.{◌≡◌, ◌≤◌, take}
use Rattle.congee.specs.protocol.Plain.{count_of}
use Rattle.congee.proofs.protocol.plain_node.count.Given as goal

abbrev pub invariant-loop-child : goal.invariant-loop-child
invariant-loop-child l = (l.count ≡ count_of (take l.child-index l.children)) × (l.count ≤ l.child-index)

use Rattle.std.proofs.Common.{ℕ, ◌≡◌, ◌≤◌, ◌-◌}
use Rattle.std.specs.Vec.{vec_len, vec_capacity}
use Rattle.congee.specs.Heap.{Nothing}
use Rattle.congee.specs.protocol.Plain.{count_of, child_at}
use Rattle.congee.proofs.protocol.plain_node.blanks.Given as goal

abbrev pub invariant-loop-children : goal.invariant-loop-children
invariant-loop-children l = record {
  blank : (b : ℕ) → child_at l.children.items b ≡ Nothing;
  empty : count_of l.children.items ≡ 0;
  within : vec_len l.children ≤ 256;
  room : 256 ≤ vec_capacity l.children;
}

abbrev pub decreases-loop-children : goal.decreases-loop-children
decreases-loop-children l = 256 - vec_len l.children

use Rattle.std.proofs.Common.{◌≡◌, ◌≢◌, ℕ, ◌<◌}
use Rattle.congee.specs.Heap.{Nothing}
use Rattle.congee.specs.protocol.Plain.{child_at}
use Rattle.congee.proofs.protocol.plain_node.PlainNode.other.Given as goal

abbrev pub invariant-loop-place : goal.invariant-loop-place
invariant-loop-place l = (q : ℕ) → q ≢ l.byte → q < l.place → child_at l.self.children.items q ≡ Nothing

use Rattle.std.proofs.Common.{ℕ, ◌≡◌, ◌<◌}
use Rattle.congee.specs.protocol.Events.{kept}
use Rattle.congee.specs.protocol.Plain.{child_at}
use Rattle.congee.proofs.protocol.plain_node.copy_names.Given as goal

abbrev pub invariant-loop-i : goal.invariant-loop-i
invariant-loop-i l = (b : ℕ) → b < l.i → child_at l.to b ≡ kept (child_at l.from b)

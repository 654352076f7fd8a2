use Rattle.std.proofs.Common.{◌≡◌, ℕ, ◌≤◌, ◌<◌}
use Rattle.std.specs.Prelude.{None}
use Rattle.std.specs.FinMap.{get}
use Rattle.congee.specs.forms.Forms.{children_of}
use Rattle.joint.proofs.nodes.nearest.last_before.Given as goal

abbrev pub invariant-loop-past : goal.invariant-loop-past
invariant-loop-past g l = (l.past ≤ l.fn.end) × ((b : ℕ) → l.past ≤ b → b < l.fn.end → get (children_of l.node) b ≡ None)

abbrev pub decreases-loop-past : goal.decreases-loop-past
decreases-loop-past g l = l.past

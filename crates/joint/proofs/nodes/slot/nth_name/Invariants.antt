use Rattle.std.proofs.Common.{◌≡◌, drop}
use Rattle.std.specs.Prelude.{slice_get}
use Rattle.std.specs.FinMap.{entries}
use Rattle.congee.specs.forms.Forms.{children_of}
use Rattle.joint.specs.nodes.Slots.{names_in}
use Rattle.joint.proofs.nodes.slot.nth_name.Given as goal

abbrev pub invariant-loop-k : goal.invariant-loop-k
invariant-loop-k g l = slice_get (names_in (drop l.k (entries (children_of l.node)))) l.left ≡ slice_get (names_in (entries (children_of l.node))) l.fn.i

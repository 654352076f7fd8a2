use Rattle.std.proofs.Common.{◌≡◌, ◌-◌}
use Rattle.std.specs.FinMap as map
use Rattle.std.specs.List.{slice_get}
use Rattle.congee.specs.forms.Bytes.{between}
use Rattle.congee.specs.forms.Forms.{children_of}
use Rattle.congee.proofs.forms.base_node.Node.child_at.Given as goal

abbrev pub invariant-loop-passed : goal.invariant-loop-passed
invariant-loop-passed g l = slice_get (between l.from 255 (map.entries (children_of l.self))) (l.i - l._passed) ≡ slice_get (map.entries (children_of l.self)) l.i

use Rattle.std.proofs.Common.{◌-◌, length}
use Rattle.congee.proofs.forms.masked.Masked.new.Given as goal

abbrev pub decreases-loop-children : goal.decreases-loop-children
decreases-loop-children g l = 256 - length l.children.items

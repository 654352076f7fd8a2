use Rattle.std.proofs.Common.{◌-◌, length}
use Rattle.congee.proofs.forms.indexed.Indexed.new.Given as goal

abbrev pub decreases-loop-children : goal.decreases-loop-children
decreases-loop-children g l = 48 - length l.children.items

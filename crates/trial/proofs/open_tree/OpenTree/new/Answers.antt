use Rattle.std.proofs.Common.{refl}
use Rattle.trial.proofs.open_tree.OpenTree.new.Goals as goal

pub returns : goal.returns
returns c = record { world = refl; callers = c.in_ok-callers.ensures; scans = c.in_ok-scans.ensures }

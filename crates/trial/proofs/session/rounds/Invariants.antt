use Rattle.std.proofs.Common.{◌-◌}
use Rattle.trial.specs.declared.reply.Reply.{Reply}
use Rattle.trial.specs.declared.open_tree.OpenTree.{OpenTree}
use Rattle.trial.specs.Session.{Rounds}
use Rattle.trial.proofs.session.rounds.Given as goal

-- what the rounds that are left make of the tree, all of them make of the tree at the start
abbrev pub invariant-loop-i : goal.invariant-loop-i
invariant-loop-i l = (new : OpenTree) (r : Reply) → Rounds (l.count - l._i) l.index l.worker new r → Rounds l.count l.fn.index l.worker new r

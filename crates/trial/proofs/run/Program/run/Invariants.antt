use Rattle.std.proofs.Common.{◌≡◌, ◌-◌, vec_len}
use Rattle.trial.specs.Script.{input_max, read_max}
use Rattle.trial.specs.Going.{Going}
use Rattle.trial.proofs.run.Program.run.Given as goal

abbrev pub decreases-loop-end : goal.decreases-loop-end
decreases-loop-end g l = input_max - l.self.taken

-- the script is under way
abbrev pub invariant-loop-end : goal.invariant-loop-end
invariant-loop-end g l = Going (g.R.Read.remaining l.fn.reader) (g.R.Read.remaining l.reader) (g.W.Write.contents l.fn.writer) (g.W.Write.contents l.writer) l.self
    × (vec_len l.chunk ≡ read_max)

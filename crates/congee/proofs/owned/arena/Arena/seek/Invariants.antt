use Rattle.std.proofs.Common.{◌-◌, length}
use Rattle.congee.specs.owned.Arena.{heap_of}
use Rattle.congee.proofs.lemmas.owned.Cursors.{Descends}
use Rattle.congee.proofs.owned.arena.Arena.seek.Given as goal

abbrev pub invariant-loop-above : goal.invariant-loop-above
invariant-loop-above g l = Descends l.self.nodes l.above.items l.at l.fn.key

abbrev pub decreases-loop-above : goal.decreases-loop-above
decreases-loop-above g l = 8 - length (heap_of l.self.nodes l.at).prefix

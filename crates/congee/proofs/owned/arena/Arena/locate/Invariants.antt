use Rattle.std.proofs.Common.{◌-◌, ◌*◌, length}
use Rattle.congee.specs.owned.Arena.{heap_of, Reached}
use Rattle.congee.proofs.owned.arena.Arena.locate.Given as goal

abbrev pub invariant-loop-leaf : goal.invariant-loop-leaf
invariant-loop-leaf g l = Reached l.self.nodes l.key (257 * l.top) (257 * l.above) × Reached l.self.nodes l.key (257 * l.above) (257 * l.at)

abbrev pub decreases-loop-leaf : goal.decreases-loop-leaf
decreases-loop-leaf g l = 8 - length (heap_of l.self.nodes (257 * l.at)).prefix

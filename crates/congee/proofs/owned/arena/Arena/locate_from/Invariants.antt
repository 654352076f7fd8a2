use Rattle.std.proofs.Common.{◌-◌, ◌*◌, length}
use Rattle.congee.specs.owned.Arena.{heap_of, OnWay}
use Rattle.congee.proofs.owned.arena.Arena.locate_from.Given as goal

abbrev pub invariant-loop-leaf : goal.invariant-loop-leaf
invariant-loop-leaf g l = OnWay l.self.nodes l.key (257 * l.at)

abbrev pub decreases-loop-leaf : goal.decreases-loop-leaf
decreases-loop-leaf g l = 8 - length (heap_of l.self.nodes (257 * l.at)).prefix

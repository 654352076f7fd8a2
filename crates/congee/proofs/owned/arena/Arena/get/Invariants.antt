use Rattle.std.proofs.Common.{◌-◌, ◌*◌, length}
use Rattle.congee.specs.owned.Arena.{heap_of, OnWay}
use Rattle.congee.proofs.owned.arena.Arena.get.Given as goal

abbrev pub invariant-loop-value : goal.invariant-loop-value
invariant-loop-value g l = OnWay l.self.nodes l.key (257 * l.at)

abbrev pub decreases-loop-value : goal.decreases-loop-value
decreases-loop-value g l = 8 - length (heap_of l.self.nodes (257 * l.at)).prefix

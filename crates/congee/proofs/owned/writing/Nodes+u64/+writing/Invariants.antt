use Rattle.std.proofs.Common.{◌+◌, ◌-◌, ◌*◌, length}
use Rattle.congee.specs.owned.Arena.{heap_of}
use Rattle.congee.specs.owned.Rows.{SeesList}
use Rattle.congee.proofs.lemmas.owned.Rows.{ListSoFar}
use Rattle.congee.proofs.lemmas.owned.Writings.{SoFar}
use Rattle.congee.proofs.owned.writing.Nodes+u64.+writing.Given as goal

-- a child's prefix is longer than its parent's
abbrev pub decreases-write_below : goal.decreases-write_below
decreases-write_below g l = 8 * (8 - length (heap_of l.self.now l.at).prefix) + 7

abbrev pub decreases-write_from : goal.decreases-write_from
decreases-write_from g l = 8 * (8 - length (heap_of l.self.now l.at).prefix) + 6

abbrev pub decreases-write_seen : goal.decreases-write_seen
decreases-write_seen g l = 8 * (8 - length (heap_of l.self.now l.at).prefix) + 5

abbrev pub decreases-write_list : goal.decreases-write_list
decreases-write_list g l = 8 * (8 - length (heap_of l.self.now (257 * l.stem.slot)).prefix) + 5

abbrev pub decreases-write_wide : goal.decreases-write_wide
decreases-write_wide g l = 8 * (8 - length (heap_of l.self.now (257 * l.stem.slot)).prefix) + 5

abbrev pub decreases-write_entry : goal.decreases-write_entry
decreases-write_entry g l = 8 * (8 - length (heap_of l.self.now (257 * l.stem.slot)).prefix) + 3

abbrev pub decreases-write_wide_entry : goal.decreases-write_wide_entry
decreases-write_wide_entry g l = 8 * (8 - length (heap_of l.self.now (257 * l.stem.slot)).prefix) + 4

abbrev pub invariant-write_seen-loop-byte : goal.invariant-write_seen-loop-byte
invariant-write_seen-loop-byte g l = SoFar l.self g.E.Listed.entry l.last l.fn.at l.fn.from l.fn.count l.fn.out l.from l.count l.out

abbrev pub decreases-write_seen-loop-byte : goal.decreases-write_seen-loop-byte
decreases-write_seen-loop-byte g l = 256 - l.from

abbrev pub invariant-write_list-loop-i : goal.invariant-write_list-loop-i
invariant-write_list-loop-i g l = (seen : SeesList l.self l.stem l.list) → ListSoFar l.self g.E.Listed.entry l.last l.stem l.list seen l.fn.count l.fn.out l.i l.count l.out

abbrev pub invariant-write_wide-loop-here : goal.invariant-write_wide-loop-here
invariant-write_wide-loop-here g l = SoFar l.self g.E.Listed.entry l.last (257 * l.stem.slot) l.fn.from l.fn.count l.fn.out l.from l.count l.out

abbrev pub decreases-write_wide-loop-here : goal.decreases-write_wide-loop-here
decreases-write_wide-loop-here g l = 256 - l.from

use Rattle.std.proofs.Common.{length}
use Rattle.congee.specs.owned.Cursor.{IsCursor}
use Rattle.congee.specs.owned.Writes.{Remains, WritesMore, with_pairs}
use Rattle.congee.proofs.owned.scan.Arena+u64+A.range_to.Given as goal

abbrev pub invariant-loop-written : goal.invariant-loop-written
invariant-loop-written g l = record {
  way : IsCursor l.self.nodes l.walk.above.items;
  fills : WritesMore 0 l.fn.out l.out l.written;
  rest : Remains l.self.nodes g.E.Listed.entry l.last l.walk.above.items l.out l.written (with_pairs l.self.nodes g.E.Listed.entry l.last l.fn.out 0 l.start);
}

abbrev pub decreases-loop-written : goal.decreases-loop-written
decreases-loop-written g l = length l.walk.above.items

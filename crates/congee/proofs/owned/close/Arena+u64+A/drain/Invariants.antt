use Rattle.std.proofs.Common.{ℕ, ◌^◌}
use Rattle.std.specs.FinMap as map
use Rattle.congee.specs.owned.Cursor.{IsAt, steps_left}
use Rattle.congee.specs.owned.Walks.{IsWalk, steps_of}
use Rattle.congee.specs.owned.Table.{pairs_of}
use Rattle.congee.specs.owned.Ranges.{in_range}
use Rattle.congee.specs.owned.Drained.{Drained}
use Rattle.congee.proofs.owned.close.Arena+u64+A.drain.Given as goal

abbrev pub invariant-loop-key : goal.invariant-loop-key
invariant-loop-key g l = record {
  walk : IsWalk l.self.nodes l.walk;
  ready : g.D.Drainer.can_drain l.drainer;
  from : ℕ;
  at : IsAt l.self.nodes (steps_of l.walk) from;
  drained : (last : _) → Drained g.D.Drainer.drains g.K.Word64.of_word g.V.Word64.of_word l.drainer (in_range from (2 ^ 64) (map.entries (pairs_of l.self.nodes))) last
      → Drained g.D.Drainer.drains g.K.Word64.of_word g.V.Word64.of_word l.fn.drainer (map.entries (pairs_of l.self.nodes)) last;
}

abbrev pub decreases-loop-key : goal.decreases-loop-key
decreases-loop-key g l = steps_left 8 (steps_of l.walk)

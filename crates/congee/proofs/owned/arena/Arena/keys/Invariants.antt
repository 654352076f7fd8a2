use Rattle.std.proofs.Common.{◌≡◌, ℕ, ◌^◌, ◌++◌}
use Rattle.std.specs.FinMap as map
use Rattle.congee.specs.owned.Cursor.{IsAt, steps_left}
use Rattle.congee.specs.owned.Walks.{IsWalk, steps_of}
use Rattle.congee.specs.owned.Table.{pairs_of}
use Rattle.congee.specs.owned.Ranges.{in_range, keys_by}
use Rattle.congee.proofs.owned.arena.Arena.keys.Given as goal

abbrev pub invariant-loop-key : goal.invariant-loop-key
invariant-loop-key g l = record {
  walk : IsWalk l.self.nodes l.walk;
  from : ℕ;
  at : IsAt l.self.nodes (steps_of l.walk) from;
  keys : l.keys.items ++ keys_by g.K.Word64.of_word (in_range from (2 ^ 64) (map.entries (pairs_of l.self.nodes))) ≡ keys_by g.K.Word64.of_word (map.entries (pairs_of l.self.nodes));
}

abbrev pub decreases-loop-key : goal.decreases-loop-key
decreases-loop-key g l = steps_left 8 (steps_of l.walk)

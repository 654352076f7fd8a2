use Rattle.std.specs.Vec.{vec_len}
use Rattle.std.specs.Vec.Iter.{into_iter_items, into_iter_len}
use Rattle.std.specs.Prelude.{vec_capacity}
use Rattle.std.proofs.Common.{◌≡◌, ◌≤◌, ◌-◌, length, take, drop}
use Rattle.congee.specs.protocol.Bounds.{Within}
use Rattle.congee.specs.protocol.Causes.{RefusesAt}
use Rattle.congee.proofs.lemmas.protocol.ManyCalls.{Progress}
use Rattle.congee.proofs.protocol.run.play_into.Given as goal

abbrev pub invariant-loop-step : goal.invariant-loop-step
invariant-loop-step g l = record {
  limit : g.S.Store.version_max l.store ≡ g.S.Store.version_max l.fn.store;
  rest : g.S.Store.rest l.store ≡ g.S.Store.rest l.fn.store;
  within : Within (g.S.Store.version_max l.store) (g.S.Store.heap l.store);
  kept : take (length l.fn.moves.items) l.moves.items ≡ l.fn.moves.items;
  longer : length l.fn.moves.items ≤ length l.moves.items;
  more : vec_len l.fn.moves ≤ vec_len l.moves;
  room : vec_capacity l.moves ≡ vec_capacity l.fn.moves;
  progress : Progress g.C.NodeName.number g.P.Payload.same_as g.P.Payload.always_copies (g.S.Store.version_max l.fn.store)
      (RefusesAt g.S.Store.heap g.S.Store.version_max g.S.Store.rest g.S.Store.refuses l.fn.store) (g.S.Store.heap l.fn.store) l.fn.machines l.fn.steps.items (into_iter_items l.rest) (vec_len l.moves - vec_len l.fn.moves) (drop (length l.fn.moves.items) l.moves.items) (g.S.Store.heap l.store) l.machines;
}

abbrev pub decreases-loop-step : goal.decreases-loop-step
decreases-loop-step g l = into_iter_len l.rest

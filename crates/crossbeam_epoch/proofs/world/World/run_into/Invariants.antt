use Rattle.std.proofs.Common.{◌≡◌, ◌+◌, ◌<◌, ◌≤◌, length, take, drop, vec_capacity}
use Rattle.crossbeam_epoch.specs.world.Steps.{state_after, AreReports}
use Rattle.crossbeam_epoch.proofs.world.World.run_into.Given as goal

abbrev pub invariant-loop-step : goal.invariant-loop-step
invariant-loop-step g l = record {
  count : length l.reports.items ≡ length l.fn.reports.items + l.step-index;
  room : 0 < l.step-index → length l.fn.reports.items + l.step-index ≤ vec_capacity l.fn.reports;
  capacity : vec_capacity l.reports ≡ vec_capacity l.fn.reports;
  before : take (length l.fn.reports.items) l.reports.items ≡ l.fn.reports.items;
  legal : AreReports l.fn.self (take l.step-index l.steps) (drop (length l.fn.reports.items) l.reports.items);
  state : l.self ≡ state_after l.fn.self (take l.step-index l.steps) (drop (length l.fn.reports.items) l.reports.items);
}

use Rattle.std.proofs.Common.{◌≡◌, ◌+◌, ℕ, Some, length, slice_get}
use Rattle.trial.proofs.threads.callers.Given as goal

-- each worker so far is at its place, and has a part
abbrev pub invariant-loop-place : goal.invariant-loop-place
invariant-loop-place g l = record {
  len : length l.callers.items ≡ l.place;
  each : (i : ℕ) (caller : _) → slice_get l.callers.items i ≡ Some caller → (caller.place ≡ i) × (caller.share.parts ≡ 1) × (caller.share.count ≡ 0);
  parts : l.all.parts + l.place ≡ l.fn.all.parts;
  count : l.all.count ≡ l.fn.all.count;
}

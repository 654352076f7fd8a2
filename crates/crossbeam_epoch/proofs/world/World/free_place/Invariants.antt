use Rattle.std.proofs.Common.{◌≡◌, ℕ, ◌<◌, true, get_or}
use Rattle.crossbeam_epoch.specs.world.Machine.{blank}
use Rattle.crossbeam_epoch.proofs.world.World.free_place.Given as goal

abbrev pub invariant-loop-n : goal.invariant-loop-n
invariant-loop-n g l = (q : ℕ) → q < l.n → (get_or l.place-items q blank).registered ≡ true

use Rattle.std.proofs.Common.{◌≡◌, ◌<◌, ◌≤◌, ℕ, take, length, get_or}
use Rattle.congee.proofs.protocol.store.Region.of.Given as goal

abbrev pub invariant-loop-i : goal.invariant-loop-i
invariant-loop-i l = (length l.bytes ≡ 8) × (take l.i l.bytes ≡ take l.i l.prefix) × ((j : ℕ) → get_or l.bytes j 0 < 256) × ((j : ℕ) → l.i ≤ j → get_or l.bytes j 0 ≡ 0)

use Rattle.std.proofs.Common.{◌≡◌, ◌<◌, ℕ, take, length, get_or}
use Rattle.congee.proofs.forms.prefix.Prefix.new.Given as goal

abbrev pub invariant-loop-i : goal.invariant-loop-i
invariant-loop-i l = (length l.word ≡ 8) × (take l.i l.word ≡ take l.i l.bytes) × ((j : ℕ) → get_or l.word j 0 < 256)

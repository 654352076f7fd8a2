use Rattle.std.proofs.Common.{◌≡◌, ℕ, ◌<◌, ◌+◌, length, get_or}
use Rattle.congee.proofs.forms.index.Index.new.Given as goal

abbrev pub invariant-loop-place : goal.invariant-loop-place
invariant-loop-place l = (length l.next ≡ 48) × ((j : ℕ) → j < l.place → get_or l.next j 0 ≡ j + 1)

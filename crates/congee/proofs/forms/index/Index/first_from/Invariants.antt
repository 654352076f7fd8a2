use Rattle.std.proofs.Common.{◌≡◌, ℕ, ◌≤◌, ◌<◌}
use Rattle.congee.specs.forms.Index.{place_of}
use Rattle.congee.proofs.forms.index.Index.first_from.Given as goal

abbrev pub invariant-loop-byte : goal.invariant-loop-byte
invariant-loop-byte l = (b : ℕ) → l.from ≤ b → b < l.byte → place_of l.self b ≡ 48

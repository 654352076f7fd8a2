-- The room that a child may take.
use Rattle.std.specs.Prelude.{ℕ, ◌≤◌}
use prog.Memory.{size, align}
use mir.Syntax.{Ty}

-- so many bytes are at most 65,536, and so is what their place is a multiple of
pub record IsWithin (size align : ℕ) : Type 0 where
  pub bytes : size ≤ 65536
  pub aligned : align ≤ 65536

-- a value of the type takes at most 65,536 bytes, and lies at a multiple of at most that
abbrev pub IsSmall : Ty → Type 0
IsSmall τ = IsWithin (size τ) (align τ)

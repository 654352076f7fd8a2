-- The writes of a worker whose value a closure answers.
use Rattle.std.specs.Prelude.{ℕ, Option, None, Some, Result, Ok, Err}
use Rattle.optimistic.specs.declared.face.refusal.Refusal.{Refusal}
use Rattle.optimistic.specs.face.Calls.{Known, Wrote, Found}
use Rattle.optimistic.specs.face.Refusals.{IsRefused, IsRefusedInPlace}

-- the answer came in the old value's place, or the key had none, or nothing was done
abbrev pub IsComputed : ℕ → Known → Known → Result (Option (ℕ × Option ℕ)) Refusal → Type 0
IsComputed key v w (Ok (Some p)) = Wrote key p.1 (Some p.0) v w
IsComputed key v w (Ok None) = Found key None v w
IsComputed key v w (Err e) = IsRefusedInPlace e v w

-- a value that was answered for the old one came in its place, or nothing was done
abbrev pub IsReplaced : ℕ → (Option ℕ → ℕ → Type 0) → Known → Known → Result (Option ℕ) Refusal → Type 0
IsReplaced key answers v w (Ok old) = (value : ℕ) × Wrote key (Some value) old v w × answers old value
IsReplaced key answers v w (Err e) = IsRefused e v w

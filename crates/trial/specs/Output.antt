-- What passes through the buffer of what is printed.
use Rattle.std.specs.Prelude.{◌≡◌, ℕ, List, ◌++◌, Option}
use Rattle.std.specs.Io.KnownBytes.{Appends}
use Rattle.trial.specs.declared.end.End.{End}
use Rattle.trial.specs.declared.end.End.TheVariants as end

-- the most bytes that are held back
abbrev pub held_max : ℕ
held_max = 8192

-- A text was put behind what was held back: the writer took a front of both, and the rest is held back now.
pub record Passes (had : Option (List ℕ)) (old : List ℕ) (has : Option (List ℕ)) (new text : List ℕ) : Type 0 where
  pub out : List ℕ
  pub wrote : Appends had has out
  pub rest : old ++ text ≡ out ++ new

-- The writer failed while a text was put behind what was held back: it took a front of both, and the rest is lost.
pub record Breaks (had : Option (List ℕ)) (old : List ℕ) (has : Option (List ℕ)) (text : List ℕ) : Type 0 where
  pub out : List ℕ
  pub lost : List ℕ
  pub wrote : Appends had has out
  pub rest : old ++ text ≡ out ++ lost

-- why a text wasn't put: where memory was refused, nothing of it was
abbrev pub PutStops : Option (List ℕ) → List ℕ → Option (List ℕ) → List ℕ → List ℕ → End → Type 0
PutStops had old has new text end.Memory = (has ≡ had) × (new ≡ old)
PutStops had old has new text end.Writing = Breaks had old has text
PutStops had old has new text _ = ⊥

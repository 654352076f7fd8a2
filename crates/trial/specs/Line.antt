-- What a line of a script is.
use Rattle.std.specs.Prelude.{ℕ, List}
use Rattle.trial.specs.declared.command.Command.{Command}
use Rattle.trial.specs.declared.line.Line.{Line}
use Rattle.trial.specs.declared.line.Line.TheVariants as line
use Rattle.trial.specs.Grammar.{Spells, IsSkipped}

-- the line has no meaning: it is no command, not empty and no comment, or too long
pub record IsBad (bytes : List ℕ) : Type 0 where
  pub no_command : (c : Command) → Spells bytes c → ⊥
  pub not_skipped : IsSkipped bytes → ⊥

-- what the bytes of a line are
abbrev pub IsLine : List ℕ → Line → Type 0
IsLine bytes line.Skipped = IsSkipped bytes
IsLine bytes (line.Command c) = Spells bytes c
IsLine bytes line.Bad = IsBad bytes

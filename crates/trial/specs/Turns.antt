-- What the parts of the program keep, for its private functions.
use Rattle.std.specs.Prelude.{◌≡◌, ℕ, ◌+◌, ◌<◌, ◌⊎◌, List, ◌∷◌, ◌++◌, length, Option}
use Rattle.std.specs.List.{AllByRecursion}
use Rattle.trial.specs.declared.end.End.{End}
use Rattle.trial.specs.declared.end.End.TheVariants as end
use Rattle.trial.specs.declared.script.Script.{Script}
use Rattle.trial.specs.Grammar.{line_max}
use Rattle.trial.specs.Line.{IsBad}
use Rattle.trial.specs.Output.{Passes, Breaks}
use Rattle.trial.specs.Session.{Session}
use Rattle.trial.specs.Script.{LineAnswers, LinesAnswer, NoFeed, fed}
use Rattle.trial.specs.Texts.{bad_line_text}

-- A line that was answered, and what the writer held before and after.
pub record LineGoes (old : Script) (held : Option (List ℕ)) (bytes : List ℕ) (new : Script) (holds : Option (List ℕ)) : Type 0 where
  pub text : List ℕ
  pub answers : LineAnswers old.session bytes new.session text
  pub passes : Passes held old.output holds new.output text
  pub lines : new.lines ≡ old.lines

-- what is due for a line: its reply, or the report of one outside the grammar
abbrev pub IsDue : Script → List ℕ → List ℕ → Type 0
IsDue old bytes due = ((new : Session) × LineAnswers old.session bytes new due) ⊎ (IsBad bytes × (due ≡ bad_line_text (old.lines + 1)))

-- why the script stopped at a line: where memory was refused nothing was put for it, and where the writer failed it took a front of what was due
abbrev pub LineStops : Script → Option (List ℕ) → List ℕ → Script → Option (List ℕ) → End → Type 0
LineStops old held bytes new holds end.BadLine = IsBad bytes × Passes held old.output holds new.output (bad_line_text (old.lines + 1))
LineStops old held bytes new holds end.Memory = (holds ≡ held) × (new.output ≡ old.output)
LineStops old held bytes new holds end.Writing = (due : List ℕ) × IsDue old bytes due × Breaks held old.output holds due
LineStops old held bytes new holds _ = ⊥

-- the first lines of the bytes were answered, and these are left
pub record LinesGo (old : Script) (held : Option (List ℕ)) (bytes : List ℕ) (new : Script) (holds : Option (List ℕ)) (rest : List ℕ) : Type 0 where
  pub before : List (List ℕ)
  pub text : List ℕ
  pub whole : bytes ≡ fed before ++ rest
  pub feeds : AllByRecursion NoFeed before
  pub answers : LinesAnswer old.session before new.session text
  pub passes : Passes held old.output holds new.output text
  pub lines : new.lines ≡ old.lines + length before

-- the bytes begin with a line outside the grammar, however they go on
abbrev pub BeginsBad : List ℕ → Type 0
BeginsBad bytes = (bad more : List ℕ) × NoFeed bad × IsBad bad × ((bytes ≡ bad ++ 10 ∷ more) ⊎ ((bytes ≡ bad) × (line_max < length bad)))

-- the bytes begin with a line, whose reply is due
abbrev pub BeginsDue : Script → List ℕ → List ℕ → Type 0
BeginsDue old bytes due = (line more : List ℕ) × NoFeed line × (bytes ≡ line ++ 10 ∷ more) × (new : Session) × LineAnswers old.session line new due

-- what is due for the first of the lines
abbrev pub IsDueFirst : Script → List ℕ → List ℕ → Type 0
IsDueFirst old bytes due = BeginsDue old bytes due ⊎ (BeginsBad bytes × (due ≡ bad_line_text (old.lines + 1)))

-- why the script stopped at the first of the lines
abbrev pub FirstStops : Script → Option (List ℕ) → List ℕ → Script → Option (List ℕ) → End → Type 0
FirstStops old held bytes new holds end.BadLine = BeginsBad bytes × Passes held old.output holds new.output (bad_line_text (old.lines + 1))
FirstStops old held bytes new holds end.Memory = (holds ≡ held) × (new.output ≡ old.output)
FirstStops old held bytes new holds end.Writing = (due : List ℕ) × IsDueFirst old bytes due × Breaks held old.output holds due
FirstStops old held bytes new holds _ = ⊥

-- the script stopped at one of the lines
pub record LinesStop (old : Script) (held : Option (List ℕ)) (bytes : List ℕ) (new : Script) (holds : Option (List ℕ)) (e : End) : Type 0 where
  pub mid : Script
  pub between : Option (List ℕ)
  pub rest : List ℕ
  pub goes : LinesGo old held bytes mid between rest
  pub stops : FirstStops mid between rest new holds e

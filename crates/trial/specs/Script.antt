-- What a script prints, and how it ends.
use Rattle.std.specs.Prelude.{◌≡◌, ◌≢◌, ◌==◌, ℕ, ◌+◌, ◌<◌, ◌≤◌, ◌⊎◌, List, [], ◌∷◌, ◌++◌, length, take, All, None, if◌then◌else◌}
use Rattle.std.specs.List.{AllByRecursion, onto_first}
use Rattle.trial.specs.declared.end.End.{End}
use Rattle.trial.specs.declared.end.End.TheVariants as end
use Rattle.trial.specs.declared.line.Line.{Line}
use Rattle.trial.specs.declared.line.Line.TheVariants as line
use Rattle.trial.specs.declared.reply.Reply.{Reply}
use Rattle.trial.specs.Line.{IsLine, IsBad}
use Rattle.trial.specs.Session.{Session, Answers}
use Rattle.trial.specs.Texts.{printed, bad_line_text}

-- the exit status
abbrev pub status_of : End → ℕ
status_of end.Done = 0
status_of end.BadLine = 2
status_of _ = 1

-- the most bytes of a script
abbrev pub input_max : ℕ
input_max = 16777216

-- the most bytes of one read
abbrev pub read_max : ℕ
read_max = 8192

-- no line feed stands in the bytes
abbrev pub NoFeed : List ℕ → Type 0
NoFeed bytes = All (λ b. b ≢ 10) bytes

-- lines with their line feeds
abbrev pub fed : List (List ℕ) → List ℕ
fed [] = []
fed (line ∷ more) = line ++ 10 ∷ fed more

-- the lines that end within the bytes, each by a line feed: what is left has none
pub record WholeLines (bytes : List ℕ) (lines : List (List ℕ)) : Type 0 where
  pub rest : List ℕ
  pub whole : bytes ≡ fed lines ++ rest
  pub feeds : AllByRecursion NoFeed lines
  pub unfed : NoFeed rest

-- the lines of a script: a line feed ends each, and the last may lack it
abbrev pub lines_of : List ℕ → List (List ℕ)
lines_of [] = []
lines_of (b ∷ bs) = if b == 10 then [] ∷ lines_of bs else onto_first b (lines_of bs)

-- what a line does to a session, and what it prints
abbrev pub LineDoes : Line → Session → Session → List ℕ → Type 0
LineDoes line.Skipped old new text = (new ≡ old) × (text ≡ [])
LineDoes (line.Command c) old new text = (r : Reply) × Answers old c new r × (text ≡ printed r)
LineDoes line.Bad old new text = ⊥

-- a line that is answered: the bytes are in the grammar
abbrev pub LineAnswers : Session → List ℕ → Session → List ℕ → Type 0
LineAnswers old bytes new text = (l : Line) × IsLine bytes l × LineDoes l old new text

-- lines that are answered one after the other
abbrev pub LinesAnswer : Session → List (List ℕ) → Session → List ℕ → Type 0
LinesAnswer old [] new text = (new ≡ old) × (text ≡ [])
LinesAnswer old (bytes ∷ more) new text = (mid : Session) × (first rest : List ℕ) × LineAnswers old bytes mid first
    × LinesAnswer mid more new rest × (text ≡ first ++ rest)

-- what the first lines of a script print
abbrev pub AreAnswered : List (List ℕ) → List ℕ → Type 0
AreAnswered lines text = (new : Session) × LinesAnswer None lines new text

-- the replies to the first lines of a script, by what such lines print, and the lines after them
abbrev pub FirstLines : (List (List ℕ) → List ℕ → Type 0) → List ℕ → List (List ℕ) → List (List ℕ) → List ℕ → Type 0
FirstLines Replies input before after text = (lines_of input ≡ before ++ after) × Replies before text

-- the replies to some first lines of a script
abbrev pub SomeLines : (List (List ℕ) → List ℕ → Type 0) → List ℕ → List ℕ → Type 0
SomeLines Replies input text = (before after : List (List ℕ)) × FirstLines Replies input before after text

-- the replies to the lines that end within the bytes
abbrev pub AllWhole : (List (List ℕ) → List ℕ → Type 0) → List ℕ → List ℕ → Type 0
AllWhole Replies bytes text = (lines : List (List ℕ)) × WholeLines bytes lines × Replies lines text

-- Of an input that was given so far, the replies to some first lines: to those at least that ended before the last read.
pub record AllButLastRead (Replies : List (List ℕ) → List ℕ → Type 0) (input given text : List ℕ) : Type 0 where
  pub before : List ℕ
  pub last : List ℕ
  pub reads : given ≡ before ++ last
  pub bound : length last ≤ read_max
  pub lines : List (List ℕ)
  pub more : List (List ℕ)
  pub after : List (List ℕ)
  pub whole : WholeLines before lines
  pub first : FirstLines Replies input (lines ++ more) after text

-- the replies to all lines
abbrev pub AllLines : (List (List ℕ) → List ℕ → Type 0) → List ℕ → List ℕ → Type 0
AllLines Replies input text = (length input ≤ input_max) × FirstLines Replies input (lines_of input) [] text

-- the replies to the lines before the first that is outside the grammar, and then its number
abbrev pub UpToBad : (List (List ℕ) → List ℕ → Type 0) → List ℕ → List ℕ → Type 0
UpToBad Replies input text = (before after : List (List ℕ)) × (bad replies : List ℕ) × FirstLines Replies input before (bad ∷ after) replies
    × IsBad bad × (text ≡ replies ++ bad_line_text (length before + 1))

-- What a script has printed when it ends so, after these bytes of its input were given: where a read fails the replies to
-- the lines that were whole by then, where the input is too long to those that end within the most bytes of a script.
-- Where the writer fails, it took a front of what was due.
abbrev pub Prints : (List (List ℕ) → List ℕ → Type 0) → List ℕ → List ℕ → End → List ℕ → Type 0
Prints Replies input given end.Done text = AllLines Replies input text
Prints Replies input given end.BadLine text = UpToBad Replies input text
Prints Replies input given end.Reading text = AllWhole Replies given text
Prints Replies input given end.Memory text = AllButLastRead Replies input given text
Prints Replies input given end.TooLong text = (input_max < length input) × AllWhole Replies (take input_max input) text
Prints Replies input given end.Writing text = (due more : List ℕ) × (due ≡ text ++ more) × (SomeLines Replies input due ⊎ UpToBad Replies input due)

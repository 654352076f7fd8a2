-- A script that is under way, for the program's private functions.
use Rattle.std.specs.Prelude.{◌≡◌, ℕ, ◌≤◌, List, [], ◌++◌, length, Option, None, Some, IfSome}
use Rattle.std.specs.List.{AllByRecursion}
use Rattle.std.specs.Io.KnownBytes.{Consumes, Appends}
use Rattle.trial.specs.declared.end.End.{End}
use Rattle.trial.specs.declared.end.End.TheVariants as end
use Rattle.trial.specs.declared.run.Program.{Program}
use Rattle.trial.specs.Grammar.{line_max}
use Rattle.trial.specs.Output.{Passes}
use Rattle.trial.specs.Script.{LinesAnswer, AreAnswered, NoFeed, fed, Prints, input_max}

-- Of what the reader had, these bytes were given and the lines in them that are whole were answered. The writer has their
-- replies but for what is held back.
pub record Going (had left held holds : Option (List ℕ)) (p : Program) : Type 0 where
  pub given : List ℕ
  pub before : List (List ℕ)
  pub text : List ℕ
  pub read : Consumes had left given
  pub whole : given ≡ fed before ++ p.unread.items
  pub feeds : AllByRecursion NoFeed before
  pub unfed : NoFeed p.unread.items
  pub answers : LinesAnswer None before p.script.session text
  pub passes : Passes held [] holds p.script.output text
  pub lines : p.script.lines ≡ length before
  pub taken : length given ≡ p.taken
  pub bound : p.taken ≤ input_max
  pub short : length p.unread.items ≤ line_max

-- where the reader's bytes are known, the writer took what a script of them prints that ends so, where its lines print this
abbrev pub Ran : (List (List ℕ) → List ℕ → Type 0) → Option (List ℕ) → Option (List ℕ) → Option (List ℕ) → Option (List ℕ) → End → Type 0
Ran Replies had left held holds e =
    IfSome had (λ input. (given text : List ℕ) × Consumes (Some input) left given × Prints Replies input given e text × Appends held holds text)

-- where the reader's bytes are known, what it gave of them is a script that ends so, and the writer has what it prints but for what is held back
abbrev pub EndsBy : Option (List ℕ) → Option (List ℕ) → Option (List ℕ) → Option (List ℕ) → List ℕ → End → Type 0
EndsBy had left held holds back e =
    IfSome had (λ input. (given text : List ℕ) × Consumes (Some input) left given × Prints AreAnswered input given e text × Passes held [] holds back text)

-- a script that ended so; where the writer failed it took a front of what was due, and what is held back is lost
abbrev pub Ends : Option (List ℕ) → Option (List ℕ) → Option (List ℕ) → Option (List ℕ) → Program → End → Type 0
Ends had left held holds p end.Writing = Ran AreAnswered had left held holds end.Writing
Ends had left held holds p e = EndsBy had left held holds p.script.output e

-- a program that has read and printed nothing
pub record IsAtStart (p : Program) : Type 0 where
  pub session : p.script.session ≡ None
  pub lines : p.script.lines ≡ 0
  pub output : p.script.output ≡ []
  pub unread : p.unread.items ≡ []
  pub taken : p.taken ≡ 0

-- what was held back is gone, and all else is as it was
pub record IsWritten (old new : Program) : Type 0 where
  pub session : new.script.session ≡ old.script.session
  pub lines : new.script.lines ≡ old.script.lines
  pub output : new.script.output ≡ []
  pub unread : new.unread.items ≡ old.unread.items
  pub taken : new.taken ≡ old.taken

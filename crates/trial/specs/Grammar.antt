-- The grammar of a script: which bytes are which command.
use Rattle.std.specs.Prelude.{◌≡◌, ◌<◌, ◌≤◌, ◌^◌, ℕ, List, [], ◌∷◌, ◌++◌, Option, None, Some, IfSome, map, ⊤, length}
use Rattle.std.specs.List.{join_with_byte}
use Rattle.trial.specs.declared.command.Opening.{Opening}
use Rattle.trial.specs.declared.command.LineCall.{LineCall}
use Rattle.trial.specs.declared.command.LineCall.TheVariants as call
use Rattle.trial.specs.declared.command.Command.{Command}
use Rattle.trial.specs.declared.command.Command.TheVariants as command
use Rattle.trial.specs.declared.keyword.Keyword.{Keyword}
use Rattle.trial.specs.declared.keyword.Keyword.TheVariants as key
use Rattle.trial.specs.declared.word.Word.{Word}
use Rattle.trial.specs.declared.word.Word.TheVariants.{Key, Number}
use Rattle.trial.specs.Words.{spelled}

-- a keyword with its number, where the number is given
abbrev pub option_words : Keyword → Option ℕ → List Word
option_words k None = []
option_words k (Some n) = Key k ∷ Number n ∷ []

-- the words of an opening after `new`
abbrev pub opening_words : Opening → List Word
opening_words o = Number o.participants ∷ Number o.cells ∷ option_words key.Limit o.limit
    ++ option_words key.Version o.version ++ option_words key.Journal o.journal

-- the words of a call
abbrev pub call_words : LineCall → List Word
call_words call.Pin = Key key.Pin ∷ []
call_words call.Unpin = Key key.Unpin ∷ []
call_words call.Repin = Key key.Repin ∷ []
call_words call.Flush = Key key.Flush ∷ []
call_words call.Release = Key key.Release ∷ []
call_words (call.Get k) = Key key.Get ∷ Number k ∷ []
call_words (call.Remove k) = Key key.Remove ∷ Number k ∷ []
call_words (call.Insert k v) = Key key.Insert ∷ Number k ∷ Number v ∷ []
call_words (call.PresentAdd k n) = Key key.Present ∷ Number k ∷ Key key.Add ∷ Number n ∷ []
call_words (call.PresentDrop k) = Key key.Present ∷ Number k ∷ Key key.Drop ∷ []
call_words (call.OrInsert k n) = Key key.OrInsert ∷ Number k ∷ Number n ∷ []
call_words (call.Exchange k old new) = Key key.Cas ∷ Number k ∷ Number old ∷ Number new ∷ []
call_words (call.ExchangeDrop k old) = Key key.Cas ∷ Number k ∷ Number old ∷ Key key.Drop ∷ []
call_words (call.Range a b n) = Key key.Range ∷ Number a ∷ Number b ∷ Number n ∷ []
call_words (call.Through a b n) = Key key.Through ∷ Number a ∷ Number b ∷ Number n ∷ []
call_words call.Keys = Key key.Keys ∷ []
call_words call.Empty = Key key.Empty ∷ []
call_words call.Stats = Key key.Stats ∷ []

-- the words of a command
abbrev pub command_words : Command → List Word
command_words (command.New o) = Key key.New ∷ opening_words o
command_words command.Register = Key key.Reg ∷ []
command_words command.Charged = Key key.Charged ∷ []
command_words command.Waiting = Key key.Waiting ∷ []
command_words command.Journal = Key key.Journal ∷ []
command_words command.Close = Key key.Close ∷ []
command_words (command.Call w c) = Number w ∷ call_words c
command_words (command.Begin w c) = Number w ∷ Key key.Begin ∷ call_words c
command_words (command.Go w n) = Number w ∷ Key key.Go ∷ Number n ∷ []
command_words (command.Fail w) = Number w ∷ Key key.Fail ∷ []
command_words (command.Round w n) = Number w ∷ Key key.Round ∷ Number n ∷ []

-- a number of the script
abbrev pub IsNumber : ℕ → Type 0
IsNumber n = n < 2 ^ 64

-- a worker's number
abbrev pub IsWorker : ℕ → Type 0
IsWorker w = w < 2 ^ 32

-- how many steps or rounds
abbrev pub IsCount : ℕ → Type 0
IsCount n = (1 ≤ n) × (n ≤ 1000000)

-- the numbers of an opening are the script's
abbrev pub OpeningFits : Opening → Type 0
OpeningFits o = IsNumber o.participants × IsNumber o.cells × IfSome o.limit IsNumber × IfSome o.version IsNumber × IfSome o.journal IsNumber

-- the numbers of a call are the script's, and a scan asks for 10,000 pairs at most
abbrev pub CallFits : LineCall → Type 0
CallFits (call.Get k) = IsNumber k
CallFits (call.Remove k) = IsNumber k
CallFits (call.Insert k v) = IsNumber k × IsNumber v
CallFits (call.PresentAdd k n) = IsNumber k × IsNumber n
CallFits (call.PresentDrop k) = IsNumber k
CallFits (call.OrInsert k n) = IsNumber k × IsNumber n
CallFits (call.Exchange k old new) = IsNumber k × IsNumber old × IsNumber new
CallFits (call.ExchangeDrop k old) = IsNumber k × IsNumber old
CallFits (call.Range a b n) = IsNumber a × IsNumber b × (n ≤ 10000)
CallFits (call.Through a b n) = IsNumber a × IsNumber b × (n ≤ 10000)
CallFits _ = ⊤

-- the numbers of a command are within its bounds
abbrev pub CommandFits : Command → Type 0
CommandFits (command.New o) = OpeningFits o
CommandFits (command.Call w c) = IsWorker w × CallFits c
CommandFits (command.Begin w c) = IsWorker w × CallFits c
CommandFits (command.Go w n) = IsWorker w × IsCount n
CommandFits (command.Fail w) = IsWorker w
CommandFits (command.Round w n) = IsWorker w × IsCount n
CommandFits _ = ⊤

-- a list of words as bytes: a space between each two
abbrev pub spelling : List Word → List ℕ
spelling words = join_with_byte 32 (map spelled words)

-- the most bytes of a line
abbrev pub line_max : ℕ
line_max = 1000

-- the bytes are this command
pub record Spells (bytes : List ℕ) (c : Command) : Type 0 where
  pub short : length bytes ≤ line_max
  pub fits : CommandFits c
  pub spelt : bytes ≡ spelling (command_words c)

-- the line is empty or a comment
abbrev pub IsSkipped : List ℕ → Type 0
IsSkipped [] = ⊤
IsSkipped (b ∷ bs) = (b ≡ 35) × (length (b ∷ bs) ≤ line_max)

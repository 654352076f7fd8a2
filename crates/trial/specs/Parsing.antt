-- What the parser makes of the words of a line, for its private functions.
use Rattle.std.specs.Prelude.{◌^◌, ℕ, ◌&&◌, nat_lt, nat_le, List, [], ◌∷◌, Option, None, Some, if◌then◌else◌}
use Rattle.std.specs.Option.{option_map}
use Rattle.trial.specs.declared.command.LineCall.{LineCall}
use Rattle.trial.specs.declared.command.LineCall.TheVariants as call
use Rattle.trial.specs.declared.command.Command.{Command}
use Rattle.trial.specs.declared.command.Command.TheVariants as command
use Rattle.trial.specs.declared.keyword.Keyword.{Keyword}
use Rattle.trial.specs.declared.keyword.Keyword.TheVariants as key
use Rattle.trial.specs.declared.word.Word.{Word}
use Rattle.trial.specs.declared.word.Word.TheVariants.{Key, Number}

-- the call that a keyword alone names
abbrev pub plain_call_of : Keyword → Option LineCall
plain_call_of key.Pin = Some call.Pin
plain_call_of key.Unpin = Some call.Unpin
plain_call_of key.Repin = Some call.Repin
plain_call_of key.Flush = Some call.Flush
plain_call_of key.Release = Some call.Release
plain_call_of key.Keys = Some call.Keys
plain_call_of key.Empty = Some call.Empty
plain_call_of key.Stats = Some call.Stats
plain_call_of _ = None

-- the call that a keyword and a number name
abbrev pub key_call_of : Keyword → ℕ → Option LineCall
key_call_of key.Get k = Some (call.Get k)
key_call_of key.Remove k = Some (call.Remove k)
key_call_of _ k = None

-- the call that a keyword and two numbers name
abbrev pub pair_call_of : Keyword → ℕ → ℕ → Option LineCall
pair_call_of key.Insert k v = Some (call.Insert k v)
pair_call_of key.OrInsert k n = Some (call.OrInsert k n)
pair_call_of _ k v = None

-- the call that a keyword and three numbers name
abbrev pub triple_call_of : Keyword → ℕ → ℕ → ℕ → Option LineCall
triple_call_of key.Cas k old new = Some (call.Exchange k old new)
triple_call_of key.Range a b n = if nat_le n 10000 then Some (call.Range a b n) else None
triple_call_of key.Through a b n = if nat_le n 10000 then Some (call.Through a b n) else None
triple_call_of _ a b n = None

-- the call that the words name
abbrev pub call_of : List Word → Option LineCall
call_of (Key k ∷ []) = plain_call_of k
call_of (Key k ∷ Number a ∷ []) = key_call_of k a
call_of (Key k ∷ Number a ∷ Number b ∷ []) = pair_call_of k a b
call_of (Key k ∷ Number a ∷ Number b ∷ Number c ∷ []) = triple_call_of k a b c
call_of (Key key.Present ∷ Number k ∷ Key key.Add ∷ Number n ∷ []) = Some (call.PresentAdd k n)
call_of (Key key.Present ∷ Number k ∷ Key key.Drop ∷ []) = Some (call.PresentDrop k)
call_of (Key key.Cas ∷ Number k ∷ Number old ∷ Key key.Drop ∷ []) = Some (call.ExchangeDrop k old)
call_of _ = None

-- a count of steps or rounds, in what it counts for
abbrev pub counted : ℕ → Command → Option Command
counted n c = if nat_le 1 n && nat_le n 1000000 then Some c else None

-- the command of a worker that the words name
abbrev pub worker_command_of : ℕ → List Word → Option Command
worker_command_of w (Key key.Begin ∷ words) = option_map (command.Begin w) (call_of words)
worker_command_of w (Key key.Go ∷ Number n ∷ []) = counted n (command.Go w n)
worker_command_of w (Key key.Round ∷ Number n ∷ []) = counted n (command.Round w n)
worker_command_of w (Key key.Fail ∷ []) = Some (command.Fail w)
worker_command_of w words = option_map (command.Call w) (call_of words)

-- the number of the limit where its keyword stands first, and the words after it
abbrev pub limit_of : List Word → Option ℕ × List Word
limit_of (Key key.Limit ∷ Number n ∷ words) = (Some n, words)
limit_of words = (None, words)

-- the same of the greatest version
abbrev pub version_of : List Word → Option ℕ × List Word
version_of (Key key.Version ∷ Number n ∷ words) = (Some n, words)
version_of words = (None, words)

-- the same of the journal's places
abbrev pub journal_of : List Word → Option ℕ × List Word
journal_of (Key key.Journal ∷ Number n ∷ words) = (Some n, words)
journal_of words = (None, words)

-- an opening, where no word is left over
abbrev pub opening_if_done : ℕ → ℕ → Option ℕ → Option ℕ → Option ℕ → List Word → Option Command
opening_if_done p c limit version journal [] = Some (command.New (record { participants = p; cells = c; limit = limit; version = version; journal = journal }))
opening_if_done p c limit version journal (w ∷ ws) = None

-- the opening that the words name
unfoldable pub opening_of : ℕ → ℕ → List Word → Option Command
opening_of p c words =
    let limit = limit_of words in
    let version = version_of limit.1 in
    let journal = journal_of version.1 in
    opening_if_done p c limit.0 version.0 journal.0 journal.1

-- the command that a keyword alone names
abbrev pub plain_command_of : Keyword → Option Command
plain_command_of key.Reg = Some command.Register
plain_command_of key.Charged = Some command.Charged
plain_command_of key.Waiting = Some command.Waiting
plain_command_of key.Journal = Some command.Journal
plain_command_of key.Close = Some command.Close
plain_command_of _ = None

-- the command that the words name
abbrev pub command_of : List Word → Option Command
command_of (Key k ∷ []) = plain_command_of k
command_of (Key key.New ∷ Number p ∷ Number c ∷ words) = opening_of p c words
command_of (Number w ∷ words) = if nat_lt w (2 ^ 32) then worker_command_of w words else None
command_of _ = None

-- What a script is replied to by a finite map alone.
use Rattle.std.specs.Prelude.{◌≡◌, ℕ, suc, ◌+◌, ◌%◌, ◌^◌, ⊤, Bool, true, false, is_some, nat_eq, List, [], ◌∷◌, ◌++◌, length, take, Option, None, Some, if◌then◌else◌}
use Rattle.std.specs.FinMap.{get, empty, entries}
use Rattle.std.specs.List.{AllByRecursion, flat_map}
use Rattle.std.specs.Option.{option_map}
use Rattle.judge.specs.Answer.{Pairs, answer}
use Rattle.judge.specs.declared.journal.Call.{Call as Point}
use Rattle.judge.specs.declared.journal.Call.TheVariants as point
use Rattle.judge.specs.declared.journal.Reply.{Reply as MapReply}
use Rattle.congee.specs.owned.Ranges.{in_range}
use Rattle.joint.specs.nodes.Survey.{keys_of}
use Rattle.trial.specs.declared.command.LineCall.{LineCall}
use Rattle.trial.specs.declared.command.LineCall.TheVariants as call
use Rattle.trial.specs.declared.command.Command.{Command}
use Rattle.trial.specs.declared.command.Command.TheVariants as command
use Rattle.trial.specs.declared.line.Line.{Line}
use Rattle.trial.specs.declared.line.Line.TheVariants as line
use Rattle.trial.specs.declared.reply.Reply.{Reply}
use Rattle.trial.specs.declared.reply.Reply.TheVariants as reply
use Rattle.trial.specs.Line.{IsLine}
use Rattle.trial.specs.Replies.{reply_to}
use Rattle.trial.specs.Texts.{printed}

-- the value plus the number, which wraps
abbrev pub wrapped : ℕ → ℕ → ℕ
wrapped n v = (v + n) % 2 ^ 64

-- what `orinsert` puts, by what stands at its key
abbrev pub or_wrapped : ℕ → Option ℕ → ℕ
or_wrapped n None = n
or_wrapped n (Some v) = wrapped n v

-- the call on the map m that a line's call on one key is: one with a closure is given what the map has at its key
abbrev pub point_of : Pairs ℕ → LineCall → Option (Point ℕ)
point_of m (call.Get k) = Some (point.Get k)
point_of m (call.Remove k) = Some (point.Remove k)
point_of m (call.Insert k v) = Some (point.Insert k v)
point_of m (call.PresentAdd k n) = Some (point.ComputePresent k (option_map (wrapped n) (get m k)))
point_of m (call.PresentDrop k) = Some (point.ComputePresent k None)
point_of m (call.OrInsert k n) = Some (point.ComputeInsert k (or_wrapped n (get m k)))
point_of m (call.Exchange k old new) = Some (point.Exchange k old (Some new))
point_of m (call.ExchangeDrop k old) = Some (point.Exchange k old None)
point_of m _ = None

-- a map's answer, as a reply
abbrev pub as_reply : MapReply ℕ × Pairs ℕ → Reply × Pairs ℕ
as_reply told = (reply_to told.0, told.1)

-- whether a map has no pair
abbrev pub is_nil : {A : Type 0} → List A → Bool
is_nil [] = true
is_nil (x ∷ xs) = false

-- the reply of the map m to a call on one key, on a range of keys or on all, and the map after it
abbrev pub call_reply : Pairs ℕ → LineCall → Option (Reply × Pairs ℕ)
call_reply m (call.Range start end size) = Some (reply.Range (take size (in_range start end (entries m))), m)
call_reply m (call.Through start last size) = Some (reply.Range (take size (in_range start (suc last) (entries m))), m)
call_reply m call.Keys = Some (reply.Keys (keys_of m), m)
call_reply m call.Empty = Some (reply.Empty (is_nil (entries m)), m)
call_reply m c = option_map (λ p. as_reply (answer nat_eq m p)) (point_of m c)

-- the same of a command, where it is such a call
abbrev pub answer_to : Pairs ℕ → Command → Option (Reply × Pairs ℕ)
answer_to m (command.Call w c) = call_reply m c
answer_to m _ = None

-- the map that a call leaves, or the one before where there was none
abbrev pub map_or : Pairs ℕ → Option (Reply × Pairs ℕ) → Pairs ℕ
map_or m None = m
map_or m (Some told) = told.1

-- the map after a command; a new tree's is empty, and none is left where a tree was closed
abbrev pub map_after : Pairs ℕ → Command → Pairs ℕ
map_after m (command.New o) = empty
map_after m command.Close = empty
map_after m c = map_or m (answer_to m c)

-- a call's reply before others, where there was one
abbrev pub with_reply : Option (Reply × Pairs ℕ) → List Reply → List Reply
with_reply None rs = rs
with_reply (Some told) rs = told.0 ∷ rs

-- the replies to the calls on keys among the commands, from the map m on
abbrev pub map_replies : Pairs ℕ → List Command → List Reply
map_replies m [] = []
map_replies m (c ∷ cs) = with_reply (answer_to m c) (map_replies (map_after m c) cs)

-- whether a command is a whole call on one key, on a range of keys or on all
abbrev pub is_on_keys : Command → Bool
is_on_keys c = is_some (answer_to empty c)

-- of replies to commands, one each, those to calls on keys
abbrev pub key_replies : List Command → List Reply → List Reply
key_replies [] rs = []
key_replies (c ∷ cs) [] = []
key_replies (c ∷ cs) (r ∷ rs) = if is_on_keys c then r ∷ key_replies cs rs else key_replies cs rs

-- the command is none of `begin`, `go` and `fail`
abbrev pub IsWhole : Command → Type 0
IsWhole (command.Begin w c) = ⊥
IsWhole (command.Go w n) = ⊥
IsWhole (command.Fail w) = ⊥
IsWhole _ = ⊤

-- the reply is neither `running` nor a refusal
abbrev pub IsAnswer : Reply → Type 0
IsAnswer reply.Running = ⊥
IsAnswer (reply.Refused why) = ⊥
IsAnswer _ = ⊤

-- where no command is `begin`, `go` or `fail` and no reply is `running` or a refusal, the replies to the calls on keys are
-- those of a map that is empty at first
abbrev pub AreOfMap : List Command → List Reply → Type 0
AreOfMap cs rs = AllByRecursion IsWhole cs → AllByRecursion IsAnswer rs → key_replies cs rs ≡ map_replies empty cs

-- the commands of a line: one, or none in an empty line or a comment
abbrev pub commands_of : Line → List Command
commands_of line.Skipped = []
commands_of (line.Command c) = c ∷ []
commands_of line.Bad = []

-- the lines of a script are of these commands
abbrev pub AreCommands : List (List ℕ) → List Command → Type 0
AreCommands [] cs = cs ≡ []
AreCommands (bytes ∷ more) cs = (l : Line) × (rest : List Command) × IsLine bytes l × AreCommands more rest × (cs ≡ commands_of l ++ rest)

-- Lines print a reply to each of their commands. As far as no command is `begin`, `go` or `fail` and no reply is `running`
-- or a refusal, the replies to calls on keys are the map's.
pub record MapAnswers (lines : List (List ℕ)) (text : List ℕ) : Type 0 where
  pub commands : List Command
  pub are_commands : AreCommands lines commands
  pub replies : List Reply
  pub one_each : length replies ≡ length commands
  pub are_printed : text ≡ flat_map printed replies
  pub of_map : (n : ℕ) → AreOfMap (take n commands) (take n replies)

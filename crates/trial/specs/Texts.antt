-- The texts that replies are printed as.
use Rattle.std.specs.Prelude.{ℕ, Bool, true, false, List, [], ◌∷◌, ◌++◌, length, None, Some, Ok, Err, decimal, codes}
use Rattle.std.specs.List.{flat_map}
use Rattle.congee.specs.owned.StatsText.{stats_text}
use Rattle.judge.specs.declared.checker.Verdict.{Verdict}
use Rattle.judge.specs.declared.checker.Verdict.TheVariants as verdict
use Rattle.joint.specs.declared.refusal.Refusal.{Refusal}
use Rattle.joint.specs.declared.refusal.Refusal.TheVariants as refusal
use Rattle.trial.specs.declared.drained.Closed.{Closed}
use Rattle.trial.specs.declared.reply.Refused.{Refused}
use Rattle.trial.specs.declared.reply.Refused.TheVariants as refused
use Rattle.trial.specs.declared.reply.Reply.{Reply}
use Rattle.trial.specs.declared.reply.Reply.TheVariants as reply

-- a number after a space
abbrev pub spaced : ℕ → List ℕ
spaced n = codes " " ++ decimal n

-- the name of a refusal of the tree, with its numbers
abbrev pub refusal_text : Refusal → List ℕ
refusal_text refusal.TableFull = codes "TableFull"
refusal_text refusal.Memory = codes "Memory"
refusal_text (refusal.Budget charged wanted limit) = codes "Budget" ++ spaced charged ++ spaced wanted ++ spaced limit
refusal_text refusal.Cells = codes "Cells"
refusal_text refusal.Exhausted = codes "Exhausted"
refusal_text refusal.Unpinned = codes "Unpinned"
refusal_text refusal.Busy = codes "Busy"
refusal_text refusal.InCall = codes "InCall"
refusal_text (refusal.WorkersLeft n) = codes "WorkersLeft" ++ spaced n
refusal_text refusal.Unknown = codes "Unknown"
refusal_text refusal.Count = codes "Count"
refusal_text refusal.Foreign = codes "Foreign"
refusal_text refusal.GuardOut = codes "GuardOut"
refusal_text refusal.JournalFull = codes "JournalFull"
refusal_text refusal.Idle = codes "Idle"
refusal_text refusal.Limits = codes "Limits"
refusal_text (refusal.SharesLeft n) = codes "SharesLeft" ++ spaced n

-- the name of a refusal, with its numbers
abbrev pub refused_text : Refused → List ℕ
refused_text refused.NoTree = codes "NoTree"
refused_text refused.Open = codes "Open"
refused_text (refused.Tree r) = refusal_text r

-- a pair that a scan found
abbrev pub pair_text : ℕ × ℕ → List ℕ
pair_text pair = codes " " ++ decimal pair.0 ++ codes ":" ++ decimal pair.1

-- the pairs that a scan found, one after another
abbrev pub pairs_text : List (ℕ × ℕ) → List ℕ
pairs_text pairs = flat_map pair_text pairs

-- a pair of a tree that was closed, on a line of its own
abbrev pub drained_text : ℕ × ℕ → List ℕ
drained_text pair = codes "drain" ++ spaced pair.0 ++ spaced pair.1 ++ 10 ∷ []

-- whether a journal is legal, or the first entry that isn't
abbrev pub verdict_text : Verdict → List ℕ
verdict_text verdict.Legal = codes " legal"
verdict_text (verdict.Wrong place) = codes " wrong" ++ spaced place

-- what a tree that was closed told
abbrev pub closed_text : Closed → List ℕ
closed_text c = flat_map drained_text c.pairs ++ codes "closed" ++ spaced c.charge

-- a truth value
abbrev pub truth_text : Bool → List ℕ
truth_text true = codes "true"
truth_text false = codes "false"

-- a reply without its line feed
abbrev pub reply_text : Reply → List ℕ
reply_text reply.Ok = codes "ok"
reply_text (reply.Worker w) = codes "worker" ++ spaced w
reply_text (reply.Value None) = codes "none"
reply_text (reply.Value (Some v)) = codes "some" ++ spaced v
reply_text (reply.Pair old None) = codes "pair" ++ spaced old ++ codes " none"
reply_text (reply.Pair old (Some new)) = codes "pair" ++ spaced old ++ spaced new
reply_text (reply.Exchanged (Ok None)) = codes "ok none"
reply_text (reply.Exchanged (Ok (Some v))) = codes "ok some" ++ spaced v
reply_text (reply.Exchanged (Err None)) = codes "err none"
reply_text (reply.Exchanged (Err (Some v))) = codes "err some" ++ spaced v
reply_text (reply.Range pairs) = codes "range" ++ spaced (length pairs) ++ pairs_text pairs
reply_text (reply.Keys keys) = codes "keys" ++ flat_map spaced keys
reply_text (reply.Empty b) = truth_text b
reply_text (reply.Stats stats) = stats_text stats
reply_text (reply.Closed closed) = closed_text closed
reply_text reply.Begun = codes "begun"
reply_text reply.Running = codes "running"
reply_text (reply.Charged bytes) = codes "charged" ++ spaced bytes
reply_text (reply.Waiting nodes bytes) = codes "waiting" ++ spaced nodes ++ spaced bytes
reply_text (reply.Journal entries v) = codes "journal" ++ spaced entries ++ verdict_text v
reply_text (reply.Refused r) = codes "refused " ++ refused_text r

-- a reply as it is printed; each line of a text of statistics has its line feed
abbrev pub printed : Reply → List ℕ
printed (reply.Stats stats) = stats_text stats
printed r = reply_text r ++ 10 ∷ []

-- what is printed of a line outside the grammar, by its number
abbrev pub bad_line_text : ℕ → List ℕ
bad_line_text n = codes "bad line" ++ spaced n ++ 10 ∷ []

-- The replies to what the tree tells.
use Rattle.std.specs.Prelude.{ℕ, List, take, Option, None, Some, if◌then◌else◌}
use Rattle.judge.specs.declared.journal.Reply.{Reply as MapReply}
use Rattle.judge.specs.declared.journal.Reply.TheVariants as told
use Rattle.joint.specs.declared.steps.Done.{Done}
use Rattle.joint.specs.declared.steps.Done.TheVariants as done
use Rattle.joint.specs.declared.steps.Outcome.{Outcome}
use Rattle.joint.specs.declared.steps.Outcome.TheVariants as outcome
use Rattle.trial.specs.declared.reply.Refused.TheVariants as refused
use Rattle.trial.specs.declared.reply.Reply.{Reply}
use Rattle.trial.specs.declared.reply.Reply.TheVariants as reply
use Rattle.joint.specs.Reports.{is_in_flight}

-- what a compute found, and what it put there
abbrev pub pair_of : Option (ℕ × Option ℕ) → Reply
pair_of None = reply.Value None
pair_of (Some pair) = reply.Pair pair.0 pair.1

-- the reply to a call on one key
abbrev pub reply_to : MapReply ℕ → Reply
reply_to (told.Get found) = reply.Value found
reply_to (told.Insert found) = reply.Value found
reply_to (told.Remove found) = reply.Value found
reply_to (told.ComputePresent pair) = pair_of pair
reply_to (told.ComputeInsert found) = reply.Value found
reply_to (told.Exchange exchanged) = reply.Exchanged exchanged

-- to a call that has ended, with the pairs that it told, place by place, where it is a scan
abbrev pub ending : List (ℕ × ℕ) → Done ℕ → Reply
ending places done.Unit = reply.Ok
ending places (done.Reply told) = reply_to told
ending places (done.Scanned count) = reply.Range (take count places)
ending places (done.Keys keys) = reply.Keys keys.items
ending places (done.Empty b) = reply.Empty b
ending places (done.Stats stats) = reply.Stats stats

-- the reply to a call that stands so
abbrev pub reply_of : List (ℕ × ℕ) → Outcome ℕ → Reply
reply_of places outcome.Running = reply.Running
reply_of places (outcome.Asks found) = reply.Running
reply_of places (outcome.Found place key value) = reply.Running
reply_of places (outcome.Registered who) = reply.Worker who
reply_of places (outcome.Done d) = ending places d
reply_of places (outcome.Refused r) = reply.Refused (refused.Tree r)

-- the reply to a call that is only begun
abbrev pub begun_of : List (ℕ × ℕ) → Outcome ℕ → Reply
begun_of places o = if is_in_flight o then reply.Begun else reply_of places o

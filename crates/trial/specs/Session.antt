-- What a command does to the tree of a session, and how it is replied to.
use Rattle.std.specs.Prelude.{◌≡◌, ◌<◌, ◌⊎◌, ℕ, zero, suc, Bool, true, false, ◌&&◌, nat_eq, nat_lt, if◌then◌else◌, List, [], MatchOption, Option, None, Some, IfSome, Result, Ok, Err, ◌^◌, ◌-◌, length}
use Rattle.std.specs.FinMap.{entries}
use Rattle.std.specs.List.{sum_by}
use Rattle.crossbeam_epoch.specs.world.Ending.{registered_in}
use Rattle.judge.specs.declared.checker.Verdict.TheVariants as verdict
use Rattle.judge.specs.Answer.{Pairs}
use Rattle.judge.specs.Journal.{IsLegal}
use Rattle.congee.specs.Keys.{IsMapOf}
use Rattle.joint.specs.declared.limits.Limits.{Limits}
use Rattle.joint.specs.declared.refusal.Refusal.{Refusal}
use Rattle.joint.specs.declared.refusal.Refusal.TheVariants as refusal
use Rattle.joint.specs.declared.steps.Op.{Op}
use Rattle.joint.specs.declared.steps.Op.TheVariants as op
use Rattle.joint.specs.declared.steps.Outcome.{Outcome}
use Rattle.joint.specs.declared.steps.Outcome.TheVariants as outcome
use Rattle.joint.specs.Limits.{usual}
use Rattle.joint.specs.nodes.Listing.{bytes_of}
use Rattle.joint.specs.engine.Census.{waiting_nodes}
use Rattle.joint.specs.engine.Log.{opened_log}
use Rattle.joint.specs.nodes.Opening.{HasPlaces, IsOpened, IsUnjournaled, IsUnopened}
use Rattle.joint.specs.nodes.Nodes.{nodes}
use Rattle.joint.specs.engine.Engine.{IsFresh, World}
use Rattle.joint.specs.world.World.{Holds}
use Rattle.trial.specs.declared.caller.Closure.{Closure}
use Rattle.trial.specs.declared.caller.Closure.TheVariants as closure
use Rattle.trial.specs.declared.command.Opening.{Opening}
use Rattle.trial.specs.declared.command.LineCall.{LineCall}
use Rattle.trial.specs.declared.command.LineCall.TheVariants as call
use Rattle.trial.specs.declared.command.Command.{Command}
use Rattle.trial.specs.declared.command.Command.TheVariants as command
use Rattle.trial.specs.declared.open_tree.OpenTree.{OpenTree}
use Rattle.trial.specs.declared.reply.Refused.{Refused}
use Rattle.trial.specs.declared.reply.Refused.TheVariants as refused
use Rattle.trial.specs.declared.reply.Reply.{Reply}
use Rattle.trial.specs.declared.reply.Reply.TheVariants as reply
use Rattle.trial.specs.Calling.{IsUncalled, Registers, Begins, Goes, GoesOn, Calls}
use Rattle.trial.specs.Places.{places_at, given, left}
use Rattle.trial.specs.Replies.{reply_of, begun_of}

-- the tree that is open, if there is one
abbrev pub Session : Type 0
Session = Option OpenTree

-- the tree's operation that a call asks for
abbrev pub op_of : LineCall → Op ℕ
op_of call.Pin = op.Pin
op_of call.Unpin = op.Unpin
op_of call.Repin = op.Repin
op_of call.Flush = op.Flush
op_of call.Release = op.Release
op_of (call.Get k) = op.Get k
op_of (call.Remove k) = op.Remove k
op_of (call.Insert k v) = op.Insert k v
op_of (call.PresentAdd k n) = op.ComputePresent k
op_of (call.PresentDrop k) = op.ComputePresent k
op_of (call.OrInsert k n) = op.ComputeInsert k
op_of (call.Exchange k old new) = op.Exchange k old (Some new)
op_of (call.ExchangeDrop k old) = op.Exchange k old None
op_of (call.Range start end size) = op.Range start end size
op_of (call.Through start last size) = op.RangeInclusive start last size
op_of call.Keys = op.Keys
op_of call.Empty = op.IsEmpty
op_of call.Stats = op.Stats

-- what it answers where it asks
abbrev pub closure_of : LineCall → Option Closure
closure_of (call.PresentAdd k n) = Some (closure.Add n)
closure_of (call.PresentDrop k) = Some closure.Drop
closure_of (call.OrInsert k n) = Some (closure.Put n)
closure_of _ = None

-- whether a command closes the tree
abbrev pub closes : Command → Bool
closes command.Close = true
closes _ = false

-- why an outcome is a refusal, if it is one
abbrev pub refusal_of : Outcome ℕ → Option Refusal
refusal_of (outcome.Refused r) = Some r
refusal_of _ = None

-- the first refusal of two
abbrev pub first_of_two : Option Refusal → Option Refusal → Option Refusal
first_of_two (Some r) next = Some r
first_of_two None next = next

-- A round's flush and unpin, after its pin: the pin goes also where the flush is refused.
abbrev pub Unwinds : OpenTree → ℕ → OpenTree → Option Refusal → Type 0
Unwinds pinned who new first = (flushed : OpenTree) × (flush unpin : Outcome ℕ) × Calls pinned who op.Flush None flush flushed
    × Calls flushed who op.Unpin None unpin new × (first ≡ first_of_two (refusal_of flush) (refusal_of unpin))

-- what follows a round's pin that was refused so, or wasn't
abbrev pub AfterPin : Option Refusal → OpenTree → ℕ → OpenTree → Option Refusal → Type 0
AfterPin (Some r) pinned who new first = (new ≡ pinned) × (first ≡ Some r)
AfterPin None pinned who new first = Unwinds pinned who new first

-- one round of a worker, and the first refusal in it
abbrev pub Round : OpenTree → ℕ → OpenTree → Option Refusal → Type 0
Round old who new first = (pinned : OpenTree) × (pin : Outcome ℕ) × Calls old who op.Pin None pin pinned × AfterPin (refusal_of pin) pinned who new first

-- so many rounds, up to the first refusal
abbrev pub Rounds : ℕ → OpenTree → ℕ → OpenTree → Reply → Type 0
Rounds zero old who new r = (new ≡ old) × (r ≡ reply.Ok)
Rounds (suc k) old who new r = (mid : OpenTree) × (first : Option Refusal) × Round old who mid first
    × MatchOption first (Rounds k mid who new r) (λ e. (new ≡ mid) × (r ≡ reply.Refused (refused.Tree e)))

-- a call that stands so gave its places away, and nothing else changed
pub record GaveAway (old : OpenTree) (who : ℕ) (stands : Outcome ℕ) (new : OpenTree) : Type 0 where
  pub scans : new.scans.items ≡ left stands who old.scans.items
  pub world : new.world ≡ old.world
  pub callers : new.callers ≡ old.callers

-- the reply to a worker's call that stands so
abbrev pub Replies : OpenTree → ℕ → Outcome ℕ → OpenTree → Reply → Type 0
Replies old who stands new r = GaveAway old who stands new × (r ≡ reply_of (given stands (places_at old.scans.items who)) stands)

-- and to one that is only begun
abbrev pub RepliesBegun : OpenTree → ℕ → Outcome ℕ → OpenTree → Reply → Type 0
RepliesBegun old who stands new r = GaveAway old who stands new × (r ≡ begun_of (given stands (places_at old.scans.items who)) stands)

-- a call of a worker, replied to by how it stands
abbrev pub CallReplies : Op ℕ → Option Closure → OpenTree → ℕ → OpenTree → Reply → Type 0
CallReplies o f old who new r = (stands : Outcome ℕ) × (mid : OpenTree) × Calls old who o f stands mid × Replies mid who stands new r

-- its first step alone
abbrev pub BeginReplies : Op ℕ → Option Closure → OpenTree → ℕ → OpenTree → Reply → Type 0
BeginReplies o f old who new r = (stands : Outcome ℕ) × (mid : OpenTree) × Begins old who o f stands mid × RepliesBegun mid who stands new r

-- so many further steps of the worker's call in flight
abbrev pub GoReplies : ℕ → OpenTree → ℕ → OpenTree → Reply → Type 0
GoReplies most old who new r = (stands : Outcome ℕ) × (mid : OpenTree) × GoesOn who most old outcome.Running stands mid × Replies mid who stands new r

-- one whose upgrade fails
abbrev pub FailReplies : OpenTree → ℕ → OpenTree → Reply → Type 0
FailReplies old who new r = (stands : Outcome ℕ) × (mid : OpenTree) × Goes old who true stands mid × Replies mid who stands new r

-- What is told of a journal: as many as it has entries, and that they are legal; there is none where no journal is kept. Or
-- memory was refused for what judges them.
pub record JournalReplies (s : World ℕ) (r : Reply) : Type 0 where
  pub legal : IsLegal nat_eq s.log.entries
  pub none : s.log.places ≡ 0 → s.log.entries ≡ []
  pub reply : (r ≡ reply.Journal (length s.log.entries) verdict.Legal) ⊎ (r ≡ reply.Refused (refused.Tree refusal.Memory))

-- what a command does to an open tree, and its reply
abbrev pub Asks : OpenTree → Command → OpenTree → Reply → Type 0
Asks old command.Register new r = (told : Outcome ℕ) × Registers old told new × (r ≡ reply_of [] told)
Asks old command.Charged new r = (new ≡ old) × (r ≡ reply.Charged old.world.forest.charge)
Asks old command.Waiting new r = (new ≡ old)
    × (r ≡ reply.Waiting (length (waiting_nodes old.world)) (sum_by (bytes_of old.world.forest) (waiting_nodes old.world)))
Asks old command.Journal new r = (new ≡ old) × JournalReplies old.world r
Asks old (command.Call w c) new r = CallReplies (op_of c) (closure_of c) old w new r
Asks old (command.Begin w c) new r = BeginReplies (op_of c) (closure_of c) old w new r
Asks old (command.Go w n) new r = GoReplies n old w new r
Asks old (command.Fail w) new r = FailReplies old w new r
Asks old (command.Round w n) new r = Rounds n old w new r
Asks old _ new r = ⊥

-- the line is refused, and the session stays as it was
abbrev pub Refuses : Refused → Session → Session → Reply → Type 0
Refuses why old new r = (new ≡ old) × (r ≡ reply.Refused why)

-- limits with this greatest version, where one is given
abbrev pub versioned : Option ℕ → Limits → Limits
versioned None limits = limits
versioned (Some v) limits = record limits { version_max = v }

-- so many workers and cells, if they are numbers of 32 bits, and the greatest version
abbrev pub limits_of : Opening → Option Limits
limits_of o = if nat_lt o.participants (2 ^ 32) && nat_lt o.cells (2 ^ 32) then Some (versioned o.version (usual o.participants o.cells)) else None

-- the most bytes that the nodes may take
abbrev pub budget_or : Option ℕ → ℕ
budget_or None = 2 ^ 64 - 1
budget_or (Some n) = n

-- the same of an opening
abbrev pub budget_of : Opening → ℕ
budget_of o = budget_or o.limit

-- the tree that was open is closed: its pairs are told in ascending order, and what was charged before it is left
pub record Closed (old : OpenTree) (new : Session) (r : Reply) : Type 0 where
  pub none : new ≡ None
  pub no_worker : registered_in old.world.forest.collector ≡ 0
  pub pairs : List (ℕ × ℕ)
  pub all : (m : Pairs ℕ) → IsMapOf (nodes old.world.forest) m → pairs ≡ entries m
  pub reply : r ≡ reply.Closed (record { pairs = pairs; charge = old.world.forest.base })

-- or isn't, while workers are registered
pub record StaysOpen (old : OpenTree) (new : Session) (r : Reply) : Type 0 where
  pub same : new ≡ Some old
  pub workers : 0 < registered_in old.world.forest.collector
  pub reply : r ≡ reply.Refused (refused.Tree (refusal.WorkersLeft (registered_in old.world.forest.collector)))

-- the places of the journal, none where none is asked for
abbrev pub journal_places : Option ℕ → ℕ
journal_places None = 0
journal_places (Some places) = places

-- why there is no tree
abbrev pub IsRefused : Limits → Option ℕ → ℕ → ℕ → Refusal → Type 0
IsRefused limits None charge limit e = IsUnopened limits charge limit e
IsRefused limits (Some places) charge limit e = IsUnjournaled limits places charge limit e

-- a tree with a root alone and this journal, of which all that always does holds, or why there is none
abbrev pub Opens : Limits → Option ℕ → ℕ → ℕ → Result (World ℕ) Refusal → Type 0
Opens limits journal charge limit (Ok world) = IsOpened limits charge limit world.forest × IsFresh world × IfSome journal HasPlaces
    × (world.log ≡ opened_log limits.epoch.participants (journal_places journal)) × Holds nat_eq true world
Opens limits journal charge limit (Err e) = IsRefused limits journal charge limit e

-- a tree is opened so, or refused
abbrev pub Opened : Result (World ℕ) Refusal → Session → Reply → Type 0
Opened (Ok world) new r = (index : OpenTree) × IsUncalled world index × (new ≡ Some index) × (r ≡ reply.Ok)
Opened (Err e) new r = (new ≡ None) × (r ≡ reply.Refused (refused.Tree e))

-- the limits that an opening names and its journal, and what the tree says to them
abbrev pub OpensWith : Option Limits → Option ℕ → ℕ → Session → Reply → Type 0
OpensWith None journal budget new r = Refuses (refused.Tree refusal.Limits) None new r
OpensWith (Some limits) journal budget new r = (result : Result (World ℕ) Refusal) × Opens limits journal 0 budget result × Opened result new r

-- what a command does to a session, and its reply
abbrev pub Answers : Session → Command → Session → Reply → Type 0
Answers None (command.New o) new r = OpensWith (limits_of o) o.journal (budget_of o) new r
Answers None c new r = Refuses refused.NoTree None new r
Answers (Some old) (command.New o) new r = Refuses refused.Open (Some old) new r
Answers (Some old) command.Close new r = Closed old new r ⊎ StaysOpen old new r
Answers (Some old) c new r = (index : OpenTree) × (new ≡ Some index) × Asks old c index r

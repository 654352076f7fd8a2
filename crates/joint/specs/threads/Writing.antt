-- Calls on an index with a journal, turn by turn: each holds the lock, and goes on only while it is itself in flight.
use Rattle.std.specs.Prelude.{◌≡◌, ◌⊎◌, ℕ, ◌-◌, ◌<◌, ◌++◌, Bool, true, false, not, nat_eq, List, [], ◌∷◌, Option, None, Some, Result, Ok, Err, Vec, slice_get}
use Rattle.std.specs.declared.alloc.Global.{Global}
use Rattle.judge.specs.declared.journal.Entry.{Entry}
use Rattle.judge.specs.Answer.{reply_on}
use Rattle.joint.specs.declared.refusal.Refusal.{Refusal}
use Rattle.joint.specs.declared.refusal.Refusal.TheVariants.{Idle, Memory, SharesLeft}
use Rattle.joint.specs.declared.steps.Done.TheVariants as done
use Rattle.joint.specs.declared.steps.Event.{Event}
use Rattle.joint.specs.declared.steps.Event.TheVariants.{Register, Begin, Go}
use Rattle.joint.specs.declared.steps.Op.{Op}
use Rattle.joint.specs.declared.steps.Outcome.{Outcome}
use Rattle.joint.specs.declared.steps.Outcome.TheVariants.{Running, Asks, Done, Refused}
use Rattle.joint.specs.declared.steps.Report.{Report}
use Rattle.joint.specs.declared.steps.Step.{Step}
use Rattle.joint.specs.Changes.{changes}
use Rattle.joint.specs.threads.Driving.{AreTurns, Turn, ended}
use Rattle.joint.specs.threads.Journals.{IsCounted, IsJournal, count_watched}
use Rattle.joint.specs.engine.Journaling.{HasAnswer, asks_at, call_of, has_place, in_list, one_where}
use Rattle.joint.specs.engine.Log.{with_answer, request_at}
use Rattle.joint.specs.world.MapSteps.{looks_up}
use Rattle.joint.specs.threads.Shares.{ShareView, counts_more}
use Rattle.joint.specs.threads.Threads.{End}
use Rattle.joint.specs.world.World.{Holds, IsStep}
use Rattle.joint.specs.engine.Engine.{World}

-- the worker has this call in flight, which took this answer of its closure last
abbrev pub IsInFlight : World ℕ → ℕ → Op ℕ → Option (Option ℕ) → Type 0
IsInFlight s who op given = request_at s.log.requests who ≡ Some (record { op = op; answer = given })

-- what a writing call has come to: the last answer of its closure, its entry in the journal, and its caller's share
pub record Progress : Type 0 where
  pub given : Option (Option ℕ)
  pub entry : Option (Entry ℕ)
  pub share : ShareView

-- the last answer that a call with this one before takes, after an event
abbrev pub given_after : Op ℕ → Option (Option ℕ) → Event ℕ → Option (Option ℕ)
given_after op given (Go noise) = (with_answer noise.answer (record { op = op; answer = given })).answer
given_after op given _ = given

-- and after these turns
abbrev pub given_by_turns : Op ℕ → Option (Option ℕ) → List (Turn ℕ) → Option (Option ℕ)
given_by_turns op given [] = given
given_by_turns op given (t ∷ ts) = given_by_turns op (given_after op given t.step.event) ts

-- the entry is this call's
pub record IsEntryOf (who : ℕ) (op : Op ℕ) (given : Option (Option ℕ)) (e : Entry ℕ) : Type 0 where
  pub worker : e.worker ≡ who
  pub call : call_of op given e.reply ≡ Some e.call
  pub answered : HasAnswer op given e.reply

-- a call ends with its entry's reply, and is idle where it has none
abbrev pub settled : Option (Entry ℕ) → Outcome ℕ
settled None = Refused Idle
settled (Some e) = Done (done.Reply e.reply)

-- so a call with this entry tells the outcome of a hold
abbrev pub told_with : Option (Entry ℕ) → Outcome ℕ → Outcome ℕ
told_with e Running = Running
told_with e (Asks found) = Asks found
told_with None (Refused cause) = Refused cause
told_with e _ = settled e

-- what a share counts of an entry
abbrev pub weight : (Entry ℕ → Bool) → Option (Entry ℕ) → ℕ
weight watched None = 0
weight watched (Some e) = one_where (watched e)

-- a call with this entry, if there is one
abbrev pub noted : (Entry ℕ → Bool) → Progress → Option (Entry ℕ) → Progress
noted watched p None = p
noted watched p (Some e) = record p { entry = Some e; share = counts_more p.share (one_where (watched e)) }

-- a hold appends no entry, or the call's only one, which its share counts where it is watched
abbrev pub Appends : (Entry ℕ → Bool) → ℕ → Op ℕ → Option (Option ℕ) → Progress → Option (Entry ℕ) → Progress → Type 0
Appends watched who op given p None p' = p' ≡ noted watched (record p { given = given }) None
Appends watched who op given p (Some e) p' = (p.entry ≡ None) × IsEntryOf who op given e × (p' ≡ noted watched (record p { given = given }) (Some e))

-- a step of a call may be taken: it is its begin; or the worker has it in flight, and an answer comes only where it is
-- wanted
abbrev pub MayStep : World ℕ → ℕ → Op ℕ → Option (Option ℕ) → Event ℕ → Type 0
MayStep s who op given Register = ⊥
MayStep s who op given (Begin o) = Unit {0}
MayStep s who op given (Go noise) = IsInFlight s who op given × ((a : Option ℕ) → noise.answer ≡ Some a → asks_at (slice_get s.machines who) ≡ true)

-- a hold of a writing call takes its step of the machine that stands, in which it is its worker's call in flight
pub record HoldsWriting (watched : Entry ℕ → Bool) (who : ℕ) (op : Op ℕ) (p : Progress) (s : World ℕ) (step : Step ℕ) (r : Report ℕ) (p' : Progress) (s' : World ℕ) : Type 0 where
  pub own : MayStep s who op p.given step.event
  pub told : Report ℕ
  pub takes : IsStep nat_eq true s step told s'
  pub appended : Option (Entry ℕ)
  pub entries : s'.log.entries ≡ s.log.entries ++ in_list appended
  pub appends : Appends watched who op (given_after op p.given step.event) p appended p'
  pub tells : r ≡ record told { outcome = told_with p'.entry told.outcome }

-- what a step appends to the journal: nothing, or the entry of the worker's call, which had its place if it writes
pub record Appended (s s' : World ℕ) (who : ℕ) (op : Op ℕ) (given : Option (Option ℕ)) (event : Event ℕ) (entry : Option (Entry ℕ)) : Type 0 where
  pub entries : s'.log.entries ≡ s.log.entries ++ in_list entry
  pub places : s'.log.places ≡ s.log.places
  pub of : (e : Entry ℕ) → entry ≡ Some e → IsEntryOf who op (given_after op given event) e
  pub had : (e : Entry ℕ) → entry ≡ Some e → has_place (slice_get s.calls who) (slice_get s.machines who) ≡ not (looks_up e.call)

-- where its step may not be taken a call that doesn't write is idle, and leaves the machine as it is
pub record StopsReading (who : ℕ) (op : Op ℕ) (s : World ℕ) (step : Step ℕ) (r : Report ℕ) (s' : World ℕ) : Type 0 where
  pub holds : Holds nat_eq true s
  pub why : changes op ≡ false → MayStep s who op None step.event → ⊥
  pub idle : r.outcome ≡ Refused Idle
  pub stays : s' ≡ s

-- a hold of it takes its step of the machine that stands, in which it is its worker's call in flight
pub record HoldsReading (who : ℕ) (op : Op ℕ) (s : World ℕ) (step : Step ℕ) (r : Report ℕ) (s' : World ℕ) : Type 0 where
  pub own : MayStep s who op None step.event
  pub takes : IsStep nat_eq true s step r s'

-- a turn of it, on the machine that stands: a hold, or none
abbrev pub ReadingTurn : World ℕ → ℕ → Op ℕ → Step ℕ → Report ℕ → World ℕ → Type 0
ReadingTurn s who op step r s' = HoldsReading who op s step r s' ⊎ StopsReading who op s step r s'

-- the same, in whatever state others have left it
abbrev pub Reads : ℕ → Op ℕ → Step ℕ → Report ℕ → Type 0
Reads who op step r = (s : World ℕ) × (s' : World ℕ) × ReadingTurn s who op step r s'

-- a call that has its entry won't have another
abbrev pub WontRepeat : World ℕ → ℕ → Option (Entry ℕ) → Type 0
WontRepeat s who entry = (e : Entry ℕ) → entry ≡ Some e → has_place (slice_get s.calls who) (slice_get s.machines who) ≡ false

-- where its step may not be taken a writing call ends with what it has, and leaves the machine as it is
pub record StopsWriting (who : ℕ) (op : Op ℕ) (p : Progress) (s : World ℕ) (step : Step ℕ) (r : Report ℕ) (p' : Progress) (s' : World ℕ) : Type 0 where
  pub holds : Holds nat_eq true s
  pub why : MayStep s who op p.given step.event → WontRepeat s who p.entry → ⊥
  pub same : p' ≡ p
  pub ends : r.outcome ≡ settled p.entry
  pub stays : s' ≡ s

-- a turn of it, on the machine that stands: a hold, or none
abbrev pub WritingTurn : (Entry ℕ → Bool) → ℕ → Op ℕ → Progress → World ℕ → Step ℕ → Report ℕ → Progress → World ℕ → Type 0
WritingTurn watched who op p s step r p' s' = HoldsWriting watched who op p s step r p' s' ⊎ StopsWriting who op p s step r p' s'

-- the same, in whatever state others have left it
abbrev pub IsWritingTurn : (Entry ℕ → Bool) → ℕ → Op ℕ → Progress → Step ℕ → Report ℕ → Progress → Type 0
IsWritingTurn watched who op p step r p' = (s : World ℕ) × (s' : World ℕ) × WritingTurn watched who op p s step r p' s'

-- the reply of a call's entry is what a map answers
abbrev pub IsAnswered : Entry ℕ → Type 0
IsAnswered e = (found : Option ℕ) × (e.reply ≡ reply_on nat_eq e.call found)

-- it answers the reply of its entry, which has its worker and itself, with the last answer that its closure gave up to some
-- turn; its share counts one where that entry is watched, and nothing of a refused call
abbrev pub Counts : (Entry ℕ → Bool) → ℕ → Op ℕ → List (Turn ℕ) → ShareView → ShareView → End ℕ → Type 0
Counts watched who op ts share share' (Ok (done.Reply reply)) = (e : Entry ℕ) × (before : List (Turn ℕ)) × (after : List (Turn ℕ)) × (ts ≡ before ++ after) × IsEntryOf who op (given_by_turns op None before) e
    × IsAnswered e × (e.reply ≡ reply) × (share' ≡ counts_more share (one_where (watched e)))
Counts watched who op ts share share' (Err refusal) = share' ≡ share
Counts watched who op ts share share' _ = ⊥

-- before its first turn
abbrev pub unwritten : ShareView → Progress
unwritten share = record { given = None; entry = None; share = share }

-- a whole writing call with this closure, by a caller with this share; what it answers is read off its end
abbrev pub Writes : {F B : Type 0} → (Entry ℕ → Bool) → (F → Option ℕ → Option ℕ → F → Type 0) → ℕ → Op ℕ → F → (End ℕ → B) → ShareView → ShareView → B → Type 0
Writes watched calls who op f reads share share' result = (end : End ℕ) × (ts : List (Turn ℕ)) × (p : Progress)
    × AreTurns {Q = ℕ × ℕ} (IsWritingTurn watched who op) calls (λ k v. (k, v)) who op (unwritten share) f None [] ts p [] (ended end)
    × Counts watched who op ts share share' end × (result ≡ reads end)

-- one that asks nobody
abbrev pub WritesMute : {B : Type 0} → (Entry ℕ → Bool) → ℕ → Op ℕ → (End ℕ → B) → ShareView → ShareView → B → Type 0
WritesMute watched who op reads share share' result = Writes {F = Unit {0}} watched (λ _ _ _ _. Unit {0}) who op (tt {0}) reads share share' result

-- a share of all parts tells its count, which is the number of watched writing calls among these entries; one that lacks
-- parts is refused
abbrev pub GathersOf : (Entry ℕ → Bool) → ℕ → List (Entry ℕ) → ShareView → Result ℕ Refusal → Type 0
GathersOf watched parts entries share (Ok n) = (share.parts ≡ parts) × (n ≡ share.count) × (n ≡ count_watched watched entries)
GathersOf watched parts entries share (Err e) = (share.parts < parts) × (e ≡ SharesLeft (parts - share.parts))

-- the same, among those of a journal such as the lock keeps
abbrev pub Gathers : (Entry ℕ → Bool) → ℕ → ShareView → Result ℕ Refusal → Type 0
Gathers watched parts share (Ok n) = (share.parts ≡ parts) × (n ≡ share.count) × IsCounted watched n
Gathers watched parts share (Err e) = (share.parts < parts) × (e ≡ SharesLeft (parts - share.parts))

-- the same with those entries, for which there may be no memory
abbrev pub GathersJournal : (Entry ℕ → Bool) → ℕ → ShareView → Result (ℕ × Vec (Entry ℕ) Global) Refusal → Type 0
GathersJournal watched parts share (Ok r) = IsJournal r.1.items × (share.parts ≡ parts) × (r.0 ≡ share.count) × (r.0 ≡ count_watched watched r.1.items)
GathersJournal watched parts share (Err e) = (e ≡ Memory) ⊎ ((share.parts < parts) × (e ≡ SharesLeft (parts - share.parts)))

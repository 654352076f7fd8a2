-- The machine: what each step answers and leaves.
use Rattle.std.specs.Prelude.{◌≡◌, ℕ, ◌+◌, ◌==◌, nat_le, nat_lt, ◌&&◌, Bool, true, false, not, List, [], ◌∷◌, ◌-◌, ◌^◌, length, Option, Some, None, is_none, is_some, if◌then◌else◌, slice_index_or, MatchOption}
use Rattle.crossbeam_epoch.specs.declared.bag.Deferral.{Deferral}
use Rattle.crossbeam_epoch.specs.declared.names.Name.{Name}
use Rattle.crossbeam_epoch.specs.declared.world.participant.Participant.{Participant}
use Rattle.crossbeam_epoch.specs.declared.world.participant.Phase.{Phase}
use Rattle.crossbeam_epoch.specs.declared.world.participant.Phase.TheVariants as P
use Rattle.crossbeam_epoch.specs.declared.world.report.Op.{Op}
use Rattle.crossbeam_epoch.specs.declared.world.report.Op.TheVariants.{Pin, Unpin, Repin, Flush, Release, Secure}
use Rattle.crossbeam_epoch.specs.declared.world.report.Event.{Event}
use Rattle.crossbeam_epoch.specs.declared.world.report.Event.TheVariants.{Begin, Go}
use Rattle.crossbeam_epoch.specs.declared.world.report.Step.{Step}
use Rattle.crossbeam_epoch.specs.declared.fault.Fault.{Fault}
use Rattle.crossbeam_epoch.specs.declared.fault.Fault.TheVariants.{Memory, Unpinned, Busy, Count, GuardOut, Unknown, Limits, InCall}
use Rattle.crossbeam_epoch.specs.declared.fault.Fault.TheVariants as F
use Rattle.crossbeam_epoch.specs.declared.world.report.Outcome.{Outcome}
use Rattle.crossbeam_epoch.specs.declared.world.report.Outcome.TheVariants.{Running, Done, Refused}
use Rattle.crossbeam_epoch.specs.declared.world.report.Report.{Report}
use Rattle.crossbeam_epoch.specs.world.History as H
use Rattle.crossbeam_epoch.specs.world.History.{Mark}
use Rattle.crossbeam_epoch.specs.world.Machine.{State, blank, place, with_place, in_phase, published, relooked, repinned, advanced, queued, released, secured, inspected, took, called, destroys, no_entry}
use Rattle.crossbeam_epoch.specs.world.Store.{Store, value_at}
use Rattle.crossbeam_epoch.specs.Limits.{bag_places}

-- a fault where a test holds
abbrev pub when : Bool → Fault → Option Fault
when b f = if b then Some f else None

-- the fault of a call that can't begin at a place without a call in flight
abbrev pub begin_fault : {J : Type 0} → Op → Participant J → Option Fault
begin_fault Pin p = when (p.guards == 65535) Count
begin_fault Unpin p = when (is_none p.word) Unpinned
begin_fault Repin p = when (is_none p.word) Unpinned
begin_fault Flush p = when (is_none p.word) Unpinned
begin_fault Release p = when (is_some p.word) GuardOut
begin_fault (Secure n) p = if is_none p.word then Some Unpinned else when (not (nat_lt 0 n && nat_le n bag_places)) Limits

-- the fault of a call that begins in mid-call
abbrev pub busy_fault : Op → Fault
busy_fault Pin = Busy
busy_fault Unpin = InCall
busy_fault Repin = InCall
busy_fault Flush = InCall
busy_fault Release = InCall
busy_fault (Secure n) = Busy

-- the fault of an event at a place, by the phase that it is in
abbrev pub event_fault : {J : Type 0} → Event → Phase → Participant J → Option Fault
event_fault (Begin op) P.Idle p = begin_fault op p
event_fault (Begin op) _ p = Some (busy_fault op)
event_fault Go P.Idle p = Some F.Idle
event_fault Go _ p = None

-- the fault of a step, if it has one: the first in the order of precedence
abbrev pub fault : {T J : Type 0} → State T J → ℕ → Event → Option Fault
fault s who event = if (place s who).registered then event_fault event (place s who).phase (place s who) else Some Unknown

-- a call begins at a place without a call in flight
abbrev pub begun_at : {J : Type 0} → Op → Participant J → Participant J
begun_at Pin p = if is_none p.word then record p { phase = P.Look } else record p { guards = p.guards + 1 }
begun_at Unpin p = if nat_le p.guards 1 then record p { word = None; guards = 0 } else record p { guards = p.guards - 1 }
begun_at Repin p = record p { phase = if nat_le p.guards 1 then P.RepinLook else P.Idle }
begun_at Flush p = record p { phase = if length p.bag == 0 then P.Load else P.Seal }
begun_at Release p = if length p.bag == 0 then blank else record p { phase = P.ReleaseSeal }
begun_at (Secure n) p = record p { phase = P.Secure n }

-- whether the call goes on
abbrev pub outcome_at : Phase → Outcome
outcome_at P.Idle = Done
outcome_at _ = Running

-- what a begin answers at a place without a call in flight
abbrev pub outcome_or : {J : Type 0} → Option Fault → Participant J → Outcome
outcome_or (Some f) p = Refused f
outcome_or None p = outcome_at p.phase

-- what a begin leaves at a place: the old one where it is refused
abbrev pub place_or : {J : Type 0} → Option Fault → Participant J → Participant J → Participant J
place_or (Some f) p old = old
place_or None p old = p

-- the state after a begin
abbrev pub begun : {T J : Type 0} → State T J → ℕ → Op → State T J
begun s who op = with_place s who (begun_at op (place s who))

-- a call goes on
abbrev pub gone : {T J : Type 0} → State T J → ℕ → Phase → State T J
gone s who P.Idle = s
gone s who P.Look = in_phase s who (P.Publish s.epoch)
gone s who (P.Publish seen) = with_place s who (published seen (place s who))
gone s who P.RepinLook = with_place s who (relooked s.epoch (place s who))
gone s who (P.RepinPublish seen) = with_place s who (repinned seen (place s who))
gone s who P.Seal = in_phase s who (P.Queue s.epoch)
gone s who (P.Queue seal) = queued s who seal P.Load
gone s who P.ReleaseSeal = in_phase s who (P.ReleaseQueue s.epoch)
gone s who (P.ReleaseQueue seal) = released s who seal
gone s who (P.Secure n) = with_place s who (secured n (place s who))
gone s who P.SecureSeal = in_phase s who (P.SecureQueue s.epoch)
gone s who (P.SecureQueue seal) = queued s who seal P.Idle
gone s who P.Load = in_phase s who (P.Inspect s.epoch 0)
gone s who (P.Inspect seen at) = inspected s who seen at
gone s who (P.Advance seen) = advanced s who seen
gone s who (P.Take answered bags) = took s who answered bags
gone s who (P.Call answered bags seal) = called s who answered bags seal

-- what a step leaves where nothing refuses it
abbrev pub moved : {T J : Type 0} → State T J → ℕ → Event → State T J
moved s who (Begin op) = begun s who op
moved s who Go = gone s who (place s who).phase

-- a step that queues a bag may find no memory
abbrev pub needs_memory : Event → Phase → Bool
needs_memory (Begin op) phase = false
needs_memory Go (P.Queue seal) = true
needs_memory Go (P.ReleaseQueue seal) = true
needs_memory Go (P.SecureQueue seal) = true
needs_memory Go _ = false

-- a call that finds no memory for its bag ends, and nothing else was done
abbrev pub given_up : {T J : Type 0} → State T J → ℕ → Event → State T J
given_up s who event = if needs_memory event (place s who).phase then in_phase s who P.Idle else s

-- the state after a step that was reported so
abbrev pub after : {T J : Type 0} → State T J → ℕ → Event → Outcome → State T J
after s who event (Refused Memory) = given_up s who event
after s who event (Refused _) = s
after s who event Running = moved s who event
after s who event Done = moved s who event

-- a job's ticket, and the cell that it destroys
abbrev pub called_entry : {T J : Type 0} → Store T → Deferral J → ℕ × Option Name
called_entry st e = (e.ticket, destroys st e.work)

-- the job that a step calls
abbrev pub called_by : {T J : Type 0} → Store T → Phase → List (Deferral J) → Option (ℕ × Option Name)
called_by st (P.Call answered bags seal) hand = if length hand == 0 then None else Some (called_entry st (slice_index_or hand 0 no_entry))
called_by st _ hand = None

-- the same of an event, by how its step ended
abbrev pub called_in : {T J : Type 0} → State T J → ℕ → Event → Outcome → Option (ℕ × Option Name)
called_in s who event (Refused f) = None
called_in s who (Begin op) _ = None
called_in s who Go _ = called_by s.store (place s who).phase (place s who).hand

-- the step may be reported so: a bag finds no memory only where a block is to be made for it
abbrev pub IsOutcome : {T J : Type 0} → State T J → ℕ → Event → Option Fault → Outcome → Type 0
IsOutcome s who event (Some f) outcome = outcome ≡ Refused f
IsOutcome s who event None (Refused Memory) = (needs_memory event (place s who).phase ≡ true) × (s.room ≡ 0)
IsOutcome s who event None (Refused _) = ⊥
IsOutcome s who event None Running = outcome_at (place (moved s who event) who).phase ≡ Running
IsOutcome s who event None Done = outcome_at (place (moved s who event) who).phase ≡ Done

-- a step reports how it ended, and the job that it called
pub record IsReport {T J : Type 0} (s : State T J) (who : ℕ) (event : Event) (r : Report) : Type 0 where
  pub outcome : IsOutcome s who event (fault s who event) r.outcome
  pub job : r.called ≡ called_in s who event r.outcome

-- the state after steps that were reported so
abbrev pub state_after : {T J : Type 0} → State T J → List Step → List Report → State T J
state_after s [] reports = s
state_after s (step ∷ steps) [] = s
state_after s (step ∷ steps) (r ∷ reports) = state_after (after s step.who step.event r.outcome) steps reports

-- each of the reports may be given
abbrev pub AreReports : {T J : Type 0} → State T J → List Step → List Report → Type 0
AreReports s steps [] = Unit {0}
AreReports s [] (r ∷ reports) = ⊥
AreReports s (step ∷ steps) (r ∷ reports) = IsReport s step.who step.event r × AreReports (after s step.who step.event r.outcome) steps reports

-- the fault of a deferral at a place, Count and Memory aside
abbrev pub quiet_fault : {J : Type 0} → Phase → Participant J → Option Fault
quiet_fault P.Idle p = when (is_none p.word) Unpinned
quiet_fault _ p = Some InCall

-- a fault, or Count where no ticket is left
abbrev pub or_count : ℕ → Option Fault → Option Fault
or_count next (Some f) = Some f
or_count next None = when (next == 2 ^ 64 - 1) Count

-- the fault of a deferral, Memory aside: the first in the order of precedence
abbrev pub defer_fault : {T J : Type 0} → State T J → ℕ → Option Fault
defer_fault s who = if (place s who).registered then or_count s.next (quiet_fault (place s who).phase (place s who)) else Some Unknown

-- the fault of a cell's removal, Memory aside
abbrev pub destroy_fault : {T J : Type 0} → State T J → ℕ → Name → Option Fault
destroy_fault s who name = if is_some (value_at s.store name) then defer_fault s who else Some Unknown

-- why a deferral is refused: its first fault, or the want of memory for a full bag, where a block is to be made for it
abbrev pub IsDeferralFault : {T J : Type 0} → State T J → ℕ → Option Fault → Fault → Type 0
IsDeferralFault s who first e = MatchOption first ((e ≡ Memory) × (length (place s who).bag ≡ bag_places) × (s.room ≡ 0)) (λ f. e ≡ f)

-- what a begin marks: the last guard goes
abbrev pub begin_marks : {J : Type 0} → ℕ → Participant J → Op → List Mark → List Mark
begin_marks who p Unpin h = if nat_le p.guards 1 then H.Unpinned who ∷ h else h
begin_marks who p _ h = h

-- what a step of a call in flight marks
abbrev pub phase_marks : ℕ → ℕ → Phase → Option (ℕ × Option Name) → List Mark → List Mark
phase_marks epoch who phase (Some c) h = H.Called c.0 c.1 ∷ h
phase_marks epoch who (P.Publish seen) None h = H.Pinned who epoch ∷ h
phase_marks epoch who (P.RepinPublish seen) None h = H.Repinned who epoch ∷ h
phase_marks epoch who _ None h = h

-- what an event marks
abbrev pub moved_marks : {T J : Type 0} → State T J → ℕ → Event → Option (ℕ × Option Name) → List Mark → List Mark
moved_marks s who (Begin op) called h = begin_marks who (place s who) op h
moved_marks s who Go called h = phase_marks s.epoch who (place s who).phase called h

-- a refused step marks nothing
abbrev pub unless_refused : Outcome → List Mark → List Mark → List Mark
unless_refused (Refused f) h' h = h
unless_refused Running h' h = h'
unless_refused Done h' h = h'

-- the history after a step that was reported so
abbrev pub marks : {T J : Type 0} → State T J → ℕ → Event → Report → List Mark → List Mark
marks s who event r h = unless_refused r.outcome (moved_marks s who event r.called h) h

-- the history after steps that were reported so
abbrev pub history_after : {T J : Type 0} → State T J → List Step → List Report → List Mark → List Mark
history_after s [] reports h = h
history_after s (step ∷ steps) [] h = h
history_after s (step ∷ steps) (r ∷ reports) h =
    history_after (after s step.who step.event r.outcome) steps reports (marks s step.who step.event r h)

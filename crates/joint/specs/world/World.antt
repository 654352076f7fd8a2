-- The whole machine: what always holds of it, and one step of it with what it writes down.
use Rattle.std.specs.Prelude.{◌≡◌, ℕ, ◌+◌, ◌<◌, ◌≤◌, ◌&&◌, ◌++◌, Bool, true, false, List, Option, None, Some, IsSome, is_some, length, slice_get, slice_set, if◌then◌else◌}
use Rattle.std.specs.FinMap.{empty}
use Rattle.judge.specs.Answer.{Pairs}
use Rattle.judge.specs.Journal.{Legal}
use Rattle.judge.specs.declared.journal.Entry.{Entry}
use Rattle.congee.specs.declared.protocol.op.Op.{Op as Point}
use Rattle.congee.specs.declared.protocol.op.Op.TheVariants as point
use Rattle.congee.specs.declared.protocol.phase.Kind.{Kind}
use Rattle.congee.specs.Keys.{IsMapOf}
use Rattle.congee.specs.protocol.Play.{Flight, Pending, Question, Asked, Replied, parts}
use Rattle.congee.specs.protocol.Protocol.{Asking}
use Rattle.joint.specs.declared.engine.in_flight.InFlight.TheVariants.{Idle}
use Rattle.joint.specs.declared.refusal.Refusal.TheVariants.{JournalFull}
use Rattle.joint.specs.declared.engine.request.Request.{Request}
use Rattle.joint.specs.declared.steps.Event.{Event}
use Rattle.joint.specs.declared.steps.Event.TheVariants.{Register, Begin, Go}
use Rattle.joint.specs.declared.steps.Kind.TheVariants.{Collection as OfCollector}
use Rattle.joint.specs.declared.steps.Op.{Op}
use Rattle.joint.specs.declared.steps.Op.TheVariants.{Insert, ComputePresent, ComputeInsert, Exchange}
use Rattle.joint.specs.declared.steps.Outcome.TheVariants.{Refused}
use Rattle.joint.specs.declared.steps.Report.{Report}
use Rattle.joint.specs.declared.steps.Step.{Step}
use Rattle.joint.specs.declared.steps.Target.TheVariants.{Tree}
use Rattle.joint.specs.engine.Engine.{World, engine_of, is_busy, misuse, quiet, IsOfCall, IsEngineStep, IsFresh}
use Rattle.joint.specs.engine.Flying.{Flights, AreInFlight}
use Rattle.joint.specs.nodes.Nodes.{nodes, IsCharged}
use Rattle.joint.specs.engine.Intact.{IsIntact, is_reserving}
use Rattle.joint.specs.engine.Journaling.{asks_at, entry_of, given_by, in_list, kept_if, places_of, reply_by}
use Rattle.joint.specs.engine.Log.{asked, has_room, answered_if, is_full, request_at}
use Rattle.joint.specs.Reports.{target, is_in_flight}
use Rattle.joint.specs.declared.limits.Limits.{Limits}
use Rattle.joint.specs.nodes.Opening.{IsOpened}

-- the value that a call has: the one that it was given, or its closure's last answer
abbrev pub value_of : {V : Type 0} → Op V → Option (Option V) → Option V
value_of (Insert k v) answer = Some v
value_of (ComputePresent k) answer = given_by answer
value_of (ComputeInsert k) answer = given_by answer
value_of (Exchange k old new) answer = new
value_of _ answer = None

-- the call is on one key
abbrev pub IsOnKey : {V : Type 0} → Point V → Type 0
IsOnKey (point.Range start end size) = ⊥
IsOnKey (point.RangeInclusive start last size) = ⊥
IsOnKey _ = Unit {0}

-- what the worker asked for is a call on this key, with this value
pub record IsRequestOf {V : Type 0} (q : Request V) (k : ℕ) (kind : Kind V) (v : Option V) : Type 0 where
  pub point : Point V
  pub on_tree : target q.op ≡ Tree point
  pub on_key : IsOnKey point
  pub key : (parts point).0 ≡ k
  pub same_kind : (parts point).1 ≡ kind
  pub value : value_of q.op q.answer ≡ v

-- a call on a computed value alone asks, and a question that was replied to has its answer
abbrev pub IsQuestionOf : {V : Type 0} → Kind V → Question V → Option (Option V) → Type 0
IsQuestionOf kind (Asked found) answer = Asking kind
IsQuestionOf kind (Replied found) answer = IsSome answer
IsQuestionOf kind _ answer = Unit {0}

-- a request is written down until its call takes effect
abbrev pub IsAsked : {V : Type 0} → Option (Request V) → Flight V → Type 0
IsAsked {V} o (Pending k kind v question) = (q : Request V) × (o ≡ Some q) × IsRequestOf q k kind v × IsQuestionOf kind question q.answer
IsAsked o _ = Unit {0}

-- what is written down fits the calls in flight and the pairs that stand
pub record IsLogged {V : Type 0} (same : V → V → Bool) (always : Bool) (s : World V) : Type 0 where
  pub room : length s.log.entries + s.log.reserved ≤ s.log.places
  -- a journal is kept of values that can always be copied
  pub copies : 0 < s.log.places → always ≡ true
  -- a place is reserved for each writing call past its first step, until it takes effect or is refused
  pub reserved : 0 < s.log.places → s.log.reserved ≡ places_of s.calls s.machines
  pub long : length s.log.requests ≡ length s.calls
  pub flights : Flights V
  pub in_flight : AreInFlight s flights
  pub asked : always ≡ true → (i : ℕ) → IsAsked (request_at s.log.requests i) (flights i)
  -- the journal is legal, and replays to the pairs that stand
  pub pairs : Pairs V
  pub stand : IsMapOf (nodes s.forest) pairs
  pub legal : 0 < s.log.places → Legal same empty s.log.entries pairs

-- what always holds of the machine
abbrev pub Holds : {V : Type 0} → (V → V → Bool) → Bool → World V → Type 0
Holds same always s = IsIntact same always s.forest s.machines s.calls × IsCharged s.forest × IsLogged same always s

-- a writing call is over in its first step where the journal has no place for it
abbrev pub finds_journal_full : {V : Type 0} → World V → ℕ → Event V → Bool
finds_journal_full s who (Go noise) = is_reserving (slice_get s.calls who) && is_full s.log
finds_journal_full s who _ = false

-- what the worker asked for, with the answer that its call takes in this step
abbrev pub answered_request : {V : Type 0} → World V → ℕ → Event V → Option (Request V)
answered_request s who (Go noise) = answered_if (asks_at (slice_get s.machines who)) noise.answer (request_at s.log.requests who)
answered_request s who _ = request_at s.log.requests who

-- what the workers asked for, after a step whose report says whether the worker's call is in flight
abbrev pub requests_after : {V : Type 0} → World V → ℕ → Event V → Bool → List (Option (Request V))
requests_after s who Register on = s.log.requests
requests_after s who (Begin op) on = if on then slice_set s.log.requests who (asked op) else s.log.requests
requests_after s who (Go noise) on = slice_set s.log.requests who (if on then answered_request s who (Go noise) else None)

-- the entry of a call that takes effect in this step, with the reply that it tells in the end
abbrev pub entry_at : {V : Type 0} → World V → ℕ → Event V → Report V → World V → Option (Entry V)
entry_at s who event told s' = entry_of who (answered_request s who event) (reply_by told.outcome (slice_get s'.machines who))

-- the entry that the step writes down, where a place is free that nobody has reserved: a writing call no longer has its own
abbrev pub kept_at : {V : Type 0} → World V → ℕ → Event V → Report V → World V → Option (Entry V)
kept_at s who event told s' = kept_if told.decided (has_room (record s.log { reserved = s'.log.reserved })) (entry_at s who event told s')

-- a step that doesn't find the journal full
pub record TakesStep {V : Type 0} (same : V → V → Bool) (always : Bool) (s : World V) (step : Step V) (r : Report V) (s' : World V) : Type 0 where
  pub told : Report V
  pub engine : IsEngineStep same always (engine_of s) step told (engine_of s')
  pub report : r ≡ record told { kept = is_some (kept_at s step.worker step.event told s') }
  pub entries : s'.log.entries ≡ s.log.entries ++ in_list (kept_at s step.worker step.event told s')
  pub places : s'.log.places ≡ s.log.places
  pub requests : always ≡ true → s'.log.requests ≡ requests_after s step.worker step.event (is_in_flight told.outcome)

-- and one that is
pub record FindsJournalFull {V : Type 0} (s : World V) (who : ℕ) (r : Report V) (s' : World V) : Type 0 where
  pub report : r ≡ quiet OfCollector (Refused JournalFull)
  pub state : s' ≡ record s { calls = slice_set s.calls who Idle; log = record s.log { requests = slice_set s.log.requests who None } }

-- a step finds the journal full, or is taken
abbrev pub StepsUnless : {V : Type 0} → (V → V → Bool) → Bool → Bool → World V → Step V → Report V → World V → Type 0
StepsUnless same always true s step r s' = FindsJournalFull s step.worker r s'
StepsUnless same always false s step r s' = TakesStep same always s step r s'

-- one step
pub record IsStep {V : Type 0} (same : V → V → Bool) (always : Bool) (s : World V) (step : Step V) (r : Report V) (s' : World V) : Type 0 where
  pub does : StepsUnless same always (finds_journal_full s step.worker step.event) s step r s'
  -- after a step of its call that isn't misused a worker has a call in flight exactly where the report says so
  pub flight : IsOfCall step.event → misuse s step.worker step.event ≡ None → is_busy (slice_get s'.calls step.worker) ≡ is_in_flight r.outcome
  pub holds : Holds same always s'

-- an index with these limits as it was opened: a root alone, and no call in flight
pub record IsNew {V : Type 0} (limits : Limits) (s : World V) : Type 0 where
  pub opened : (charge : ℕ) × (limit : ℕ) × IsOpened limits charge limit s.forest
  pub fresh : IsFresh s

-- A worker's call that no other worker's step comes between: what it answers of the pairs that stood, and which pairs stand
-- then.
use Rattle.std.specs.Prelude.{◌≡◌, ℕ, ◌≤◌, ◌⊎◌, Bool, true, List, [], ◌∷◌, length, take, Option, None, Some}
use Rattle.std.specs.FinMap.{get}
use Rattle.judge.specs.declared.journal.Call.{Call as Entered}
use Rattle.judge.specs.declared.journal.Call.TheVariants as entered
use Rattle.judge.specs.declared.journal.Reply.{Reply}
use Rattle.judge.specs.Answer.{Pairs, answer}
use Rattle.congee.specs.declared.protocol.machine.Noise.{Noise}
use Rattle.congee.specs.declared.protocol.op.Op.{Op as Point}
use Rattle.congee.specs.declared.protocol.op.Op.TheVariants as point
use Rattle.congee.specs.Keys.{IsMapOf}
use Rattle.congee.specs.protocol.Play.{Flight, Over, Pending, Decided, Unbegun, Scanning, Question, parts}
use Rattle.congee.specs.protocol.Scans.{IsScan}
use Rattle.joint.specs.declared.id.Id.{Id}
use Rattle.joint.specs.declared.steps.Done.{Done as Answer}
use Rattle.joint.specs.declared.steps.Done.TheVariants as done
use Rattle.joint.specs.declared.steps.Event.{Event}
use Rattle.joint.specs.declared.steps.Event.TheVariants.{Begin, Go}
use Rattle.joint.specs.declared.steps.Op.{Op}
use Rattle.joint.specs.declared.steps.Op.TheVariants as ops
use Rattle.joint.specs.declared.steps.Outcome.{Outcome}
use Rattle.joint.specs.declared.steps.Outcome.TheVariants.{Running, Asks, Found, Done, Refused}
use Rattle.joint.specs.declared.steps.Report.{Report}
use Rattle.joint.specs.declared.steps.Target.{Target}
use Rattle.joint.specs.declared.steps.Target.TheVariants as target
use Rattle.joint.specs.engine.Flying.{Flights, with_flight, AreInFlight}
use Rattle.joint.specs.nodes.Nodes.{nodes}
use Rattle.joint.specs.Reports.{target, reply_in, is_in_flight}
use Rattle.joint.specs.calls.Runs.{Taken}
use Rattle.joint.specs.calls.Scans.{placed}
use Rattle.joint.specs.engine.Surveys.{MapTells}
use Rattle.joint.specs.engine.Engine.{World}

-- a further step of a worker's call, which is in flight after a step that told this
pub record GoesOn {V : Type 0} (who : ℕ) (told : Outcome V) (t : Taken V) : Type 0 where
  pub in_flight : is_in_flight told ≡ true
  pub noise : Noise Id V
  pub step : t.step ≡ record { worker = who; event = Go noise }

-- these are the call's next steps, one right after another
abbrev pub AllGoOn : {V : Type 0} → ℕ → Outcome V → List (Taken V) → Type 0
AllGoOn who told [] = Unit {0}
AllGoOn who told (t ∷ ts) = GoesOn who told t × AllGoOn who t.report.outcome ts

-- the steps of a worker's call from its begin on, no other worker's between them
pub record AreOfCall {V : Type 0} (who : ℕ) (op : Op V) (first : Taken V) (more : List (Taken V)) : Type 0 where
  pub begins : first.step ≡ record { worker = who; event = Begin op }
  pub goes_on : AllGoOn who first.report.outcome more

-- how the call stands after them
abbrev pub told_after : {V : Type 0} → Outcome V → List (Taken V) → Outcome V
told_after told [] = told
told_after told (t ∷ ts) = told_after t.report.outcome ts

-- the question that a call's closure answered last, which is what stood at the key, with the answer
abbrev pub Answered : Type 0 → Type 0
Answered V = Option (Option V × Option V)

-- an answer counts where the step before it asked
abbrev pub answered_by : {V : Type 0} → Option (Option V) → Outcome V → Answered V → Answered V
answered_by None told before = before
answered_by (Some a) (Asks found) before = Some (found, a)
answered_by (Some a) told before = before

-- the answer that comes with an event, if one does
abbrev pub answer_in : {V : Type 0} → Event V → Option (Option V)
answer_in (Go noise) = noise.answer
answer_in _ = None

-- the last answer that counted, after these steps
abbrev pub answered_after : {V : Type 0} → Outcome V → Answered V → List (Taken V) → Answered V
answered_after told before [] = before
answered_after told before (t ∷ ts) = answered_after t.report.outcome (answered_by (answer_in t.step.event) told before) ts

-- the map's call, where `found` stands at the key: what a closure computes is its last answer, which it gave for that
abbrev pub IsPresent : {V : Type 0} → ℕ → Option V → Answered V → Entered V → Type 0
IsPresent k None last c = c ≡ entered.ComputePresent k None
IsPresent {V} k (Some v) last c = (a : Option V) × (last ≡ Some (Some v, a)) × (c ≡ entered.ComputePresent k a)

-- the same where the closure gives a value for a present key and for an absent one
abbrev pub IsComputed : {V : Type 0} → ℕ → Option V → Answered V → Entered V → Type 0
IsComputed {V} k found last c = (v : V) × (last ≡ Some (found, Some v)) × (c ≡ entered.ComputeInsert k v)

-- the call that a worker's call on one key is on the map m
abbrev pub IsOnMap : {V : Type 0} → Pairs V → Answered V → Point V → Entered V → Type 0
IsOnMap m last (point.Get k) c = c ≡ entered.Get k
IsOnMap m last (point.Insert k v) c = c ≡ entered.Insert k v
IsOnMap m last (point.Remove k) c = c ≡ entered.Remove k
IsOnMap m last (point.ComputePresent k) c = IsPresent k (get m k) last c
IsOnMap m last (point.ComputeInsert k) c = IsComputed k (get m k) last c
IsOnMap m last (point.Exchange k old new) c = c ≡ entered.Exchange k old new
IsOnMap m last (point.Range start end size) c = ⊥
IsOnMap m last (point.RangeInclusive start last_key size) c = ⊥

-- it took effect: the map m answers it so, and the next map's pairs stand
pub record TookEffect {V : Type 0} (same : V → V → Bool) (m : Pairs V) (last : Answered V) (p : Point V) (reply : Reply V) (s : World V) : Type 0 where
  pub call : Entered V
  pub on_map : IsOnMap m last p call
  pub answers : (answer same m call).0 ≡ reply
  pub stand : IsMapOf (nodes s.forest) (answer same m call).1

-- it is in flight, and has not yet taken effect: the pairs stand as they did
pub record IsUndecided {V : Type 0} (fs : Flights V) (m : Pairs V) (who : ℕ) (p : Point V) (s : World V) : Type 0 where
  pub free : fs who ≡ Over
  pub value : Option V
  pub question : Question V
  pub in_flight : AreInFlight s (with_flight fs who (Pending (parts p).0 (parts p).1 value question))
  pub stand : IsMapOf (nodes s.forest) m

-- it is in flight, and has: this will be its reply
pub record IsDecided {V : Type 0} (same : V → V → Bool) (fs : Flights V) (m : Pairs V) (who : ℕ) (last : Answered V) (p : Point V) (s : World V) : Type 0 where
  pub free : fs who ≡ Over
  pub reply : Reply V
  pub in_flight : AreInFlight s (with_flight fs who (Decided reply))
  pub effect : TookEffect same m last p reply s

-- what is in flight is a scan
abbrev pub IsOfScan : {V : Type 0} → Flight V → Type 0
IsOfScan (Unbegun start end size) = Unit {0}
IsOfScan (Scanning start end size states places) = Unit {0}
IsOfScan _ = ⊥

-- it leaves the pairs, and the calls in flight are those that were
abbrev pub KeepsAll : {V : Type 0} → Flights V → Pairs V → World V → Type 0
KeepsAll fs m s = IsMapOf (nodes s.forest) m × AreInFlight s fs

-- a call on one key is done with its reply, and the other calls in flight are those that were
abbrev pub IsDoneWith : {V : Type 0} → (V → V → Bool) → Flights V → Pairs V → Answered V → Point V → Answer V → World V → Type 0
IsDoneWith same fs m last p (done.Reply r) s = TookEffect same m last p r s × AreInFlight s fs
IsDoneWith same fs m last p _ s = ⊥

-- A call on one key that stands so, begun where the pairs m stood and these calls were in flight: done, it is the map's
-- call, and answers as that does; refused, it leaves the pairs. Either way the calls in flight are those that were.
abbrev pub PlaysKey : {V : Type 0} → (V → V → Bool) → Flights V → Pairs V → ℕ → Answered V → Point V → Outcome V → World V → Type 0
PlaysKey same fs m who last p Running s = IsUndecided fs m who p s ⊎ IsDecided same fs m who last p s
PlaysKey same fs m who last p (Asks found) s = IsUndecided fs m who p s
PlaysKey same fs m who last p (Done d) s = IsDoneWith same fs m last p d s
PlaysKey same fs m who last p (Refused e) s = KeepsAll fs m s
PlaysKey same fs m who last p _ s = ⊥

-- the pairs last told for each place of a scan, from those that are told before the steps on
abbrev pub told_places : {V : Type 0} → List (ℕ × V) → List (Taken V) → List (ℕ × V)
told_places places [] = places
told_places places (t ∷ ts) = told_places (placed true t.report.outcome places) ts

-- a scan that is done has told for the first of its places what a scan promises, by the pairs that stood
pub record HasScanned {V : Type 0} (start end size count : ℕ) (m : Pairs V) (places : List (ℕ × V)) : Type 0 where
  pub filled : count ≤ length places
  pub scan : IsScan {V = V} start end size (m ∷ []) (take count places)

-- a scan in flight, which leaves the pairs
pub record IsScanning {V : Type 0} (fs : Flights V) (m : Pairs V) (who : ℕ) (s : World V) : Type 0 where
  pub free : fs who ≡ Over
  pub flight : Flight V
  pub of_scan : IsOfScan flight
  pub in_flight : AreInFlight s (with_flight fs who flight)
  pub stand : IsMapOf (nodes s.forest) m

-- a scan is done, which leaves the pairs
abbrev pub IsScanDone : {V : Type 0} → Flights V → Pairs V → Answer V → World V → Type 0
IsScanDone fs m (done.Scanned count) s = KeepsAll fs m s
IsScanDone fs m _ s = ⊥

-- how a scan stands after a step that told this
abbrev pub PlaysScan : {V : Type 0} → Flights V → Pairs V → ℕ → Outcome V → World V → Type 0
PlaysScan fs m who Running s = IsScanning fs m who s
PlaysScan fs m who (Found place key value) s = IsScanning fs m who s
PlaysScan fs m who (Done d) s = IsScanDone fs m d s
PlaysScan fs m who (Refused e) s = KeepsAll fs m s
PlaysScan fs m who _ s = ⊥

-- what a worker's call that stands so makes of the map: one on one key what the map makes of it; every other one leaves the
-- pairs, and one of one step tells of them
abbrev pub PlaysCall : {V : Type 0} → (V → V → Bool) → Flights V → Pairs V → ℕ → Answered V → Target V → Outcome V → World V → Type 0
PlaysCall same fs m who last (target.Tree (point.Range start end size)) told s = PlaysScan fs m who told s
PlaysCall same fs m who last (target.Tree (point.RangeInclusive start last_key size)) told s = PlaysScan fs m who told s
PlaysCall same fs m who last (target.Tree p) told s = PlaysKey same fs m who last p told s
PlaysCall same fs m who last (target.Collector op) told s = KeepsAll fs m s
PlaysCall same fs m who last (target.Survey k) told s = MapTells m k told × KeepsAll fs m s

-- a whole call that answered this, to whose closure no answer came
abbrev pub CallPlays : {V : Type 0} → (V → V → Bool) → Flights V → Pairs V → ℕ → Op V → Option (Report V) → World V → Type 0
CallPlays same fs m who op None s = KeepsAll fs m s
CallPlays same fs m who op (Some r) s = PlaysCall same fs m who None (target op) r.outcome s

-- the map's call that a call on one key is which asks no closure
abbrev pub asked_of : {V : Type 0} → Op V → Option (Entered V)
asked_of (ops.Get k) = Some (entered.Get k)
asked_of (ops.Insert k v) = Some (entered.Insert k v)
asked_of (ops.Remove k) = Some (entered.Remove k)
asked_of (ops.Exchange k old new) = Some (entered.Exchange k old new)
asked_of _ = None

-- the reply that a report tells, if it does
abbrev pub reply_of : {V : Type 0} → Option (Report V) → Option (Reply V)
reply_of None = None
reply_of (Some r) = reply_in r.outcome

-- the map m answers this call so, where it is one on one key that asks no closure; its pairs stand then, and the calls in
-- flight are those that were
abbrev pub AnswersKey : {V : Type 0} → (V → V → Bool) → Flights V → Pairs V → Op V → Option (Report V) → World V → Type 0
AnswersKey {V} same fs m o told s = (c : Entered V) (r : Reply V) → asked_of o ≡ Some c → reply_of told ≡ Some r → (r ≡ (answer same m c).0) × KeepsAll fs (answer same m c).1 s

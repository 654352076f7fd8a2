-- A look-up, a scan, the question whether the index is empty and a pin are refused for misuse or as Count alone.
use Rattle.std.proofs.Common.{◌≡◌, ◌≢◌, ◌==◌, ◌<◌, ℕ, Bool, true, false, List, [], ◌∷◌, length, refl, sym, ◌∙◌, ap, subst, inl, inr, ◌⊎◌}
use Rattle.std.proofs.Math.ListN.{set}
use Rattle.std.specs.Prelude.{Option, None, Some, slice_get, if◌then◌else◌}
use Rattle.std.proofs.lemmas.Bool.{cases_Bool, eqb-true, eqb-false, false≢true}
use Rattle.std.proofs.lemmas.Option.{slice_get_within}
use Rattle.crossbeam_epoch.specs.declared.fault.Fault.{Fault}
use Rattle.crossbeam_epoch.specs.declared.fault.Fault.TheVariants as fault
use Rattle.crossbeam_epoch.specs.declared.world.report.Event.TheVariants as collector_event
use Rattle.crossbeam_epoch.specs.declared.world.report.Op.TheVariants as collector_op
use Rattle.crossbeam_epoch.specs.declared.world.report.Outcome.{Outcome as CollectorOutcome}
use Rattle.crossbeam_epoch.specs.declared.world.report.Outcome.TheVariants as collector_outcome
use Rattle.crossbeam_epoch.specs.world.Machine.{State, place}
use Rattle.crossbeam_epoch.specs.world.Progress.{Begins, GoesOn, refusal}
use Rattle.crossbeam_epoch.specs.world.Steps.{begin_fault}
use Rattle.congee.specs.declared.forms.child.Child.{Child}
use Rattle.congee.specs.declared.forms.child.Child.TheVariants as child
use Rattle.congee.specs.declared.forms.base_node.NodeType.{NodeType}
use Rattle.congee.specs.declared.protocol.machine.Machine.{Machine}
use Rattle.congee.specs.declared.protocol.machine.Noise.{Noise}
use Rattle.congee.specs.declared.protocol.machine.Outcome.{Outcome as Moved}
use Rattle.congee.specs.declared.protocol.machine.Outcome.TheVariants as moved
use Rattle.congee.specs.declared.protocol.op.Op.{Op as Point}
use Rattle.congee.specs.declared.protocol.op.Op.TheVariants as point
use Rattle.congee.specs.declared.protocol.phase.Kind.{Kind}
use Rattle.congee.specs.declared.protocol.phase.Kind.TheVariants as kind
use Rattle.congee.specs.declared.protocol.phase.Above.{Above as Over}
use Rattle.congee.specs.declared.protocol.phase.Phase.{Phase}
use Rattle.congee.specs.declared.protocol.phase.Phase.TheVariants.{New, Version, Read, Check, CheckUncopied, CheckMiss, Scan, Ended}
use Rattle.congee.specs.declared.protocol.phase.Site.{Site}
use Rattle.congee.specs.declared.protocol.store.Reading.{Reading}
use Rattle.congee.specs.declared.protocol.store.Reading.TheVariants.{Differs, Fits, Uncopied}
use Rattle.congee.specs.declared.protocol.store.Refusal.{Refusal as Cause}
use Rattle.congee.specs.declared.protocol.store.Refusal.TheVariants as cause
use Rattle.congee.specs.declared.protocol.store.Stamp.{Stamp}
use Rattle.congee.specs.declared.protocol.next_phase.NextPhase.{NextPhase}
use Rattle.congee.specs.Heap.{Node}
use Rattle.congee.specs.Keys.{key_bytes}
use Rattle.congee.specs.protocol.Causes.{Causes, IsCause}
use Rattle.congee.specs.protocol.Play.{IsMoved, begun}
use Rattle.congee.specs.protocol.Steps.{PhaseStepped, IsIf, IsChecked, after_version, after_read, after_miss, again, refused}
use Rattle.congee.specs.protocol.State.{is_done}
use Rattle.joint.specs.declared.engine.in_flight.InFlight.{InFlight}
use Rattle.joint.specs.declared.engine.in_flight.InFlight.TheVariants.{Idle, Collecting, Reserving, Securing, Walking}
use Rattle.joint.specs.declared.id.Id.{Id}
use Rattle.joint.specs.declared.refusal.Refusal.{Refusal}
use Rattle.joint.specs.declared.refusal.Refusal.TheVariants.{Count}
use Rattle.joint.specs.declared.nodes.slot.Slot.{Slot}
use Rattle.joint.specs.declared.steps.Event.{Event}
use Rattle.joint.specs.declared.steps.Event.TheVariants.{Register, Begin, Go}
use Rattle.joint.specs.declared.steps.Op.{Op}
use Rattle.joint.specs.declared.steps.Op.TheVariants as op
use Rattle.joint.specs.declared.steps.Outcome.{Outcome}
use Rattle.joint.specs.declared.steps.Outcome.TheVariants.{Running, Asks, Found, Registered, Done, Refused}
use Rattle.joint.specs.declared.steps.Report.{Report}
use Rattle.joint.specs.calls.Ends.{RefusesReader, AllRefuseReader, ReadersRefused, is_reading}
use Rattle.joint.specs.nodes.Nodes.{nodes, Refuses}
use Rattle.joint.specs.engine.Intact.{IsAt, is_reserving, call_after, over_at, rested, resting}
use Rattle.joint.specs.Names.{root}
use Rattle.joint.specs.engine.Laws.{ProgressLaws}
use Rattle.joint.specs.Refusals.{of_fault, of_tree}
use Rattle.joint.specs.Reports.{collected, told, is_in_flight}
use Rattle.joint.specs.calls.Runs.{Taken, AreTaken}
use Rattle.joint.specs.engine.Surveys.{TellsEmpty}
use Rattle.joint.specs.nodes.View.{id_number}
use Rattle.joint.specs.world.World.{Holds, IsStep, StepsUnless, finds_journal_full}
use Rattle.joint.specs.engine.Engine.{World, EngineHolds, IsOfCall, Collects, Does, EntersUnless, Enters, GoesAt, Walks, engine_of, finds_none, is_busy, misuse, place_of}
use Rattle.joint.proofs.lemmas.engine.OneCallChanges.{Apart, one_set, step_apart}
use Rattle.joint.proofs.lemmas.engine.Entering.{begin_within, begins_idle}
use Rattle.joint.proofs.lemmas.world.Flights.{set_at}
use Rattle.joint.proofs.lemmas.engine.ScanEnds.{cleared_is}
use Rattle.joint.proofs.lemmas.engine.Collecting.{get_beside}
use Rattle.congee.proofs.Laws.{both_true}

-- the phases of a call that only reads
abbrev pub Reads : {V : Type 0} → Phase Id V → Type 0
Reads New = Unit {0}
Reads (Version above c) = Unit {0}
Reads (Read above at) = Unit {0}
Reads (Check s c) = Unit {0}
Reads (CheckUncopied at) = Unit {0}
Reads (CheckMiss p at common byte) = Unit {0}
Reads (Scan s) = Unit {0}
Reads Ended = Unit {0}
Reads _ = ⊥

-- the worker has a reading call in flight
abbrev pub IsReader : {V : Type 0} → Option (InFlight V) → Option (Machine Id V) → Type 0
IsReader (Some (Collecting collector_op.Pin)) m = Unit {0}
IsReader (Some Walking) (Some m) = (m.kind ≡ kind.Get) × Reads m.phase
IsReader _ m = ⊥

-- the same of a worker of the machine
abbrev pub ReaderAt : {V : Type 0} → World V → ℕ → Type 0
ReaderAt s w = IsReader (slice_get s.calls w) (slice_get s.machines w)

version_reads : (V : Type 0) (r : Id) (above : Option (Over Id)) (n : Id) (v : Option ℕ) → Reads {V = V} (after_version r above n v).phase
version_reads V r above n None = tt
version_reads V r above n (Some v) = tt

-- a reading call stays one, and is refused as Count alone
module _ {V : Type 0} where
  at_again : (r : Id) (t : NextPhase Id V) → t ≡ again r → Reads t.phase
  at_again r t e = let P : NextPhase Id V → Type 0 = λ y. Reads y.phase in subst P (sym e) tt

  read_reads : (r : Id) (above : Option (Over Id)) (at : Stamp Id) (x : Reading Id V) → Reads {V = V} (after_read r above at x).phase
  read_reads r None at (Differs common byte) = tt
  read_reads r (Some p) at (Differs common byte) = tt
  read_reads r None at (Fits depth form s) = tt
  read_reads r (Some p) at (Fits depth form s) = tt
  read_reads r None at Uncopied = tt
  read_reads r (Some p) at Uncopied = tt

  checked_reads : (same : V → V → Bool) (always : Bool) (new : Option V) (s : Site Id) (c : Child Id V) (t : NextPhase Id V) → IsChecked always same kind.Get new s c t → Reads t.phase
  checked_reads same always new s child.Blank t x = let P : NextPhase Id V → Type 0 = λ y. Reads y.phase in subst P (sym x) tt
  checked_reads same always new s (child.Node c) t x = let P : NextPhase Id V → Type 0 = λ y. Reads y.phase in subst P (sym x) tt
  checked_reads same always new s (child.Value v) t x = let P : NextPhase Id V → Type 0 = λ y. Reads y.phase in subst P (sym x) tt

  if_reads : (b : Bool) (r : Id) (Then : NextPhase Id V → Type 0) (t : NextPhase Id V) → (Then t → Reads t.phase) → IsIf b r Then t → Reads t.phase
  if_reads true r Then t f x = f (x.0 refl)
  if_reads false r Then t f x = at_again r t (x.1 refl)

  phase_reads : (same : V → V → Bool) (always : Bool) (most : ℕ) (why : NodeType → Cause → Type 0) (r : Id) (key : List ℕ) (fail : Bool) (answer : Option (Option V)) (new : Option V) (p : Phase Id V) (h : ℕ → Node V) (new' : Option V) (t : NextPhase Id V) (h' : ℕ → Node V)
      → Reads p → PhaseStepped id_number same always most why r key kind.Get fail answer new p h new' t h' → Reads t.phase
  phase_reads same always most why r key fail answer new New h new' t h' u x = let P : NextPhase Id V → Type 0 = λ y. Reads y.phase in subst P (sym x.2) (version_reads V r None r _)
  phase_reads same always most why r key fail answer new (Version above n) h new' t h' u x = let P : NextPhase Id V → Type 0 = λ y. Reads y.phase in subst P (sym x.2) (version_reads V r above n _)
  phase_reads same always most why r key fail answer new (Read above at) h new' t h' u x = let P : NextPhase Id V → Type 0 = λ y. Reads y.phase in subst P (sym x.2.2) (read_reads r above at x.2.0)
  phase_reads same always most why r key fail answer new (Check s c) h new' t h' u x = if_reads _ r (IsChecked {C = Id} {V = V} always same kind.Get new s c) t (checked_reads same always new s c t) x.2
  phase_reads same always most why r key fail answer new (CheckUncopied at) h new' t h' u x = if_reads _ r (λ (y : NextPhase Id V). y ≡ refused cause.Count) t (λ e. let P : NextPhase Id V → Type 0 = λ y. Reads y.phase in subst P (sym e) tt) x.2
  phase_reads same always most why r key fail answer new (CheckMiss p at common byte) h new' t h' u x = if_reads _ r (λ (y : NextPhase Id V). y ≡ after_miss kind.Get p at common byte) t (λ e. let P : NextPhase Id V → Type 0 = λ y. Reads y.phase in subst P (sym e) tt) x.2
  phase_reads same always most why r key fail answer new (Scan s) h new' t h' u x = let P : NextPhase Id V → Type 0 = λ y. Reads y.phase in subst P (sym x.2.3) tt
  phase_reads same always most why r key fail answer new Ended h new' t h' u x = let P : NextPhase Id V → Type 0 = λ y. Reads y.phase in subst P (sym x.2) tt
  phase_reads same always most why r key fail answer new _ h new' t h' u x = absurd u

  cause_count : (always : Bool) (most : ℕ) (why : NodeType → Cause → Type 0) (p : Phase Id V) (e : Cause) → Reads p → Causes why most always p e → e ≡ cause.Count
  cause_count always most why (Check s c) e u x = x.count
  cause_count always most why (CheckUncopied at) e u x = x.count
  cause_count always most why (Scan s) e u x = x.count
  cause_count always most why New e u x = absurd x
  cause_count always most why (Version above n) e u x = absurd x
  cause_count always most why (Read above at) e u x = absurd x
  cause_count always most why (CheckMiss p at common byte) e u x = absurd x
  cause_count always most why Ended e u x = absurd x
  cause_count always most why _ e u x = absurd u

  told_count : (always : Bool) (most : ℕ) (why : NodeType → Cause → Type 0) (p : Phase Id V) (o : Moved V) (e : Refusal) → Reads p → IsCause why most always p o → told o ≡ Refused e → e ≡ Count
  told_count always most why p (moved.Refused c) e u x q =
      let n : c ≡ cause.Count = cause_count always most why p c u x in
      let z : Refused (of_tree c) ≡ Refused e = q in
      let y : of_tree c ≡ e = cc in sym y ∙ ap of_tree n
  told_count always most why p moved.Running e u x q = absurd (cc q)
  told_count always most why p (moved.Asks a) e u x q = absurd (cc q)
  told_count always most why p (moved.Found i k v) e u x q = absurd (cc q)
  told_count always most why p (moved.Done r) e u x q = absurd (cc q)
  told_count always most why p (moved.Scanned n) e u x q = absurd (cc q)

  rested_reads : (m : Machine Id V) → (m.kind ≡ kind.Get) × Reads m.phase → ((rested m).kind ≡ kind.Get) × Reads (rested m).phase
  rested_reads m x = by (is_done m.phase) where
    by : (b : Bool) → ((if b then resting else m).kind ≡ kind.Get) × Reads (if b then resting else m).phase
    by true = (refl, tt)
    by false = x

  -- what a collector tells of a pin
  not_refused : (o : CollectorOutcome) (e : Refusal) → ((f : Fault) → o ≡ collector_outcome.Refused f → ⊥) → collected {V = V} o ≡ Refused e → ⊥
  not_refused collector_outcome.Running e n q = cc q
  not_refused collector_outcome.Done e n q = cc q
  not_refused (collector_outcome.Refused f) e n q = n f refl

  pin_on : (o : CollectorOutcome) → is_busy {V = V} (Some (call_after o (Collecting collector_op.Pin))) ≡ true → (m : Option (Machine Id V)) → IsReader (Some (call_after o (Collecting collector_op.Pin))) m
  pin_on collector_outcome.Running e m = tt
  pin_on collector_outcome.Done e m = absurd (false≢true e)
  pin_on (collector_outcome.Refused f) e m = absurd (false≢true e)

goes_refused : {T J : Type 0} (c c' : State T J) (w : ℕ) (o : CollectorOutcome) (f : Fault) → GoesOn c w collector_op.Pin o c' → o ≡ collector_outcome.Refused f → ⊥
goes_refused c c' w (collector_outcome.Refused g) f x q = false≢true x.1
goes_refused c c' w collector_outcome.Running f x q = cc q
goes_refused c c' w collector_outcome.Done f x q = cc q

begins_refused : {T J : Type 0} (c c' : State T J) (w : ℕ) (o : CollectorOutcome) (f : Fault) → refusal c w collector_op.Pin ≡ None → Begins c w collector_op.Pin o c' → o ≡ collector_outcome.Refused f → ⊥
begins_refused c c' w (collector_outcome.Refused g) f n x q = let z : None ≡ Some g = sym n ∙ x.0 in cc
begins_refused c c' w collector_outcome.Running f n x q = cc q
begins_refused c c' w collector_outcome.Done f n x q = cc q

unready_is : (b busy : Bool) (f : Fault) (u : Option Fault) → (if b then (if busy then Some f else u) else Some fault.Unknown) ≡ None → (if b then u else Some fault.Unknown) ≡ None
unready_is true true f u e = absurd (cc e)
unready_is true false f u e = e
unready_is false busy f u e = absurd (cc e)

module _ {V : Type 0} (same : V → V → Bool) (always : Bool) (progress : ProgressLaws (Slot V) (Unit {0})) where
  -- one step, but for the journal
  module _ (s s' : World V) (w : ℕ) (holds : EngineHolds same always s) where
    -- what is told of a reading call, and that it stays one while it is in flight
    abbrev Goes : Report V → Type 0
    Goes r = ((e : Refusal) → r.outcome ≡ Refused e → e ≡ Count) × (is_busy (slice_get s'.calls w) ≡ true → ReaderAt s' w)

    within_machines : w < length s.calls → w < length s.machines
    within_machines l = subst (λ n. w < n) (sym holds.0.machines) l

    placed : (k : InFlight V) → w < length s.calls → s'.calls ≡ set s.calls w k → slice_get s'.calls w ≡ Some k
    placed k l e = ap (λ xs. slice_get xs w) e ∙ set_at s.calls w k l

    pins : (event : _) (r : Report V) → w < length s.calls → ((f : Fault) (x : Collects same always s w event (Collecting collector_op.Pin) r s') → x.collector_report.outcome ≡ collector_outcome.Refused f → ⊥) → Collects same always s w event (Collecting collector_op.Pin) r s' → Goes r
    pins event r l n x = (
      (λ e q. absurd (not_refused {V = V} x.collector_report.outcome e (λ f. n f x) (sym (ap (λ y. y.outcome) x.report) ∙ q))),
      (λ b.
          let at : slice_get s'.calls w ≡ Some (call_after x.collector_report.outcome (Collecting collector_op.Pin)) = placed _ l x.calls in
          let P : Option (InFlight V) → Type 0 = λ k. IsReader k (slice_get s'.machines w) in
          subst P (sym at) (pin_on x.collector_report.outcome (sym (ap is_busy at) ∙ b) (slice_get s'.machines w))),
    )

    pin_goes : (noise : Noise Id V) (r : Report V) → slice_get s.calls w ≡ Some (Collecting collector_op.Pin) → Collects same always s w collector_event.Go (Collecting collector_op.Pin) r s' → Goes r
    pin_goes noise r e x =
        let m : (m : Machine Id V) × (slice_get s.machines w ≡ Some m) = get_beside s.machines s.calls w holds.0.machines _ e in
        let at : IsAt (Collecting collector_op.Pin) (place s.forest.collector w) m.0 = holds.0.each w (Collecting collector_op.Pin) m.0 e m.1 in
        pins collector_event.Go r (slice_get_within s.calls w _ e) (λ f y q. goes_refused s.forest.collector _ w y.collector_report.outcome f (progress.goes_on s.forest.collector w collector_op.Pin y.collector_report holds.0.safe.sound.sound.orderly at.0 y.step.report) q) x

    walks : (noise : Noise Id V) (r : Report V) (m : Machine Id V) → slice_get s.calls w ≡ Some Walking → slice_get s.machines w ≡ Some m → (m.kind ≡ kind.Get) × Reads m.phase → Walks same always s w noise r s' → Goes r
    walks noise r m e at u x =
        let mv : IsMoved id_number same always s.forest.version_max (Refuses s.forest) (nodes s.forest) s.machines m (record { who = w; noise = noise }) x.move (nodes s'.forest) x.step.between = x.step.walked.plays.moved m at in
        let now : slice_get s'.machines w ≡ Some (rested mv.now) =
        ap (λ xs. slice_get xs w) (x.step.machines ∙ cleared_is s.machines x.step.between w m mv.now at mv.calls) ∙ set_at s.machines w (rested mv.now) (within_machines (slice_get_within s.calls w Walking e)) in
        let P : Kind V → Type 0 = λ k. PhaseStepped id_number same always s.forest.version_max (Refuses s.forest) m.root (key_bytes m.key) k noise.fail noise.answer m.given m.phase (nodes s.forest) mv.now.given (record { phase = mv.now.phase; report = x.move }) (nodes s'.forest) in
        let reads : Reads mv.now.phase = phase_reads same always s.forest.version_max (Refuses s.forest) m.root (key_bytes m.key) noise.fail noise.answer m.given m.phase (nodes s.forest) mv.now.given (record { phase = mv.now.phase; report = x.move }) (nodes s'.forest) u.1 (subst P u.0 mv.step.step) in (
          (λ f q. told_count always s.forest.version_max (Refuses s.forest) m.phase x.move.outcome f u.1 mv.cause (sym (ap (λ y. y.outcome) x.report) ∙ q)),
          (λ b. by (over_at (slice_get s'.machines w)) (rested mv.now) now (rested_reads mv.now (mv.step.kind ∙ u.0, reads)) b (placed _ (slice_get_within s.calls w Walking e) x.calls)),
        )
      where
        by : (o : Bool) (y : Machine Id V) → slice_get s'.machines w ≡ Some y → (y.kind ≡ kind.Get) × Reads y.phase → is_busy (slice_get s'.calls w) ≡ true → slice_get s'.calls w ≡ Some (if o then Idle else Walking) → ReaderAt s' w
        by true y n z b c = absurd (false≢true (sym (ap is_busy c) ∙ b))
        by false y n z b c =
            let P : Option (InFlight V) → Type 0 = λ k. IsReader k (slice_get s'.machines w) in
            let Q : Option (Machine Id V) → Type 0 = λ k. IsReader (Some Walking) k in
            subst P (sym c) (subst Q (sym n) z)

    goes : (k : Option (InFlight V)) (o : Option (Machine Id V)) (noise : Noise Id V) (r : Report V) → slice_get s.calls w ≡ k → slice_get s.machines w ≡ o → IsReader k o → GoesAt same always s w k noise r s' → Goes r
    goes (Some (Collecting collector_op.Pin)) o noise r e at u x = pin_goes noise r e x
    goes (Some Walking) (Some m) noise r e at u x = walks noise r m e at u x
    goes (Some Walking) None noise r e at u x = absurd u
    goes None o noise r e at u x = absurd x
    goes (Some Idle) o noise r e at u x = absurd x
    goes (Some (Reserving p)) o noise r e at u x = absurd u
    goes (Some (Securing p)) o noise r e at u x = absurd u
    goes (Some (Collecting _)) o noise r e at u x = absurd u

    reader_goes : (noise : Noise Id V) (o : Option Fault) (r : Report V) → misuse s w (Go noise) ≡ o → o ≡ None → ReaderAt s w → Does same always s w (Go noise) o r s' → Goes r
    reader_goes noise None r e n u x = goes (slice_get s.calls w) (slice_get s.machines w) noise r refl refl u x
    reader_goes noise (Some f) r e n u x = absurd (cc n)

    -- a reading call begins, and isn't refused
    abbrev Begun : Report V → Type 0
    Begun r = ((e : Refusal) → r.outcome ≡ Refused e → ⊥) × (is_in_flight r.outcome ≡ true → ReaderAt s' w)

    module _ (o : Op V) (none : misuse s w (Begin o) ≡ None) where
      within : w < length s.calls
      within = begin_within same always s s' w holds o none

      idle : slice_get s.calls w ≡ Some Idle
      idle = begins_idle same always s s' w holds o none

      enters : (p : Point V) (r : Report V) → (begun root p).kind ≡ kind.Get → Reads (begun root p).phase → Enters s w p r s' → Begun r
      enters p r k u x = (
        (λ e q. let z : Running ≡ Refused e = sym (ap (λ y. y.outcome) x.report) ∙ q in cc),
        (λ b.
            let c : slice_get s'.calls w ≡ Some Walking = placed Walking within (ap (λ y. y.calls) x.state) in
            let m : slice_get s'.machines w ≡ Some (begun root p) = ap (λ y. slice_get y.machines w) x.state ∙ set_at s.machines w (begun root p) (within_machines within) in
            let P : Option (InFlight V) → Type 0 = λ y. IsReader y (slice_get s'.machines w) in
            let Q : Option (Machine Id V) → Type 0 = λ y. IsReader (Some Walking) y in
            subst P (sym c) (subst Q (sym m) (k, u))),
      )

      scan_begins : (p : Point V) (r : Report V) (b : Bool) → (begun root p).kind ≡ kind.Get → Reads (begun root p).phase → EntersUnless b s w p r s' → Begun r
      scan_begins p r true k u x = (
        (λ e q. let z : Done _ ≡ Refused e = sym (ap (λ y. y.outcome) x.report) ∙ q in cc),
        (λ b. absurd (false≢true (sym (ap (λ y. is_in_flight y.outcome) x.report) ∙ b))),
      )
      scan_begins p r false k u x = enters p r k u x

    empties : (h : ℕ → Node V) (o : Outcome V) → TellsEmpty h o → ((e : Refusal) → o ≡ Refused e → ⊥) × (is_in_flight o ≡ false)
    empties h (Done d) x = ((λ e q. cc q), refl)
    empties h (Refused e) x = absurd x
    empties h Running x = absurd x
    empties h (Asks a) x = absurd x
    empties h (Found i k v) x = absurd x
    empties h (Registered n) x = absurd x

    reader_begins : (o : Op V) (r : Report V) → misuse s w (Begin o) ≡ None → is_reading o ≡ true → Does same always s w (Begin o) None r s' → Begun r
    reader_begins op.Pin r n q x =
        let m : (m : Machine Id V) × (slice_get s.machines w ≡ Some m) = get_beside s.machines s.calls w holds.0.machines Idle (idle op.Pin n) in
        let at : IsAt Idle (place s.forest.collector w) m.0 = holds.0.each w Idle m.0 (idle op.Pin n) m.1 in
        let f : refusal s.forest.collector w collector_op.Pin ≡ None = unready_is (place_of s w).registered (is_busy (slice_get s.calls w)) _ (begin_fault collector_op.Pin (place_of s w)) n in
        let g = pins (collector_event.Begin collector_op.Pin) r (within op.Pin n) (λ e y z. begins_refused s.forest.collector _ w y.collector_report.outcome e f (progress.begins s.forest.collector w collector_op.Pin y.collector_report at.0 y.step.report) z) x in (
          (λ e z. not_refused {V = V} x.collector_report.outcome e (λ b y. begins_refused s.forest.collector _ w x.collector_report.outcome b f (progress.begins s.forest.collector w collector_op.Pin x.collector_report at.0 x.step.report) y) (sym (ap (λ y. y.outcome) x.report) ∙ z)),
          (λ b. g.1 (busy_after x.collector_report.outcome (placed _ (within op.Pin n) x.calls) (sym (ap (λ y. is_in_flight y.outcome) x.report) ∙ b))),
        )
      where
        busy_after : (o : CollectorOutcome) → slice_get s'.calls w ≡ Some (call_after o (Collecting collector_op.Pin)) → is_in_flight {V = V} (collected o) ≡ true → is_busy (slice_get s'.calls w) ≡ true
        busy_after collector_outcome.Running e b = ap is_busy e
        busy_after collector_outcome.Done e b = absurd (false≢true b)
        busy_after (collector_outcome.Refused f) e b = absurd (false≢true b)
    reader_begins (op.Get k) r n q x = enters (op.Get k) n (point.Get k) r refl tt x
    reader_begins (op.Range start end size) r n q x = scan_begins (op.Range start end size) n (point.Range start end size) r (finds_none {V = V} (point.Range start end size)) refl tt x
    reader_begins (op.RangeInclusive start last size) r n q x = scan_begins (op.RangeInclusive start last size) n (point.RangeInclusive start last size) r (finds_none {V = V} (point.RangeInclusive start last size)) refl tt x
    reader_begins op.IsEmpty r n q x =
        let z = empties (nodes s.forest) x.outcome x.tells in
        ((λ e y. z.0 e (sym (ap (λ y. y.outcome) x.report) ∙ y)), (λ b. absurd (false≢true (sym (ap (λ y. is_in_flight y.outcome) x.report ∙ z.1) ∙ b))))
    reader_begins _ r n q x = absurd (false≢true q)

  -- a step that isn't the worker's leaves its reading call
  others : (s s' : World V) (i w : ℕ) → i ≢ w → Apart s s' w → ReaderAt s i → ReaderAt s' i
  others s s' i w n a u =
      let P : Option (InFlight V) → Type 0 = λ k. IsReader k (slice_get s'.machines i) in
      let Q : Option (Machine Id V) → Type 0 = λ m. IsReader (slice_get s.calls i) m in
      subst P (sym (a.calls.other i n)) (subst Q (sym (a.machines.other i n)) u)

  -- a misused step leaves it as well
  unchanged : (s s' : World V) (i : ℕ) → s' ≡ s → ReaderAt s i → ReaderAt s' i
  unchanged s s' i e u = subst (λ (y : World V). ReaderAt y i) (sym e) u

  reader_busy : (k : Option (InFlight V)) (m : Option (Machine Id V)) → IsReader k m → is_busy k ≡ true
  reader_busy (Some (Collecting collector_op.Pin)) m u = refl
  reader_busy (Some Walking) (Some m) u = refl
  reader_busy (Some Walking) None u = absurd u
  reader_busy (Some Idle) m u = absurd u
  reader_busy (Some (Reserving p)) m u = absurd u
  reader_busy (Some (Securing p)) m u = absurd u
  reader_busy (Some (Collecting _)) m u = absurd u
  reader_busy None m u = absurd u

  unreserving : (k : Option (InFlight V)) (m : Option (Machine Id V)) → IsReader k m → is_reserving k ≡ true → ⊥
  unreserving (Some (Reserving p)) m u e = u
  unreserving (Some Idle) m u e = false≢true e
  unreserving (Some (Collecting c)) m u e = false≢true e
  unreserving (Some (Securing p)) m u e = false≢true e
  unreserving (Some Walking) m u e = false≢true e
  unreserving None m u e = false≢true e

  busy_fault : (b busy : Bool) (f : Fault) (u : Option Fault) → busy ≡ true → (if b then (if busy then Some f else u) else Some fault.Unknown) ≡ None → ⊥
  busy_fault true true f u e q = cc q
  busy_fault true false f u e q = false≢true e
  busy_fault false busy f u e q = cc q

  abbrev Keeps : (s : World V) → Taken V → ℕ → Type 0
  Keeps s t i = (t.step.worker ≡ i → IsOfCall t.step.event → RefusesReader s t) × (is_busy (slice_get t.after.calls i) ≡ true → ReaderAt t.after i)

  module _ (s : World V) (t : Taken V) (h : Holds same always s) where
    abbrev w : ℕ
    w = t.step.worker

    -- its own step
    own_by : (event : Event V) (o : Option Fault) (r : Report V) → misuse s w event ≡ o → ReaderAt s w → Does same always (engine_of s) w event o r (engine_of t.after)
        → (IsOfCall event → (e : Refusal) → r.outcome ≡ Refused e → ((f : Fault) × (misuse s w event ≡ Some f) × (e ≡ of_fault f)) ⊎ (e ≡ Count)) × (is_busy (slice_get t.after.calls w) ≡ true → ReaderAt t.after w)
    own_by event (Some f) r m u d = (
      (λ c e q.
          let z : Refused (of_fault f) ≡ Refused e = sym (ap (λ y. y.outcome) d.0) ∙ q in
          inl (f, m, (let y : of_fault f ≡ e = cc in sym y))),
      (λ b. unchanged (engine_of s) (engine_of t.after) w d.1 u),
    )
    own_by Register None r m u (inl d) = ((λ c. absurd c), (λ b. let P : World V → Type 0 = λ y. ReaderAt y w in subst P (sym d.1.state) u))
    own_by Register None r m u (inr d) = ((λ c. absurd c), (λ b. unchanged (engine_of s) (engine_of t.after) w d.state u))
    own_by (Begin op) None r m u d = absurd (busy_fault (place_of s w).registered (is_busy (slice_get s.calls w)) _ _ (reader_busy (slice_get s.calls w) (slice_get s.machines w) u) m)
    own_by (Go noise) None r m u d =
        let g = reader_goes (engine_of s) (engine_of t.after) w (h.0, h.1) noise None r m refl u d in
        ((λ c e q. inr (g.0 e q)), g.1)

    own : (b : Bool) → finds_journal_full s w t.step.event ≡ b → ReaderAt s w → StepsUnless same always b s t.step t.report t.after → Keeps s t w
    own true g u x = absurd (by t.step.event g) where
      by : (event : Event V) → finds_journal_full s w event ≡ true → ⊥
      by Register e = false≢true e
      by (Begin op) e = false≢true e
      by (Go noise) e = unreserving (slice_get s.calls w) (slice_get s.machines w) u (both_true _ _ e).0
    own false g u x =
        let y = own_by t.step.event (misuse s w t.step.event) x.told refl u x.engine.does in (
          (λ e c f q. elim (y.0 c f (sym (ap (λ z. z.outcome) x.report) ∙ q)) [
            | inl z ↦ inl (record { fault = z.0; misuse = z.1; cause = z.2 })
            | inr z ↦ inr z
          ]),
          y.1,
        )

    other : (b : Bool) (i : ℕ) → i ≢ w → ReaderAt s i → StepsUnless same always b s t.step t.report t.after → Keeps s t i
    other true i n u x = (
      (λ e. absurd (n (sym e))),
      (λ b.
          let c : slice_get t.after.calls i ≡ slice_get s.calls i = ap (λ (y : World V). slice_get y.calls i) x.state ∙ (one_set s.calls (set s.calls w Idle) w Idle refl).other i n in
          let m : slice_get t.after.machines i ≡ slice_get s.machines i = ap (λ (y : World V). slice_get y.machines i) x.state in
          let P : Option (InFlight V) → Type 0 = λ k. IsReader k (slice_get t.after.machines i) in
          let Q : Option (Machine Id V) → Type 0 = λ y. IsReader (slice_get s.calls i) y in
          subst P (sym c) (subst Q (sym m) u)),
    )
    other false i n u x = (
      (λ e. absurd (n (sym e))),
      (λ b. others (engine_of s) (engine_of t.after) i w n (step_apart same always (engine_of s) (engine_of t.after) w (h.0, h.1) t.step.event (misuse s w t.step.event) x.told x.engine.does) u),
    )

    kept : IsStep same always s t.step t.report t.after → (i : ℕ) → ReaderAt s i → Keeps s t i
    kept x i u = elim (cases_Bool (i == w)) [
      | inl b ↦ (
          let e : i ≡ w = eqb-true i w b in
          let P : ℕ → Type 0 = λ j. Keeps s t j in
          subst P (sym e) (own (finds_journal_full s w t.step.event) refl (subst (λ j. ReaderAt s j) e u) x.does))
      | inr b ↦ other (finds_journal_full s w t.step.event) i (eqb-false i w b) u x.does
    ]

    -- a step that begins one
    begun_by : (o : Op V) (f : Option Fault) (r : Report V) → misuse s w (Begin o) ≡ f → is_reading o ≡ true → Does same always (engine_of s) w (Begin o) f r (engine_of t.after)
        → ((e : Refusal) → r.outcome ≡ Refused e → (g : Fault) × (misuse s w (Begin o) ≡ Some g) × (e ≡ of_fault g)) × (is_in_flight r.outcome ≡ true → ReaderAt t.after w)
    begun_by o (Some f) r m q d = (
      (λ e y.
          let z : Refused (of_fault f) ≡ Refused e = sym (ap (λ y. y.outcome) d.0) ∙ y in
          (f, m, (let y : of_fault f ≡ e = cc in sym y))),
      (λ b. absurd (false≢true (sym (ap (λ y. is_in_flight y.outcome) d.0) ∙ b))),
    )
    begun_by o None r m q d =
        let g = reader_begins (engine_of s) (engine_of t.after) w (h.0, h.1) o r m q d in
        ((λ e y. absurd (g.0 e y)), g.1)

    reads_begun : (o : Op V) → t.step.event ≡ Begin o → is_reading o ≡ true → IsStep same always s t.step t.report t.after → RefusesReader s t × (is_in_flight t.report.outcome ≡ true → ReaderAt t.after w)
    reads_begun o e q is =
        let P : Event V → Type 0 = λ y. IsStep same always s (record { worker = w; event = y }) t.report t.after in
        let x = subst P e is in
        let y = begun_by o (misuse s w (Begin o)) x.does.told refl q x.does.engine.does in (
          (λ f z. (let u = y.0 f (sym (ap (λ z. z.outcome) x.does.report) ∙ z) in inl (record { fault = u.0; misuse = ap (misuse s w) e ∙ u.1; cause = u.2 }))),
          (λ b. y.1 (sym (ap (λ z. is_in_flight z.outcome) x.does.report) ∙ b)),
        )

  all_refuse : (i : ℕ) (s : World V) (ts : List (Taken V)) → Holds same always s → AreTaken same always s ts → ReaderAt s i → AllRefuseReader i s ts
  all_refuse i s [] h x u = tt
  all_refuse i s (t ∷ ts) h x u = let k = kept s t h x.0 i u in (k.0, λ b. all_refuse i t.after ts x.0.holds x.1 (k.1 b))

  -- in a run each reading call is refused for misuse or as Count alone, to its end
  pub readers : (s : World V) (ts : List (Taken V)) → Holds same always s → AreTaken same always s ts → ReadersRefused s ts
  readers s [] h x = tt
  readers s (t ∷ ts) h x = (
    (λ o e q. let b = reads_begun s t h o e q x.0 in (b.0, λ on. all_refuse t.step.worker t.after ts x.0.holds x.1 (b.1 on))),
    readers t.after ts x.0.holds x.1,
  )

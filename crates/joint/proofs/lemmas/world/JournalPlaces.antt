-- Which calls have a place of the journal reserved, ask or have a reply, by how they are watched.
use Rattle.std.proofs.Common.{◌≡◌, ◌<◌, ◌≤◌, ℕ, arith, Bool, true, false, List, [], ◌∷◌, refl, sym, ◌∙◌, ap, inl, inr}
use Rattle.std.specs.Prelude.{Option, None, Some, ◌&&◌, length, slice_get}
use Rattle.std.proofs.lemmas.Bool.{cases_Bool}
use Rattle.std.proofs.lemmas.Option.{slice_get_within, slice_get_cases}
use Rattle.judge.specs.declared.journal.Reply.{Reply}
use Rattle.judge.specs.Answer.{Pairs}
use Rattle.crossbeam_epoch.specs.declared.world.participant.Participant.{Participant}
use Rattle.congee.specs.declared.protocol.machine.Machine.{Machine}
use Rattle.congee.specs.declared.protocol.machine.Outcome.{Outcome as Moved}
use Rattle.congee.specs.declared.protocol.machine.Outcome.TheVariants as moved
use Rattle.congee.specs.declared.protocol.op.Op.{Op as Point}
use Rattle.congee.specs.declared.protocol.op.Op.TheVariants as point
use Rattle.congee.specs.declared.protocol.phase.Kind.{Kind}
use Rattle.congee.specs.declared.protocol.scan.ScanState.{ScanState as ScanState}
use Rattle.congee.specs.protocol.Play.{Flight, Pending, Decided, Over, Unbegun, Scanning, Question, value_answered, resolved, Undecided, Concludes, ScanTells, ScanFollows, Follows, begun, flight}
use Rattle.congee.specs.protocol.State.{is_asking, is_pending, may_write}
use Rattle.congee.specs.protocol.Answers.{reply_in}
use Rattle.joint.specs.declared.engine.in_flight.InFlight.{InFlight}
use Rattle.joint.specs.declared.engine.in_flight.InFlight.TheVariants.{Idle, Collecting, Reserving, Securing, Walking}
use Rattle.joint.specs.declared.id.Id.{Id}
use Rattle.joint.specs.engine.Intact.{IsAt, is_reserving, writes}
use Rattle.joint.specs.Names.{root}
use Rattle.joint.specs.engine.Journaling.{asks_at, has_place, is_writing, reply_at}
use Rattle.joint.specs.world.MapSteps.{GoMap, PendingStep, Line}
use Rattle.joint.specs.engine.Flying.{Flights, IsInFlight, AreInFlight, with_flight}
use Rattle.joint.specs.engine.Engine.{World, EngineHolds, place_of}
use Rattle.joint.proofs.lemmas.world.Flights.{flight_here}
use Rattle.joint.proofs.lemmas.world.Requested.{asks, writes_on, replied, phase_asks, phase_writes, phase_replied}
use Rattle.joint.proofs.lemmas.engine.Collecting.{get_beside}

module _ {V : Type 0} where
  begun_writes : (op : Point V) → writes op ≡ true → writes_on (flight (begun root op)) ≡ true
  begun_writes (point.Get k) e = absurd (cc e)
  begun_writes (point.Insert k v) e = refl
  begun_writes (point.Remove k) e = refl
  begun_writes (point.ComputePresent k) e = refl
  begun_writes (point.ComputeInsert k) e = refl
  begun_writes (point.Exchange k old new) e = refl
  begun_writes (point.Range start end size) e = absurd (cc e)
  begun_writes (point.RangeInclusive start last size) e = absurd (cc e)

  -- a call that begins doesn't ask
  pub begun_asks : (op : Point V) → asks (flight (begun root op)) ≡ false
  begun_asks (point.Get k) = refl
  begun_asks (point.Insert k v) = refl
  begun_asks (point.Remove k) = refl
  begun_asks (point.ComputePresent k) = refl
  begun_asks (point.ComputeInsert k) = refl
  begun_asks (point.Exchange k old new) = refl
  begun_asks (point.Range start end size) = refl
  begun_asks (point.RangeInclusive start last size) = refl

  begun_replied : (op : Point V) → replied (flight (begun root op)) ≡ None
  begun_replied (point.Get k) = refl
  begun_replied (point.Insert k v) = refl
  begun_replied (point.Remove k) = refl
  begun_replied (point.ComputePresent k) = refl
  begun_replied (point.ComputeInsert k) = refl
  begun_replied (point.Exchange k old new) = refl
  begun_replied (point.Range start end size) = refl
  begun_replied (point.RangeInclusive start last size) = refl

  -- a scan neither writes nor asks nor has a reply
  record OfScan (f : Flight V) : Type 0 where
    pub writes_none : writes_on f ≡ false
    pub asks_none : asks f ≡ false
    pub replies_none : replied f ≡ None

  scan_is : (s : ScanState Id V) (f : Flight V) → ScanFollows s f → OfScan f
  scan_is s f (inl x) = record { writes_none = ap writes_on x.0; asks_none = ap asks x.0; replies_none = ap replied x.0 }
  scan_is s f (inr (inl x)) = record { writes_none = ap writes_on x.0; asks_none = ap asks x.0; replies_none = ap replied x.0 }
  scan_is s f (inr (inr x)) = record { writes_none = ap writes_on x.2; asks_none = ap asks x.2; replies_none = ap replied x.2 }

  walking_writes : (m : Machine Id V) (f : Flight V) → Follows m f → is_writing (Some m) ≡ writes_on f
  walking_writes m f (inl x) = sym (ap writes_on x.1 ∙ phase_writes m.key m.kind m.given m.phase)
  walking_writes m f (inr x) = ap (λ p. is_pending p && may_write m.kind) x.1 ∙ sym (scan_is x.0 f x.2).writes_none

  walking_asks : (m : Machine Id V) (f : Flight V) → Follows m f → is_asking m.phase ≡ asks f
  walking_asks m f (inl x) = sym (ap asks x.1 ∙ phase_asks m.key m.kind m.given m.phase)
  walking_asks m f (inr x) = ap is_asking x.1 ∙ sym (scan_is x.0 f x.2).asks_none

  walking_replied : (m : Machine Id V) (f : Flight V) → Follows m f → reply_in m.phase ≡ replied f
  walking_replied m f (inl x) = sym (ap replied x.1 ∙ phase_replied m.key m.kind m.given m.phase)
  walking_replied m f (inr x) = ap reply_in x.1 ∙ sym (scan_is x.0 f x.2).replies_none

  -- a call has a place where it has yet to take effect and may write then, from its first step on
  call_writes : (k : InFlight V) (c : Participant (Unit {0})) (m : Machine Id V) (f : Flight V) → IsAt k c m → IsInFlight k m f → is_reserving (Some k) ≡ false → has_place (Some k) (Some m) ≡ writes_on f
  call_writes Idle c m f a i e = sym (ap writes_on i)
  call_writes (Collecting op) c m f a i e = sym (ap writes_on i)
  call_writes (Reserving op) c m f a i e = absurd (cc e)
  call_writes (Securing op) c m f a i e = sym (ap writes_on i ∙ begun_writes op a.3)
  call_writes Walking c m f a i e = walking_writes m f i

  call_asks : (k : InFlight V) (c : Participant (Unit {0})) (m : Machine Id V) (f : Flight V) → IsAt k c m → IsInFlight k m f → is_asking m.phase ≡ asks f
  call_asks Idle c m f a i = ap is_asking a.1 ∙ sym (ap asks i)
  call_asks (Collecting op) c m f a i = ap is_asking a.1 ∙ sym (ap asks i)
  call_asks (Reserving op) c m f a i = ap is_asking a.3 ∙ sym (ap asks i ∙ begun_asks op)
  call_asks (Securing op) c m f a i = ap is_asking a.2 ∙ sym (ap asks i ∙ begun_asks op)
  call_asks Walking c m f a i = walking_asks m f i

  call_replied : (k : InFlight V) (m : Machine Id V) (f : Flight V) (r : Reply V) → IsInFlight k m f → replied f ≡ Some r → reply_in m.phase ≡ Some r
  call_replied Idle m f r i e = absurd (let q : None ≡ Some r = sym (ap replied i) ∙ e in cc)
  call_replied (Collecting op) m f r i e = absurd (let q : None ≡ Some r = sym (ap replied i) ∙ e in cc)
  call_replied (Reserving op) m f r i e = absurd (let q : None ≡ Some r = sym (ap replied i ∙ begun_replied op) ∙ e in cc)
  call_replied (Securing op) m f r i e = absurd (let q : None ≡ Some r = sym (ap replied i ∙ begun_replied op) ∙ e in cc)
  call_replied Walking m f r i e = walking_replied m f i ∙ e

module _ {V : Type 0} (same : V → V → Bool) (always : Bool) (s : World V) (w : ℕ) (holds : EngineHolds same always s) (fs : Flights V) (fl : AreInFlight s fs) where
  past_machines : slice_get s.calls w ≡ None → (o : Option (Machine Id V)) → slice_get s.machines w ≡ o → o ≡ None
  past_machines e None q = refl
  past_machines e (Some m) q = absurd (elim (slice_get_cases s.calls w).1 [
    | inl x ↦ (let z : None ≡ Some x.0 = sym e ∙ x.2 in cc)
    | inr x ↦ (let l : w < length s.machines = slice_get_within s.machines w m q in let n : length s.machines ≡ length s.calls = holds.0.machines in let p : length s.calls ≤ w = x.0 in omega (arith, p, l, n))
  ])

  past_over : slice_get s.calls w ≡ None → fs w ≡ Over
  past_over e = elim (slice_get_cases s.calls w).1 [
    | inl x ↦ absurd (let q : None ≡ Some x.0 = sym e ∙ x.2 in cc)
    | inr x ↦ fl.beyond w x.0
  ]

  here_by : (k : Option (InFlight V)) → slice_get s.calls w ≡ k → is_reserving k ≡ false → has_place k (slice_get s.machines w) ≡ writes_on (fs w)
  here_by None e r = sym (ap writes_on (past_over e))
  here_by (Some k) e r =
      let x : (x : Machine Id V) × (slice_get s.machines w ≡ Some x) = get_beside s.machines s.calls w holds.0.machines k e in
      ap (has_place (Some k)) x.1 ∙ call_writes k (place_of s w) x.0 (fs w) (holds.0.each w k x.0 e x.1) (fl.each w k x.0 e x.1) r

  -- past its first step a call has a place just where it has yet to take effect and may write
  pub place_here : is_reserving (slice_get s.calls w) ≡ false → has_place (slice_get s.calls w) (slice_get s.machines w) ≡ writes_on (fs w)
  place_here r = here_by (slice_get s.calls w) refl r

  -- a writing call before its first step has no place
  pub reserving_none : (k : Option (InFlight V)) (o : Option (Machine Id V)) → is_reserving k ≡ true → has_place k o ≡ false
  reserving_none (Some (Reserving op)) o e = refl
  reserving_none (Some Idle) o e = absurd (cc e)
  reserving_none (Some (Collecting op)) o e = absurd (cc e)
  reserving_none (Some (Securing op)) o e = absurd (cc e)
  reserving_none (Some Walking) o e = absurd (cc e)
  reserving_none None o e = absurd (cc e)

  -- a call that has a place is one that may write
  pub place_writes : writes_on (fs w) ≡ false → has_place (slice_get s.calls w) (slice_get s.machines w) ≡ false
  place_writes n = elim (cases_Bool (is_reserving (slice_get s.calls w))) [
    | inl r ↦ reserving_none (slice_get s.calls w) (slice_get s.machines w) r
    | inr r ↦ place_here r ∙ n
  ]

  asks_by : (k : Option (InFlight V)) → slice_get s.calls w ≡ k → asks_at (slice_get s.machines w) ≡ asks (fs w)
  asks_by None e = ap asks_at (past_machines e (slice_get s.machines w) refl) ∙ sym (ap asks (past_over e))
  asks_by (Some k) e =
      let x : (x : Machine Id V) × (slice_get s.machines w ≡ Some x) = get_beside s.machines s.calls w holds.0.machines k e in
      ap asks_at x.1 ∙ call_asks k (place_of s w) x.0 (fs w) (holds.0.each w k x.0 e x.1) (fl.each w k x.0 e x.1)

  -- a machine asks just where its call is watched as asking
  pub asks_here : asks_at (slice_get s.machines w) ≡ asks (fs w)
  asks_here = asks_by (slice_get s.calls w) refl

  reply_by : (k : Option (InFlight V)) (r : Reply V) → slice_get s.calls w ≡ k → replied (fs w) ≡ Some r → reply_at (slice_get s.machines w) ≡ Some r
  reply_by None r e q = absurd (let z : None ≡ Some r = sym (ap replied (past_over e)) ∙ q in cc)
  reply_by (Some k) r e q =
      let x : (x : Machine Id V) × (slice_get s.machines w ≡ Some x) = get_beside s.machines s.calls w holds.0.machines k e in
      ap reply_at x.1 ∙ call_replied k x.0 (fs w) r (fl.each w k x.0 e x.1) q

  -- a call that is watched as having a reply has that reply in its machine
  pub reply_here : (r : Reply V) → fs w ≡ Decided r → reply_at (slice_get s.machines w) ≡ Some r
  reply_here r e = reply_by (slice_get s.calls w) r refl (ap replied e)

-- a step makes no call a writing one
module _ {V : Type 0} where
  undecided_writes : (k : ℕ) (kd : Kind V) (v : Option V) (q : Question V) (m : Moved V) (f' : Flight V) → Undecided k kd v q m f' → may_write kd ≡ false → writes_on f' ≡ false
  undecided_writes k kd v q moved.Running f' u e = ap writes_on u.2 ∙ e
  undecided_writes k kd v q (moved.Asks x) f' u e = ap writes_on u.1 ∙ e
  undecided_writes k kd v q (moved.Done r) f' u e = absurd u
  undecided_writes k kd v q (moved.Refused c) f' u e = ap writes_on u
  undecided_writes k kd v q (moved.Found place key x) f' u e = absurd u
  undecided_writes k kd v q (moved.Scanned count) f' u e = absurd u

  -- a call that took effect may not write any more
  pub concluded_writes : (r : Reply V) (m : Moved V) (f' : Flight V) → Concludes r m f' → writes_on f' ≡ false
  concluded_writes r moved.Running f' u = ap writes_on u
  concluded_writes r (moved.Asks x) f' u = absurd u
  concluded_writes r (moved.Done t) f' u = ap writes_on u.1
  concluded_writes r (moved.Refused c) f' u = absurd u
  concluded_writes r (moved.Found place key x) f' u = absurd u
  concluded_writes r (moved.Scanned count) f' u = absurd u

  scan_writes : (start end size : ℕ) (states : List (Pairs V)) (places : List (ℕ × V)) (m : Moved V) (f' : Flight V) → ScanTells start end size states places m f' → writes_on f' ≡ false
  scan_writes start end size states places moved.Running f' u = ap writes_on u
  scan_writes start end size states places (moved.Asks x) f' u = absurd u
  scan_writes start end size states places (moved.Done t) f' u = absurd u
  scan_writes start end size states places (moved.Refused c) f' u = ap writes_on u
  scan_writes start end size states places (moved.Found place key x) f' u = ap writes_on u.1
  scan_writes start end size states places (moved.Scanned count) f' u = ap writes_on u.2

  module _ (same : V → V → Bool) where
    pending_writes : (k : ℕ) (kd : Kind V) (v : Option V) (q : Question V) (m : Pairs V) (b : Bool) (l : Line V) (f' : Flight V) → PendingStep same k kd v q m b l f' → may_write kd ≡ false → writes_on f' ≡ false
    pending_writes k kd v q m false l f' (inl x) e = undecided_writes k kd v q x.outcome f' x.undecided e
    pending_writes k kd v q m false l f' (inr x) e = ap writes_on x.over
    pending_writes k kd v q m true l f' x e = concluded_writes x.entry.reply x.outcome f' x.concludes

    advanced_writes : (fs fs' : Flights V) (w : ℕ) (f' : Flight V) → fs' ≡ with_flight fs w f' → writes_on f' ≡ false → writes_on (fs' w) ≡ false
    advanced_writes fs fs' w f' e n = ap (λ (g : Flights V). writes_on (g w)) e ∙ ap writes_on (flight_here fs w f') ∙ n

    -- a call that may not write may not after a further step either
    pub go_writes : (fs : Flights V) (f : Flight V) (m : Pairs V) (answer : Option (Option V)) (l : Line V) (fs' : Flights V) → fs l.step.worker ≡ f → GoMap same fs f m answer l fs' → writes_on f ≡ false → writes_on (fs' l.step.worker) ≡ false
    go_writes fs (Pending k kd v q) m answer l fs' e x n =
        advanced_writes fs fs' l.step.worker x.next x.with_next (pending_writes k kd (value_answered kd q answer v) (resolved kd q answer) m l.report.decided l x.next x.step n)
    go_writes fs (Decided r) m answer l fs' e x n = advanced_writes fs fs' l.step.worker x.next x.with_next (concluded_writes r x.step.outcome x.next x.step.concludes)
    go_writes fs Over m answer l fs' e x n = ap (λ (g : Flights V). writes_on (g l.step.worker)) x.same_flights ∙ ap writes_on e
    go_writes fs (Unbegun start end size) m answer l fs' e x n = advanced_writes fs fs' l.step.worker x.next x.with_next (scan_writes start end size (m ∷ []) [] x.step.outcome x.next x.step.tells)
    go_writes fs (Scanning start end size states places) m answer l fs' e x n = advanced_writes fs fs' l.step.worker x.next x.with_next (scan_writes start end size (m ∷ states) places x.step.outcome x.next x.step.tells)

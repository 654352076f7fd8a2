-- One step of the machine, on the map: the pairs that stood, and the calls on the tree that are in flight.
use Rattle.std.proofs.Common.{◌≡◌, ◌≢◌, ◌<◌, ◌≤◌, ◌==◌, ℕ, suc, arith, Bool, true, false, List, [], ◌∷◌, refl, sym, ◌∙◌, ap, subst, inl, inr}
use Rattle.std.proofs.Math.ListN.{set}
use Rattle.std.specs.Prelude.{Option, None, Some, cond, ltb, leb, length, slice_get, slice_set, if◌then◌else◌}
use Rattle.std.proofs.lemmas.Bool.{cases_Bool, eqb-true, false≢true, lt-ltb, le-leb}
use Rattle.std.proofs.lemmas.List.{length-set, set-set, get_or_past}
use Rattle.std.proofs.lemmas.Option.{slice_get_within, slice_get_cases}
use Rattle.judge.specs.declared.journal.Entry.{Entry}
use Rattle.judge.specs.Answer.{Pairs}
use Rattle.crossbeam_epoch.specs.declared.fault.Fault.{Fault}
use Rattle.crossbeam_epoch.specs.declared.fault.Fault.TheVariants as fault
use Rattle.crossbeam_epoch.specs.declared.world.participant.Participant.{Participant}
use Rattle.crossbeam_epoch.specs.declared.world.participant.Phase.{Phase as CollectorPhase}
use Rattle.crossbeam_epoch.specs.declared.world.participant.Phase.TheVariants as collector_phase
use Rattle.crossbeam_epoch.specs.declared.world.report.Event.{Event as CollectorEvent}
use Rattle.crossbeam_epoch.specs.declared.world.report.Event.TheVariants as collector_event
use Rattle.crossbeam_epoch.specs.declared.world.report.Op.{Op as CollectorOp}
use Rattle.crossbeam_epoch.specs.declared.world.report.Op.TheVariants.{Secure}
use Rattle.crossbeam_epoch.specs.declared.world.report.Outcome.{Outcome as CollectorOutcome}
use Rattle.crossbeam_epoch.specs.declared.world.report.Outcome.TheVariants as collector_outcome
use Rattle.crossbeam_epoch.specs.declared.world.report.Report.{Report as Collection}
use Rattle.crossbeam_epoch.specs.world.Machine.{State, place, blank}
use Rattle.crossbeam_epoch.specs.world.Progress.{IsOn, stage as stage_of, comes_by}
use Rattle.crossbeam_epoch.specs.world.Steps.{IsOutcome, event_fault, fault as fault_of}
use Rattle.congee.specs.declared.protocol.machine.Machine.{Machine}
use Rattle.congee.specs.declared.protocol.machine.Move.{Move}
use Rattle.congee.specs.declared.protocol.machine.Noise.{Noise}
use Rattle.congee.specs.declared.protocol.machine.Outcome.TheVariants as moved
use Rattle.congee.specs.declared.protocol.op.Op.{Op as Point}
use Rattle.congee.specs.declared.protocol.op.Op.TheVariants as point
use Rattle.congee.specs.declared.protocol.phase.Kind.{Kind as Does}
use Rattle.congee.specs.declared.protocol.phase.Phase.TheVariants.{Ended}
use Rattle.congee.specs.declared.protocol.store.Refusal.TheVariants as cause
use Rattle.congee.specs.protocol.Answers.{SameMap}
use Rattle.congee.specs.protocol.Scans.{IsScan}
use Rattle.congee.specs.Heap.{Node}
use Rattle.congee.specs.Keys.{IsMapOf, key_bytes}
use Rattle.congee.specs.protocol.Play.{Flight, Pending, Decided, Over, Unbegun, Scanning, Question, Unasked, value_answered, resolved, begun, parts, flight, Follows, Following, Watched, WatchedAt, PendingMoves}
use Rattle.congee.specs.protocol.State.{is_over}
use Rattle.joint.specs.declared.engine.in_flight.InFlight.{InFlight}
use Rattle.joint.specs.declared.engine.in_flight.InFlight.TheVariants.{Idle, Collecting, Reserving, Securing, Walking}
use Rattle.joint.specs.declared.id.Id.{Id}
use Rattle.joint.specs.declared.steps.Event.{Event}
use Rattle.joint.specs.declared.steps.Event.TheVariants.{Register, Begin, Go}
use Rattle.joint.specs.declared.steps.Kind.{Kind}
use Rattle.joint.specs.declared.steps.Kind.TheVariants as kind
use Rattle.joint.specs.declared.steps.Op.{Op}
use Rattle.joint.specs.declared.steps.Done.TheVariants.{Scanned}
use Rattle.joint.specs.declared.steps.Outcome.TheVariants.{Running, Done, Refused}
use Rattle.joint.specs.declared.steps.Report.{Report}
use Rattle.joint.specs.declared.steps.Target.{Target}
use Rattle.joint.specs.declared.steps.Target.TheVariants as target
use Rattle.joint.specs.nodes.Nodes.{nodes, Refuses}
use Rattle.joint.specs.engine.Intact.{IsAt, IsIntact, call_after, secured_call, secured_machines, over_at, rested, writes}
use Rattle.joint.specs.Names.{root}
use Rattle.joint.specs.Refusals.{of_fault}
use Rattle.joint.specs.Reports.{target, told}
use Rattle.joint.specs.engine.Surveys.{MapTells}
use Rattle.joint.specs.world.MapSteps.{EventMap, GoMap, FlightStep, PendingStep, BeginMap, BeginsOr, EndsAtOnce, FindsNone, Stays, Line}
use Rattle.joint.specs.engine.Flying.{Flights, with_flight, IsInFlight, AreInFlight}
use Rattle.joint.specs.engine.Engine.{World, EngineHolds, misuse, is_busy, place_of, quiet, collection, finds_none, Collects, Enters, EntersUnless, Reserves, GoesOnReserving, SecuresFirst, reserving, Walks, BeginsAt, BeginsOnTree, GoesAt, Proceeds, Does as Acts}
use Rattle.joint.proofs.lemmas.engine.Collecting.{get_beside}
use Rattle.joint.proofs.lemmas.engine.Reserving.{same_nodes, next_calls, next_here}
use Rattle.joint.proofs.lemmas.engine.Telling.{map_tells}
use Rattle.joint.proofs.lemmas.engine.ScanEnds.{cleared_is, done_over, rest_follows}
use Rattle.joint.proofs.lemmas.world.Flights.{set_at, flight_here, flight_apart, pending, begun_follows, over_when_ended, listed, listed_at, following, followed}
use Rattle.joint.proofs.lemmas.engine.Walking.{over_ended}
use Rattle.congee.proofs.Laws.{get_set}

-- the pairs stand on where the map is the same
pub stands_on : {V : Type 0} (h h' : ℕ → Node V) (m : Pairs V) → SameMap h h' → IsMapOf h m → IsMapOf h' m
stands_on h h' m same st = record {
  at = λ k l. st.at k l ∙ sym (same (key_bytes k) refl);
  none_beyond = st.none_beyond;
}

-- a scan that can find nothing keeps its promise with no pair: it has no place, where its range has a key
no_place : (A : Type 0) (size : ℕ) (b : Bool) → (A → b ≡ true) → cond b (size == 0) true ≡ true → A → size ≡ 0
no_place A size true has z a = eqb-true size 0 z
no_place A size false has z a = absurd (false≢true (has a))

scan_of_none : {V : Type 0} (start end size : ℕ) (m : Pairs V) → (start < end → size ≡ 0) → IsScan {V = V} start end size (m ∷ []) []
scan_of_none start end size m none = record {
  rises = tt;
  few = omega arith;
  within = tt;
  stood = tt;
  complete = λ k a b x. inr (sym (none (omega (arith, a, b))), tt);
}

-- a step that goes on with making places free is refused for want of memory alone
go_free : {J : Type 0} (phase : CollectorPhase) (p : Participant J) → comes_by (stage_of phase) (Secure 2) ≡ true → event_fault collector_event.Go phase p ≡ None
go_free collector_phase.Idle p e = absurd cc
go_free _ p e = refl

only_memory : {T J : Type 0} (c : State T J) (who : ℕ) (f : Fault) → IsOutcome c who collector_event.Go None (collector_outcome.Refused f) → f ≡ fault.Memory
only_memory c who fault.Memory x = refl
only_memory c who _ x = absurd x

-- a further step that makes places free is refused for want of memory alone
wants_memory : {T J : Type 0} (c : State T J) (who : ℕ) (f : Fault) → IsOn (Secure 2) (place c who) → IsOutcome c who collector_event.Go (fault_of c who collector_event.Go) (collector_outcome.Refused f) → f ≡ fault.Memory
wants_memory c who f on x =
    let P : Bool → Type 0 = λ b. IsOutcome c who collector_event.Go (if b then event_fault collector_event.Go (place c who).phase (place c who) else Some fault.Unknown) (collector_outcome.Refused f) in
    let Q : Option Fault → Type 0 = λ o. IsOutcome c who collector_event.Go o (collector_outcome.Refused f) in
    only_memory c who f (subst Q (go_free (place c who).phase (place c who) on.1) (subst P on.0 x))

-- what is left of a call on the collector is watched as nothing
collecting_over : {V : Type 0} (o : CollectorOutcome) (op : CollectorOp) (x : Machine Id V) (f : Flight V) → f ≡ Over → IsInFlight (call_after o (Collecting op)) x f
collecting_over collector_outcome.Running op x f e = e
collecting_over collector_outcome.Done op x f e = e
collecting_over (collector_outcome.Refused g) op x f e = e

module _ {V : Type 0} (same : V → V → Bool) (always : Bool) (s s' : World V) (w : ℕ) (holds : EngineHolds same always s) (fs : Flights V) (m : Pairs V) (st : IsMapOf (nodes s.forest) m) (fl : AreInFlight s fs) where
  -- the line of a step with this report, and what comes of it
  abbrev line : Event V → Report V → Option (Entry V) → Pairs V → Line V
  line event r e m' = record { step = record { worker = w; event = event }; report = r; entry = e; pairs = m' }

  -- the step with this report is one on the map, as `map` says, and these pairs and calls stand after it
  pub record Result (event : Event V) (r : Report V) (map : Line V → Flights V → Type 0) : Type 0 where
    pub entry : Option (Entry V)
    pub pairs : Pairs V
    pub flights : Flights V
    pub stand : IsMapOf (nodes s'.forest) pairs
    pub step : map (line event r entry pairs) flights
    pub in_flight : AreInFlight s' flights

  abbrev intact : IsIntact same always s.forest s.machines s.calls
  intact = holds.0

  inside : (place_of s w).registered ≡ true → w < length s.calls
  inside r = elim (slice_get_cases s.calls w).1 [
    | inl x ↦ x.1
    | inr x ↦ absurd (
        let l : length s.forest.collector.table ≤ w = omega (arith, x.0, intact.table) in
        let e : place_of s w ≡ blank = get_or_past s.forest.collector.table w blank l in
        let q : false ≡ true = sym (ap (λ p. p.registered) e) ∙ r in false≢true q)
  ]

  -- a worker without a call in flight is watched as nothing
  free : (k : Option (InFlight V)) → slice_get s.calls w ≡ k → is_busy k ≡ false → fs w ≡ Over
  free None e b = elim (slice_get_cases s.calls w).1 [
    | inl x ↦ absurd (let q : None ≡ Some x.0 = sym e ∙ x.2 in cc)
    | inr x ↦ fl.beyond w x.0
  ]
  free (Some Idle) e b = fl.each w Idle (get_beside s.machines s.calls w intact.machines Idle e).0 e (get_beside s.machines s.calls w intact.machines Idle e).1
  free (Some (Collecting op)) e b = fl.each w (Collecting op) (get_beside s.machines s.calls w intact.machines (Collecting op) e).0 e (get_beside s.machines s.calls w intact.machines (Collecting op) e).1
  free (Some (Reserving op)) e b = absurd cc
  free (Some (Securing op)) e b = absurd cc
  free (Some Walking) e b = absurd cc

  -- nothing changed
  unchanged : (event : Event V) (r : Report V) (map : Line V → Flights V → Type 0) → s' ≡ s → map (line event r None m) fs → Result event r map
  unchanged event r map e x = record {
    entry = None;
    pairs = m;
    flights = fs;
    stand = (let P : World V → Type 0 = λ y. IsMapOf (nodes y.forest) m in subst P (sym e) st);
    step = x;
    in_flight = (let P : World V → Type 0 = λ y. AreInFlight y fs in subst P (sym e) fl);
  }

  stays : (event : Event V) (r : Report V) (m' : Pairs V) → r.decided ≡ false → Stays fs m (line event r None m) fs
  stays event r m' d = record { undecided = d; no_entry = refl; same_pairs = refl; same_flights = refl }

  -- where one worker's call was exchanged, all are watched with its flight exchanged
  pub set_in_flight : (fs' : Flights V) (k' : InFlight V) → w < length s.calls → s'.calls ≡ slice_set s.calls w k'
      → ((i : ℕ) (x : Machine Id V) → i ≢ w → slice_get s'.machines i ≡ Some x → slice_get s.machines i ≡ Some x)
      → ((x : Machine Id V) → slice_get s'.machines w ≡ Some x → IsInFlight k' x (fs' w)) → ((i : ℕ) → i ≢ w → fs' i ≡ fs i) → AreInFlight s' fs'
  set_in_flight fs' k' l ec em here apart = record {
    each = λ i k x a b.
        let P : List (InFlight V) → Type 0 = λ ks. slice_get ks i ≡ Some k in
        elim (get_set s.calls w i k' k (subst P ec a)) [
          | inl e ↦ (
              let Q : InFlight V → Type 0 = λ y. IsInFlight y x (fs' i) in
              let R : ℕ → Type 0 = λ j. IsInFlight k' x (fs' j) in
              let S : ℕ → Type 0 = λ j. slice_get s'.machines j ≡ Some x in
              subst Q e.1 (subst R (sym e.0) (here x (subst S e.0 b))))
          | inr e ↦ (let Q : Flight V → Type 0 = λ f. IsInFlight k x f in subst Q (sym (apart i e.0)) (fl.each i k x e.1 (em i x e.0 b)))
        ];
    beyond = λ i b.
        let n : length s'.calls ≡ length s.calls = ap length ec ∙ length-set s.calls w k' in
        let ne : i ≢ w = λ q. omega (arith, q, l, b, n) in
        apart i ne ∙ fl.beyond i (omega (arith, b, n));
  }

  -- a call on the collector
  collects : (event : Event V) (collector_report : CollectorEvent) (op : CollectorOp) (r : Report V) (map : Line V → Flights V → Type 0) → fs w ≡ Over → w < length s.calls → Collects same always s w collector_report (Collecting op) r s'
      → (r.decided ≡ false → map (line event r None m) fs) → Result event r map
  collects event collector_report op r map f l k x = record {
    entry = None;
    pairs = m;
    flights = fs;
    stand = stands_on (nodes s.forest) (nodes s'.forest) m k.step.map st;
    step = x (ap (λ y. y.decided) k.report);
    in_flight = set_in_flight fs (call_after k.collector_report.outcome (Collecting op)) l k.calls
        (λ i y n b. let P : List (Machine Id V) → Type 0 = λ ms. slice_get ms i ≡ Some y in subst P k.machines b)
        (λ y b. collecting_over k.collector_report.outcome op y (fs w) f) (λ i n. refl);
  }

  -- a call begins on the tree, or its worker first makes places free
  abbrev starts : Point V → Flights V
  starts op = with_flight fs w (flight (begun root op))

  begins_line : (event : Event V) (op : Point V) (r : Report V) → fs w ≡ Over → r ≡ quiet kind.Tree Running → BeginsOr fs m op r.outcome (line event r None m) (starts op)
  begins_line event op r f e =
      let P : Report V → Type 0 = λ y. BeginsOr fs m op y.outcome (line event y None m) (starts op) in
      subst P (sym e) (record { free = f; accepted = refl; undecided = refl; no_entry = refl; same_pairs = refl; begins = refl })

  enters : (event : Event V) (op : Point V) (r : Report V) → fs w ≡ Over → w < length s.calls → Enters s w op r s' → Result event r (λ l f'. BeginsOr fs m op l.report.outcome l f')
  enters event op r f l k = record {
    entry = None;
    pairs = m;
    flights = starts op;
    stand = (let P : World V → Type 0 = λ y. IsMapOf (nodes y.forest) m in subst P (sym k.state) st);
    step = begins_line event op r f k.report;
    in_flight = set_in_flight (starts op) Walking l (ap (λ y. y.calls) k.state)
        (λ i y n b.
        let P : List (Machine Id V) → Type 0 = λ ms. slice_get ms i ≡ Some y in
        elim (get_set s.machines w i (begun root op) y (subst P (ap (λ z. z.machines) k.state) b)) [
          | inl e ↦ absurd (n e.0)
          | inr e ↦ e.1
        ])
        (λ y b.
        let P : List (Machine Id V) → Type 0 = λ ms. slice_get ms w ≡ Some y in
        let Q : Flight V → Type 0 = λ g. Follows y g in
        let R : Machine Id V → Type 0 = λ z. Follows z (flight (begun root op)) in
        subst Q (sym (flight_here fs w (flight (begun root op)))) (elim (get_set s.machines w w (begun root op) y (subst P (ap (λ z. z.machines) k.state) b)) [
          | inl e ↦ subst R e.1 (begun_follows op)
          | inr e ↦ absurd (e.0 refl)
        ]))
        (λ i n. flight_apart fs w i (flight (begun root op)) n);
  }

  reserves : (event : Event V) (op : Point V) (r : Report V) → fs w ≡ Over → w < length s.calls → Reserves s w op r s' → Result event r (λ l f'. BeginsOr fs m op l.report.outcome l f')
  reserves event op r f l k = record {
    entry = None;
    pairs = m;
    flights = starts op;
    stand = (let P : World V → Type 0 = λ y. IsMapOf (nodes y.forest) m in subst P (sym k.state) st);
    step = begins_line event op r f k.report;
    in_flight = set_in_flight (starts op) (Reserving op) l (ap (λ y. y.calls) k.state)
        (λ i y n b. let P : List (Machine Id V) → Type 0 = λ ms. slice_get ms i ≡ Some y in subst P (ap (λ y. y.machines) k.state) b)
        (λ y b. flight_here fs w (flight (begun root op)))
        (λ i n. flight_apart fs w i (flight (begun root op)) n);
  }

  -- a scan that can find nothing is done at once, and what it found is what it promises
  none_in : (event : Event V) (start end size : ℕ) → (start < end → size ≡ 0) → fs w ≡ Over → FindsNone start end size 0 fs m (line event (quiet kind.Tree (Done (Scanned 0))) None m) fs
  none_in event start end size n f = record { free = f; none = refl; scan = scan_of_none start end size m n; stays = stays event (quiet kind.Tree (Done (Scanned 0))) m refl }

  ends_at_once : (event : Event V) (op : Point V) → finds_none op ≡ true → fs w ≡ Over → EndsAtOnce fs m op (Scanned 0) (line event (quiet kind.Tree (Done (Scanned 0))) None m) fs
  ends_at_once event (point.Range start end size) n f = none_in event start end size (no_place (start < end) size (ltb start end) (lt-ltb start end) n) f
  ends_at_once event (point.RangeInclusive start last size) n f =
      none_in event start (suc last) size (λ l. no_place (start ≤ last) size (leb start last) (le-leb start last) n (omega (arith, l))) f
  ends_at_once event (point.Get k) n f = absurd (cc n)
  ends_at_once event (point.Insert k v) n f = absurd (cc n)
  ends_at_once event (point.Remove k) n f = absurd (cc n)
  ends_at_once event (point.ComputePresent k) n f = absurd (cc n)
  ends_at_once event (point.ComputeInsert k) n f = absurd (cc n)
  ends_at_once event (point.Exchange k old new) n f = absurd (cc n)

  found_none : (event : Event V) (op : Point V) (r : Report V) → finds_none op ≡ true → fs w ≡ Over → r ≡ quiet kind.Tree (Done (Scanned 0)) → BeginsOr fs m op r.outcome (line event r None m) fs
  found_none event op r n f e =
      let P : Report V → Type 0 = λ y. BeginsOr fs m op y.outcome (line event y None m) fs in
      subst P (sym e) (ends_at_once event op n f)

  begins_scan : (event : Event V) (op : Point V) (r : Report V) (none : Bool) → finds_none op ≡ none → fs w ≡ Over → w < length s.calls → EntersUnless none s w op r s' → Result event r (λ l f'. BeginsOr fs m op l.report.outcome l f')
  begins_scan event op r true n f l x = unchanged event r (λ y f'. BeginsOr fs m op y.report.outcome y f') x.state (found_none event op r n f x.report)
  begins_scan event op r false n f l x = enters event op r f l x

  begins_tree : (event : Event V) (op : Point V) (r : Report V) → fs w ≡ Over → w < length s.calls → BeginsOnTree same always s w op r s' → Result event r (λ l f'. BeginsOr fs m op l.report.outcome l f')
  begins_tree event (point.Get k) r f l x = enters event (point.Get k) r f l x
  begins_tree event (point.Range start end size) r f l x = begins_scan event (point.Range start end size) r (finds_none {V = V} (point.Range start end size)) refl f l x
  begins_tree event (point.RangeInclusive start last size) r f l x = begins_scan event (point.RangeInclusive start last size) r (finds_none {V = V} (point.RangeInclusive start last size)) refl f l x
  begins_tree event (point.Insert k v) r f l x = reserves event (point.Insert k v) r f l x
  begins_tree event (point.Remove k) r f l x = reserves event (point.Remove k) r f l x
  begins_tree event (point.ComputePresent k) r f l x = reserves event (point.ComputePresent k) r f l x
  begins_tree event (point.ComputeInsert k) r f l x = reserves event (point.ComputeInsert k) r f l x
  begins_tree event (point.Exchange k old new) r f l x = reserves event (point.Exchange k old new) r f l x

  begins : (event : Event V) (t : Target V) (r : Report V) → fs w ≡ Over → w < length s.calls → BeginsAt same always s w t r s' → Result event r (λ l f'. BeginMap fs m t l f')
  begins event (target.Collector op) r f l x = collects event (collector_event.Begin op) op r (λ y f'. BeginMap fs m (target.Collector op) y f') f l x (λ d. stays event r m d)
  begins event (target.Tree op) r f l x = begins_tree event op r f l x
  begins event (target.Survey k) r f l x =
      unchanged event r (λ y f'. BeginMap fs m (target.Survey k) y f') x.state (record {
        tells = subst (MapTells m k) (sym (ap (λ y. y.outcome) x.report)) (map_tells (nodes s.forest) m st k x.outcome x.tells);
        stays = stays event r m (ap (λ y. y.decided) x.report);
      })

  refused_begin : (event : Event V) (t : Target V) (r : Report V) (k : Kind) (f : Fault) → r ≡ quiet k (Refused (of_fault f)) → BeginMap fs m t (line event r None m) fs
  refused_begin event (target.Collector op) r k f e = stays event r m (ap (λ y. y.decided) e)
  refused_begin event (target.Tree op) r k f e =
      let P : Report V → Type 0 = λ y. BeginsOr fs m op y.outcome (line event y None m) fs in
      subst P (sym e) (stays event (quiet k (Refused (of_fault f))) m refl)
  refused_begin event (target.Survey t) r k f e = record {
    tells = subst (MapTells m t) (sym (ap (λ y. y.outcome) e)) tt;
    stays = stays event r m (ap (λ y. y.decided) e);
  }

  -- a worker's call on the tree goes on, in whichever way it is watched
  advances : (f : Flight V) (event : Event V) (answer : Option (Option V)) (r : Report V) (e : Option (Entry V)) (m' : Pairs V) (f' : Flight V) → f ≢ Over → fs w ≡ f → FlightStep same f m answer (line event r e m') f'
      → GoMap same fs (fs w) m answer (line event r e m') (with_flight fs w f')
  advances f event answer r e m' f' n is x =
      let P : Flight V → Type 0 = λ g. GoMap same fs g m answer (line event r e m') (with_flight fs w f') in
      subst P (sym is) (by_flight f n x) where
        by_flight : (g : Flight V) → g ≢ Over → FlightStep same g m answer (line event r e m') f' → GoMap same fs g m answer (line event r e m') (with_flight fs w f')
        by_flight (Pending k kind v q) n x = record { next = f'; step = x; with_next = refl }
        by_flight (Decided y) n x = record { next = f'; step = x; with_next = refl }
        by_flight Over n x = absurd (n refl)
        by_flight (Unbegun start end size) n x = record { next = f'; step = x; with_next = refl }
        by_flight (Scanning start end size states places) n x = record { next = f'; step = x; with_next = refl }

  -- a writing call that makes its places free goes on with that, begins on the tree, or is refused
  module _ (op : Point V) (noise : Noise Id V) (writing : writes op ≡ true) (watched : fs w ≡ flight (begun root op)) (len : w < length s.calls) where
    abbrev waiting : Flight V
    waiting = Pending (parts op).0 (parts op).1 (parts op).2 Unasked

    waits : fs w ≡ waiting
    waits = watched ∙ pending op writing

    abbrev Went : Report V → Type 0
    Went r = Result (Go noise) r (λ l f'. GoMap same fs (fs w) m noise.answer l f')

    same_machines : s'.machines ≡ s.machines → (i : ℕ) (x : Machine Id V) → i ≢ w → slice_get s'.machines i ≡ Some x → slice_get s.machines i ≡ Some x
    same_machines q i x n b = let P : List (Machine Id V) → Type 0 = λ ms. slice_get ms i ≡ Some x in subst P q b

    reserving_case : (collector_report : Collection) (o : CollectorOutcome) → s'.calls ≡ slice_set s.calls w (secured_call o (Some (Securing op))) → s'.machines ≡ secured_machines o (Some (Securing op)) s.machines w
        → ((f : Fault) → o ≡ collector_outcome.Refused f → f ≡ fault.Memory) → SameMap (nodes s.forest) (nodes s'.forest) → Went (collection collector_report (reserving o))
    reserving_case collector_report collector_outcome.Running ec em only map = record {
      entry = None;
      pairs = m;
      flights = with_flight fs w waiting;
      stand = stands_on (nodes s.forest) (nodes s'.forest) m map st;
      step = advances waiting (Go noise) noise.answer (collection collector_report Running) None m waiting (λ q. cc) waits (inl (record {
        outcome = moved.Running;
        told_so = refl;
        undecided = (Unasked, tt, refl);
        no_entry = refl;
        same_pairs = refl;
      }));
      in_flight = set_in_flight (with_flight fs w waiting) (Securing op) len ec (same_machines em)
          (λ y b. flight_here fs w waiting ∙ sym (pending op writing)) (λ i n. flight_apart fs w i waiting n);
    }
    reserving_case collector_report collector_outcome.Done ec em only map = record {
      entry = None;
      pairs = m;
      flights = with_flight fs w waiting;
      stand = stands_on (nodes s.forest) (nodes s'.forest) m map st;
      step = advances waiting (Go noise) noise.answer (collection collector_report Running) None m waiting (λ q. cc) waits (inl (record {
        outcome = moved.Running;
        told_so = refl;
        undecided = (Unasked, tt, refl);
        no_entry = refl;
        same_pairs = refl;
      }));
      in_flight = set_in_flight (with_flight fs w waiting) Walking len ec
          (λ i y n b.
          let P : List (Machine Id V) → Type 0 = λ ms. slice_get ms i ≡ Some y in
          elim (get_set s.machines w i (begun root op) y (subst P em b)) [
            | inl q ↦ absurd (n q.0)
            | inr q ↦ q.1
          ])
          (λ y b.
          let P : List (Machine Id V) → Type 0 = λ ms. slice_get ms w ≡ Some y in
          let Q : Flight V → Type 0 = λ g. Follows y g in
          let R : Machine Id V → Type 0 = λ z. Follows z (flight (begun root op)) in
          subst Q (pending op writing ∙ sym (flight_here fs w waiting)) (elim (get_set s.machines w w (begun root op) y (subst P em b)) [
            | inl q ↦ subst R q.1 (begun_follows op)
            | inr q ↦ absurd (q.0 refl)
          ]))
          (λ i n. flight_apart fs w i waiting n);
    }
    reserving_case collector_report (collector_outcome.Refused f) ec em only map = record {
      entry = None;
      pairs = m;
      flights = with_flight fs w Over;
      stand = stands_on (nodes s.forest) (nodes s'.forest) m map st;
      step = advances waiting (Go noise) noise.answer (collection collector_report (Refused (of_fault f))) None m Over (λ q. cc) waits (inl (record {
        outcome = moved.Refused cause.Memory;
        told_so = ap (λ g. Refused (of_fault g)) (only f refl);
        undecided = refl;
        no_entry = refl;
        same_pairs = refl;
      }));
      in_flight = set_in_flight (with_flight fs w Over) Idle len ec (same_machines em)
          (λ y b. flight_here fs w Over) (λ i n. flight_apart fs w i Over n);
    }

    -- from a state whose pairs and calls on the tree are these
    reserving_from : (b : World V) (x : Machine Id V) → IsAt (Securing op) (place_of b w) x → slice_get b.calls w ≡ Some (Securing op) → nodes b.forest ≡ nodes s.forest → b.machines ≡ s.machines → ((k : InFlight V) → slice_set b.calls w k ≡ slice_set s.calls w k)
        → (r : Report V) → GoesOnReserving same always b w r s' → Went r
    reserving_from b x at e en em ec r k =
        let P : Option (InFlight V) → Type 0 = λ c. s'.calls ≡ slice_set b.calls w (secured_call k.collector_report.outcome c) in
        let Q : Option (InFlight V) → Type 0 = λ c. s'.machines ≡ secured_machines k.collector_report.outcome c b.machines w in
        let R : CollectorOutcome → Type 0 = λ o. IsOutcome b.forest.collector w collector_event.Go (fault_of b.forest.collector w collector_event.Go) o in
        let S : (ℕ → Node V) → Type 0 = λ h. SameMap h (nodes s'.forest) in
        subst Went (sym k.report) (reserving_case k.collector_report k.collector_report.outcome (subst P e k.step.call ∙ ec _) (subst Q e k.step.machine ∙ ap (λ ms. secured_machines k.collector_report.outcome (Some (Securing op)) ms w) em)
        (λ f q. wants_memory b.forest.collector w f at.0 (subst R q k.step.collected.report.outcome)) (subst S en k.step.collected.map))

  reserving_on : (op : Point V) (noise : Noise Id V) → slice_get s.calls w ≡ Some (Securing op) → (r : Report V) → GoesOnReserving same always s w r s' → Result (Go noise) r (λ l f'. GoMap same fs (fs w) m noise.answer l f')
  reserving_on op noise e r k =
      let x : (x : Machine Id V) × (slice_get s.machines w ≡ Some x) = get_beside s.machines s.calls w intact.machines (Securing op) e in
      let at : IsAt (Securing op) (place_of s w) x.0 = intact.each w (Securing op) x.0 e x.1 in
      reserving_from op noise at.3 (fl.each w (Securing op) x.0 e x.1) (slice_get_within s.calls w (Securing op) e) s x.0 at e refl refl (λ k. refl) r k

  -- its first step
  secures_first : (op : Point V) (noise : Noise Id V) → slice_get s.calls w ≡ Some (Reserving op) → (r : Report V) → SecuresFirst same always s w r s' → Result (Go noise) r (λ l f'. GoMap same fs (fs w) m noise.answer l f')
  secures_first op noise e r k =
      let x : (x : Machine Id V) × (slice_get s.machines w ≡ Some x) = get_beside s.machines s.calls w intact.machines (Reserving op) e in
      let b : World V = k.between in
      let here : slice_get b.calls w ≡ Some (Securing op) = next_here same always s.forest s.machines s.calls w b.forest b.machines b.calls k.begins op e in
      let there : slice_get b.machines w ≡ Some x.0 = ap (λ ms. slice_get ms w) k.begins.machine ∙ x.1 in
      let at : IsAt (Securing op) (place_of b w) x.0 = k.begins.intact.each w (Securing op) x.0 here there in
      reserving_from op noise at.3 (fl.each w (Reserving op) x.0 e x.1) (slice_get_within s.calls w (Reserving op) e) b x.0 at here
      (same_nodes same always s.forest s.machines s.calls w b.forest b.machines b.calls k.begins) k.begins.machine
      (λ c. ap (λ ks. slice_set ks w c) (next_calls same always s.forest s.machines s.calls w b.forest b.machines b.calls k.begins op e) ∙ set-set s.calls w (Securing op) c) r k.goes

  -- a worker's call on the tree takes a step
  module _ (noise : Noise Id V) (e : slice_get s.calls w ≡ Some Walking) (d : Move V) where
    abbrev own : List (Flight V)
    own = listed s.calls fs 0

    own_at : slice_get own w ≡ Some (fs w)
    own_at = listed_at s.calls fs 0 w e ∙ ap (λ n. Some (fs n)) (omega arith)

    rest : (k : InFlight V) (c : Participant (Unit {0})) (x : Machine Id V) → IsAt k c x → (k ≡ Walking → ⊥) → x.phase ≡ Ended
    rest Idle c x a n = a.1
    rest (Collecting op) c x a n = a.1
    rest (Reserving op) c x a n = a.3
    rest (Securing op) c x a n = a.2
    rest Walking c x a n = absurd (n refl)

    follow : Following s.machines own
    follow = following s.calls s.machines fs 0 intact.machines
        (λ j k x a b. let P : ℕ → Type 0 = λ n. IsInFlight k x (fs n) in subst P (omega arith) (fl.each j k x a b))
        (λ j k x a b. rest k (place_of s j) x (intact.each j k x a b))

    -- what the step tells, by whether it decides
    abbrev told_line : Report V → Option (Entry V) → Pairs V → Line V
    told_line r x m' = line (Go noise) r x m'

    pending_step : (k : ℕ) (kd : Does V) (v : Option V) (q : Question V) (b : Bool) (r : Report V) (f' : Flight V) (m' : Pairs V) → r.outcome ≡ told d.outcome → PendingMoves same k kd v q m b d.outcome f' m'
        → (x : Option (Entry V)) × PendingStep same k kd v q m b (told_line r x m') f'
    pending_step k kd v q false r f' m' t x = (None, inl (record { outcome = d.outcome; told_so = t; undecided = x.0; no_entry = refl; same_pairs = x.1 }))
    pending_step k kd v q true r f' m' t x = (
      Some (record { worker = w; call = x.0; reply = x.1 }),
      record { entry = record { worker = w; call = x.0; reply = x.1 }; is_entry = refl; worker = refl; call = x.2; heeds = x.3; answers = x.4; outcome = d.outcome; told_so = t; concludes = x.5 },
    )

    -- the flights after the step
    pub record Flown (f : Flight V) (r : Report V) (f' : Flight V) (m' : Pairs V) : Type 0 where
      pub entry : Option (Entry V)
      pub flights : Flights V
      pub step : GoMap same fs f m noise.answer (told_line r entry m') flights
      pub here : flights w ≡ f'
      pub apart : (i : ℕ) → i ≢ w → flights i ≡ fs i

    flown : (f : Flight V) (r : Report V) (f' : Flight V) (m' : Pairs V) → r.decided ≡ d.decided → r.outcome ≡ told d.outcome → fs w ≡ f → Watched same f m noise.answer d f' m' → Flown f r f' m'
    flown (Pending k kd v q) r f' m' c t is x =
        let v' : Option V = value_answered kd q noise.answer v in
        let q' : Question V = resolved kd q noise.answer in
        let y : (z : Option (Entry V)) × PendingStep same k kd v' q' m d.decided (told_line r z m') f' = pending_step k kd v' q' d.decided r f' m' t x in
        let P : Bool → Type 0 = λ b. PendingStep same k kd v' q' m b (told_line r y.0 m') f' in
        record { entry = y.0; flights = with_flight fs w f'; step = record { next = f'; step = subst P (sym c) y.1; with_next = refl }; here = flight_here fs w f'; apart = λ i n. flight_apart fs w i f' n }
    flown (Decided z) r f' m' c t is x = record {
      entry = None;
      flights = with_flight fs w f';
      step = record { next = f'; step = record { undecided = c ∙ x.0; outcome = d.outcome; told_so = t; concludes = x.1; no_entry = refl; same_pairs = x.2 }; with_next = refl };
      here = flight_here fs w f';
      apart = λ i n. flight_apart fs w i f' n;
    }
    flown Over r f' m' c t is x = record {
      entry = None;
      flights = fs;
      step = record { undecided = c ∙ ap (λ y. y.decided) x.0; no_entry = refl; same_pairs = x.2; same_flights = refl };
      here = is ∙ sym x.1;
      apart = λ i n. refl;
    }
    flown (Unbegun start end size) r f' m' c t is x = record {
      entry = None;
      flights = with_flight fs w f';
      step = record { next = f'; step = record { undecided = c ∙ x.0; outcome = d.outcome; told_so = t; tells = x.1; no_entry = refl; same_pairs = x.2 }; with_next = refl };
      here = flight_here fs w f';
      apart = λ i n. flight_apart fs w i f' n;
    }
    flown (Scanning start end size states places) r f' m' c t is x = record {
      entry = None;
      flights = with_flight fs w f';
      step = record { next = f'; step = record { undecided = c ∙ x.0; outcome = d.outcome; told_so = t; tells = x.1; no_entry = refl; same_pairs = x.2 }; with_next = refl };
      here = flight_here fs w f';
      apart = λ i n. flight_apart fs w i f' n;
    }

  after_walk : (y : Machine Id V) (g : Flight V) → slice_get s'.machines w ≡ Some y → Follows y g → IsInFlight (if over_at (slice_get s'.machines w) then Idle else Walking) y g
  after_walk y g b f =
      let P : Option (Machine Id V) → Type 0 = λ o. IsInFlight (if over_at o then Idle else Walking) y g in
      let Q : Bool → Type 0 = λ c. IsInFlight (if c then Idle else Walking) y g in
      subst P (sym b) (elim (cases_Bool (is_over y.phase)) [
        | inl c ↦ subst Q (sym c) (over_when_ended y g (over_ended y.phase c) f)
        | inr c ↦ subst Q (sym c) f
      ])

  walks : (noise : Noise Id V) (r : Report V) → slice_get s.calls w ≡ Some Walking → Walks same always s w noise r s' → Result (Go noise) r (λ l f'. GoMap same fs (fs w) m noise.answer l f')
  walks noise r e k =
      let x : (x : Machine Id V) × (slice_get s.machines w ≡ Some x) = get_beside s.machines s.calls w intact.machines Walking e in
      let moved = k.step.walked.plays.moved x.0 x.1 in
      let seen = k.step.walked.plays.watched m (own noise e k.move) st (follow noise e k.move) in
      let P : Option (Flight V) → Type 0 = λ o. WatchedAt same (own noise e k.move) m o (record { who = w; noise = noise }) k.move seen.1 seen.0 in
      let at : WatchedAt same (own noise e k.move) m (Some (fs w)) (record { who = w; noise = noise }) k.move seen.1 seen.0 = subst P (own_at noise e k.move) seen.4 in
      let wide : w < length s.machines = slice_get_within s.machines w x.0 x.1 in
      let full : w < length (own noise e k.move) = slice_get_within (own noise e k.move) w (fs w) (own_at noise e k.move) in
      let here : slice_get k.step.between w ≡ Some moved.now = ap (λ ms. slice_get ms w) moved.calls ∙ set_at s.machines w moved.now wide in
      let gone : Follows moved.now at.0 = followed k.step.between seen.1 w moved.now at.0 seen.3 here (ap (λ gs. slice_get gs w) at.2 ∙ set_at (own noise e k.move) w at.0 full) in
      let final_is : s'.machines ≡ set s.machines w (rested moved.now) = k.step.machines ∙ cleared_is s.machines k.step.between w x.0 moved.now x.1 moved.calls in
      let last : slice_get s'.machines w ≡ Some (rested moved.now) = ap (λ ms. slice_get ms w) final_is ∙ set_at s.machines w (rested moved.now) wide in
      let went : Follows (rested moved.now) at.0 =
      rest_follows moved.now at.0 (done_over same always s.forest.version_max (Refuses s.forest) x.0 moved.now (nodes s.forest) (nodes s'.forest) noise.fail noise.answer k.move moved.step (fs w) at.0 m seen.0 noise.answer (fl.each w Walking x.0 e x.1) gone (intact.each w Walking x.0 e x.1).1 at.1) gone in
      let fly : Flown noise e k.move (fs w) r at.0 seen.0 = flown noise e k.move (fs w) r at.0 seen.0 (ap (λ y. y.decided) k.report) (ap (λ y. y.outcome) k.report) refl at.1 in
      record {
        entry = fly.entry;
        pairs = seen.0;
        flights = fly.flights;
        stand = seen.2;
        step = fly.step;
        in_flight = set_in_flight fly.flights (if over_at (slice_get s'.machines w) then Idle else Walking) (slice_get_within s.calls w Walking e) k.calls
            (λ i y n b.
            let Q : List (Machine Id V) → Type 0 = λ ms. slice_get ms i ≡ Some y in
            elim (get_set s.machines w i (rested moved.now) y (subst Q final_is b)) [
              | inl q ↦ absurd (n q.0)
              | inr q ↦ q.1
            ])
            (λ y b.
            let is : rested moved.now ≡ y = let q : Some (rested moved.now) ≡ Some y = sym last ∙ b in cc in
            let F : Machine Id V → Type 0 = λ z. Follows z at.0 in
            let G : Flight V → Type 0 = λ g. IsInFlight (if over_at (slice_get s'.machines w) then Idle else Walking) y g in
            subst G (sym fly.here) (after_walk y at.0 b (subst F is went)))
            fly.apart;
      }

  -- a worker takes a place
  registers : (r : Report V) → Proceeds same always s w Register r s' → Result Register r (λ l f'. EventMap same fs m Register l f')
  registers r (inl x) = record {
    entry = None;
    pairs = m;
    flights = fs;
    stand = (let P : World V → Type 0 = λ y. IsMapOf (nodes y.forest) m in subst P (sym x.1.state) st);
    step = stays Register r m (ap (λ y. y.decided) x.1.report);
    in_flight = (let P : World V → Type 0 = λ y. AreInFlight y fs in subst P (sym x.1.state) (record { each = fl.each; beyond = fl.beyond }));
  }
  registers r (inr x) = unchanged Register r (λ l f'. EventMap same fs m Register l f') x.state (stays Register r m (ap (λ y. y.decided) x.report))

  -- a begin that isn't misused is of a registered worker without a call in flight
  may_begin : (k : Option (InFlight V)) (b : Bool) (f : Fault) (o : Option Fault) → slice_get s.calls w ≡ k → (place_of s w).registered ≡ b
      → (if b then (if is_busy k then Some f else o) else Some fault.Unknown) ≡ None → (fs w ≡ Over) × (w < length s.calls)
  may_begin k false f o e be x = absurd cc
  may_begin k true f o e be x = elim (cases_Bool (is_busy k)) [
    | inl y ↦ absurd (let P : Bool → Type 0 = λ c. (if c then Some f else o) ≡ None in let q : Some f ≡ None = subst P y x in cc)
    | inr y ↦ (free k e y, inside be)
  ]

  begin_case : (op : Op V) (r : Report V) (t : Target V) (o : Option Fault) → t ≡ target op → misuse s w (Begin op) ≡ o → Acts same always s w (Begin op) o r s' → Result (Begin op) r (λ l f'. BeginMap fs m (target op) l f')
  begin_case op r t (Some f) te e x = unchanged (Begin op) r (λ l f'. BeginMap fs m (target op) l f') x.1 (refused_begin (Begin op) (target op) r _ f x.0)
  begin_case op r t None te e x =
      let may : (fs w ≡ Over) × (w < length s.calls) = may_begin (slice_get s.calls w) (place_of s w).registered _ _ refl refl e in
      begins (Begin op) (target op) r may.0 may.1 x

  -- a step of a worker without a call on the tree in flight leaves the map
  over_go : (noise : Noise Id V) (r : Report V) → fs w ≡ Over → r.decided ≡ false → GoMap same fs (fs w) m noise.answer (line (Go noise) r None m) fs
  over_go noise r o d =
      let P : Flight V → Type 0 = λ f. GoMap same fs f m noise.answer (line (Go noise) r None m) fs in
      subst P (sym o) (stays (Go noise) r m d)

  refused_go : (noise : Noise Id V) (r : Report V) (f : Fault) → fs w ≡ Over → Acts same always s w (Go noise) (Some f) r s' → Result (Go noise) r (λ l f'. GoMap same fs (fs w) m noise.answer l f')
  refused_go noise r f o x = unchanged (Go noise) r (λ l f'. GoMap same fs (fs w) m noise.answer l f') x.1 (over_go noise r o (ap (λ y. y.decided) x.0))

  -- a call in flight is of a registered worker
  securing_registered : (op : Point V) → slice_get s.calls w ≡ Some (Securing op) → (place_of s w).registered ≡ true
  securing_registered op e = (intact.each w (Securing op) (get_beside s.machines s.calls w intact.machines (Securing op) e).0 e (get_beside s.machines s.calls w intact.machines (Securing op) e).1).0.0

  reserving_registered : (op : Point V) → slice_get s.calls w ≡ Some (Reserving op) → (place_of s w).registered ≡ true
  reserving_registered op e = (intact.each w (Reserving op) (get_beside s.machines s.calls w intact.machines (Reserving op) e).0 e (get_beside s.machines s.calls w intact.machines (Reserving op) e).1).0

  walking_registered : slice_get s.calls w ≡ Some Walking → (place_of s w).registered ≡ true
  walking_registered e =
      let x : (x : Machine Id V) × (slice_get s.machines w ≡ Some x) = get_beside s.machines s.calls w intact.machines Walking e in
      (intact.safe.sound.sound.guarded w x.0 x.1).registered (intact.each w Walking x.0 e x.1).0

  go_case : (noise : Noise Id V) (r : Report V) (k : Option (InFlight V)) (b : Bool) → slice_get s.calls w ≡ k → (place_of s w).registered ≡ b
      → Acts same always s w (Go noise) (if b then (if is_busy k then None else Some fault.Idle) else Some fault.Unknown) r s' → Result (Go noise) r (λ l f'. GoMap same fs (fs w) m noise.answer l f')
  go_case noise r None false e be x = refused_go noise r fault.Unknown (free None e refl) x
  go_case noise r None true e be x = refused_go noise r fault.Idle (free None e refl) x
  go_case noise r (Some Idle) false e be x = refused_go noise r fault.Unknown (free (Some Idle) e refl) x
  go_case noise r (Some Idle) true e be x = refused_go noise r fault.Idle (free (Some Idle) e refl) x
  go_case noise r (Some (Collecting op)) false e be x =
      refused_go noise r fault.Unknown (fl.each w (Collecting op) (get_beside s.machines s.calls w intact.machines (Collecting op) e).0 e (get_beside s.machines s.calls w intact.machines (Collecting op) e).1) x
  go_case noise r (Some (Collecting op)) true e be x =
      let o : fs w ≡ Over = fl.each w (Collecting op) (get_beside s.machines s.calls w intact.machines (Collecting op) e).0 e (get_beside s.machines s.calls w intact.machines (Collecting op) e).1 in
      let P : Option (InFlight V) → Type 0 = λ c. GoesAt same always s w c noise r s' in
      collects (Go noise) collector_event.Go op r (λ l f'. GoMap same fs (fs w) m noise.answer l f') o (inside be) (subst P e x) (over_go noise r o)
  go_case noise r (Some (Reserving op)) false e be x = absurd (let q : false ≡ true = sym be ∙ reserving_registered op e in false≢true q)
  go_case noise r (Some (Reserving op)) true e be x =
      let P : Option (InFlight V) → Type 0 = λ c. GoesAt same always s w c noise r s' in
      secures_first op noise e r (subst P e x)
  go_case noise r (Some (Securing op)) false e be x = absurd (let q : false ≡ true = sym be ∙ securing_registered op e in false≢true q)
  go_case noise r (Some (Securing op)) true e be x =
      let P : Option (InFlight V) → Type 0 = λ c. GoesAt same always s w c noise r s' in
      reserving_on op noise e r (subst P e x)
  go_case noise r (Some Walking) false e be x = absurd (let q : false ≡ true = sym be ∙ walking_registered e in false≢true q)
  go_case noise r (Some Walking) true e be x =
      let P : Option (InFlight V) → Type 0 = λ c. GoesAt same always s w c noise r s' in
      walks noise r e (subst P e x)

  -- whatever the event, the step is one on the map
  pub on_map : (event : Event V) (r : Report V) → Acts same always s w event (misuse s w event) r s' → Result event r (λ l f'. EventMap same fs m event l f')
  on_map Register r x = registers r x
  on_map (Begin op) r x = begin_case op r (target op) (misuse s w (Begin op)) refl refl x
  on_map (Go noise) r x =
      let a : Result (Go noise) r (λ l f'. GoMap same fs (fs w) m noise.answer l f') = go_case noise r (slice_get s.calls w) (place_of s w).registered refl refl x in
      record { entry = a.entry; pairs = a.pairs; flights = a.flights; stand = a.stand; step = a.step; in_flight = a.in_flight }

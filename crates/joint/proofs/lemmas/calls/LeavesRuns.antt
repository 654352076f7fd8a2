-- Each node that leaves the tree in a run leaves it once: by the one step of a call that takes it out, and by one deferral.
use Rattle.std.proofs.Common.{◌≡◌, ◌≢◌, ◌==◌, ◌<◌, ℕ, Bool, true, false, List, [], ◌∷◌, length, refl, sym, ◌∙◌, ap, subst, inl, inr, ◌⊎◌}
use Rattle.std.proofs.Math.ListN.{set}
use Rattle.std.specs.Prelude.{Option, None, Some, slice_get, if◌then◌else◌}
use Rattle.std.proofs.lemmas.Option.{slice_get_within}
use Rattle.std.proofs.lemmas.Bool.{cases_Bool, eqb-true, eqb-false, false≢true}
use Rattle.judge.specs.declared.journal.Reply.{Reply}
use Rattle.judge.specs.Answer.{Pairs}
use Rattle.crossbeam_epoch.specs.declared.fault.Fault.{Fault}
use Rattle.crossbeam_epoch.specs.declared.world.report.Event.{Event as CollectorEvent}
use Rattle.crossbeam_epoch.specs.declared.world.report.Event.TheVariants as collector_event
use Rattle.crossbeam_epoch.specs.declared.world.report.Op.{Op as CollectorOp}
use Rattle.crossbeam_epoch.specs.declared.world.report.Outcome.{Outcome as CollectorOutcome}
use Rattle.crossbeam_epoch.specs.declared.world.report.Outcome.TheVariants as collector_outcome
use Rattle.congee.specs.declared.protocol.machine.Machine.{Machine}
use Rattle.congee.specs.declared.protocol.machine.Noise.{Noise}
use Rattle.congee.specs.declared.protocol.machine.Outcome.{Outcome as Moved}
use Rattle.congee.specs.declared.protocol.machine.Outcome.TheVariants as moved
use Rattle.congee.specs.declared.forms.base_node.NodeType.{NodeType}
use Rattle.congee.specs.declared.protocol.op.Op.{Op as Point}
use Rattle.congee.specs.declared.protocol.op.Op.TheVariants as point
use Rattle.congee.specs.declared.protocol.store.Refusal.{Refusal as Cause}
use Rattle.congee.specs.declared.protocol.next_phase.NextPhase.{NextPhase}
use Rattle.congee.specs.protocol.Steps.{PhaseStepped, after_retire}
use Rattle.congee.specs.Keys.{key_bytes}
use Rattle.congee.specs.declared.protocol.phase.Kind.{Kind}
use Rattle.congee.specs.declared.protocol.phase.Phase.{Phase}
use Rattle.congee.specs.declared.protocol.phase.Phase.TheVariants.{Obsolete, Retire, Unlock, Ended}
use Rattle.congee.specs.Heap.{Node, Stands}
use Rattle.congee.specs.protocol.Handing.{InTree, is_handed_over}
use Rattle.congee.specs.protocol.Holdings.{TakenBy}
use Rattle.congee.specs.protocol.Play.{Flight, Pending, Decided, Over, Unbegun, Scanning, Question, Undecided, ScanTells, Follows, flight_in}
use Rattle.congee.specs.protocol.State.{is_done}
use Rattle.joint.specs.declared.engine.in_flight.InFlight.{InFlight}
use Rattle.joint.specs.declared.engine.in_flight.InFlight.TheVariants.{Idle, Collecting, Reserving, Securing, Walking}
use Rattle.joint.specs.declared.id.Id.{Id}
use Rattle.joint.specs.declared.steps.Event.{Event}
use Rattle.joint.specs.declared.limits.Limits.{Limits}
use Rattle.joint.specs.declared.steps.Event.TheVariants.{Register, Begin, Go}
use Rattle.joint.specs.declared.steps.Kind.TheVariants.{Tree as TreeKind}
use Rattle.joint.specs.declared.steps.Op.{Op}
use Rattle.joint.specs.declared.steps.Outcome.TheVariants.{Running}
use Rattle.joint.specs.declared.steps.Target.{Target}
use Rattle.joint.specs.declared.steps.Target.TheVariants as target
use Rattle.joint.specs.declared.steps.Report.{Report}
use Rattle.joint.specs.nodes.Nodes.{Nodes, nodes, Refuses}
use Rattle.joint.specs.engine.Intact.{call_after, is_reserving, over_at, rested, resting}
use Rattle.joint.specs.engine.Laws.{CallLaws, LeavesLaw}
use Rattle.joint.specs.calls.Leaving.{TakesOut, HandsOver, StaysLeft, LeavesRightly, LeftLocked, BeginsAnew, TakesNone, HandsNone, AllLeaveOnce}
use Rattle.joint.specs.world.World.{IsNew, Holds, IsStep, StepsUnless, FindsJournalFull, finds_journal_full}
use Rattle.joint.specs.Reports.{target, is_in_flight}
use Rattle.joint.specs.engine.Sound.{IsUnderWay}
use Rattle.joint.specs.calls.Runs.{Taken, AreTaken, after_all}
use Rattle.joint.specs.world.MapSteps.{EventMap, GoMap, PendingStep, Line}
use Rattle.joint.specs.engine.Flying.{Flights}
use Rattle.joint.specs.nodes.View.{id_number}
use Rattle.joint.specs.world.Whereabouts.{IsWaiting, IsDestroyed, IsTakenBy}
use Rattle.joint.specs.engine.Engine.{World, EngineHolds, BeginsAt, BeginsOnTree, Collects, Does, EntersUnless, GoesAt, Walks, engine_of, finds_none, misuse, quiet}
use Rattle.joint.proofs.lemmas.engine.OneCallChanges.{Apart, one_same, one_set, step_apart}
use Rattle.joint.proofs.lemmas.engine.Entering.{begin_within}
use Rattle.joint.proofs.lemmas.world.Flights.{flight_here, set_at}
use Rattle.joint.proofs.lemmas.calls.LeavesSteps.{IsTaking, IsLost, Parts, SameLeft, same_left, step_parts, walking_of}
use Rattle.joint.proofs.lemmas.calls.HeldNodes.{blank, is_locked, taken_waits, taken_stands, waits_is}
use Rattle.joint.proofs.lemmas.world.JournaledSteps.{step_mapped}
use Rattle.joint.proofs.lemmas.engine.ScanEnds.{cleared_is}
use Rattle.joint.proofs.lemmas.calls.Sparing.{all_spare}
use Rattle.joint.proofs.lemmas.world.Whereabouts.{node_somewhere}
use Rattle.joint.proofs.lemmas.world.Waiting.{handed_waits}
use Rattle.joint.proofs.lemmas.engine.SoundCells.{retired_waits}
use Rattle.congee.proofs.Laws.{both_true}

module _ {V : Type 0} where
  -- a call that has a node taken out has taken effect
  decided_in : (k : ℕ) (kind : Kind V) (v : Option V) (p : Phase Id V) (n : ℕ) → TakenBy id_number p n → (r : Reply V) × (flight_in k kind v p ≡ Decided r)
  decided_in k kind v (Obsolete m next q r) n x = (r, refl)
  decided_in k kind v (Retire m next q r) n x = (r, refl)
  decided_in k kind v _ n x = absurd x

  taken_decided : (m : Machine Id V) (f : Flight V) (n : ℕ) → TakenBy id_number m.phase n → Follows m f → (r : Reply V) × (f ≡ Decided r)
  taken_decided m f n x (inl y) = let d = decided_in m.key m.kind m.given m.phase n x in (d.0, y.1 ∙ d.1)
  taken_decided m f n x (inr y) = absurd (let P : Phase Id V → Type 0 = λ p. TakenBy id_number p n in subst P y.1 x)

  -- and one that is watched so has
  decided_is : (m : Machine Id V) (f : Flight V) (r : Reply V) → f ≡ Decided r → Follows m f → flight_in m.key m.kind m.given m.phase ≡ Decided r
  decided_is m f r e (inl y) = sym y.1 ∙ e
  decided_is m f r e (inr (s, p, inl y)) = absurd (let z : Unbegun _ _ _ ≡ Decided r = sym y.0 ∙ e in cc)
  decided_is m f r e (inr (s, p, inr (inl y))) = absurd (let z : Over ≡ Decided r = sym y.0 ∙ e in cc)
  decided_is m f r e (inr (s, p, inr (inr y))) = absurd (let z : Scanning _ _ _ y.0 y.1 ≡ Decided r = sym y.2 ∙ e in cc)

  undecided_not : (k : ℕ) (kd : Kind V) (v : Option V) (q : Question V) (o : Moved V) (f : Flight V) (r : Reply V) → f ≡ Decided r → Undecided k kd v q o f → ⊥
  undecided_not k kd v q moved.Running f r e u = let z : Decided r ≡ Pending k kd v u.0 = sym e ∙ u.2 in cc
  undecided_not k kd v q (moved.Asks x) f r e u = let z : Decided r ≡ Pending k kd v _ = sym e ∙ u.1 in cc
  undecided_not k kd v q (moved.Done x) f r e u = u
  undecided_not k kd v q (moved.Refused x) f r e u = let z : Decided r ≡ Over = sym e ∙ u in cc
  undecided_not k kd v q (moved.Found p y x) f r e u = u
  undecided_not k kd v q (moved.Scanned n) f r e u = u

  scan_not : (start end size : ℕ) (states : List (Pairs V)) (places : List (ℕ × V)) (o : Moved V) (f : Flight V) (r : Reply V) → f ≡ Decided r → ScanTells start end size states places o f → ⊥
  scan_not start end size states places moved.Running f r e u = let z : Decided r ≡ Scanning start end size states places = sym e ∙ u in cc
  scan_not start end size states places (moved.Asks x) f r e u = u
  scan_not start end size states places (moved.Done x) f r e u = u
  scan_not start end size states places (moved.Refused x) f r e u = let z : Decided r ≡ Over = sym e ∙ u in cc
  scan_not start end size states places (moved.Found p y x) f r e u = let z : Decided r ≡ Scanning start end size states _ = sym e ∙ u.1 in cc
  scan_not start end size states places (moved.Scanned n) f r e u = let z : Decided r ≡ Over = sym e ∙ u.2 in cc

  pending_decides : (same : V → V → Bool) (k : ℕ) (kd : Kind V) (v : Option V) (q : Question V) (m : Pairs V) (b : Bool) (l : Line V) (f : Flight V) (r : Reply V) → f ≡ Decided r → PendingStep same k kd v q m b l f → b ≡ true
  pending_decides same k kd v q m true l f r e x = refl
  pending_decides same k kd v q m false l f r e (inl x) = absurd (undecided_not k kd v q x.outcome f r e x.undecided)
  pending_decides same k kd v q m false l f r e (inr x) = absurd (let z : Decided r ≡ Over = sym e ∙ x.over in cc)

  go_decides : (same : V → V → Bool) (fs : Flights V) (f : Flight V) (m : Pairs V) (answer : Option (Option V)) (l : Line V) (fs' : Flights V) (r : Reply V) → fs l.step.worker ≡ f → ((u : Reply V) → f ≡ Decided u → ⊥) → fs' l.step.worker ≡ Decided r → GoMap same fs f m answer l fs' → l.report.decided ≡ true
  go_decides same fs Over m answer l fs' r e n d x = absurd (let z : Over ≡ Decided r = sym e ∙ sym (ap (λ (y : Flights V). y l.step.worker) x.same_flights) ∙ d in cc)
  go_decides same fs (Pending k kd v q) m answer l fs' r e n d x =
      pending_decides same k kd _ _ m l.report.decided l x.next r (sym (flight_here fs l.step.worker x.next) ∙ sym (ap (λ (y : Flights V). y l.step.worker) x.with_next) ∙ d) x.step
  go_decides same fs (Decided u) m answer l fs' r e n d x = absurd (n u refl)
  go_decides same fs (Unbegun start end size) m answer l fs' r e n d x =
      absurd (scan_not start end size _ _ x.step.outcome x.next r (sym (flight_here fs l.step.worker x.next) ∙ sym (ap (λ (y : Flights V). y l.step.worker) x.with_next) ∙ d) x.step.tells)
  go_decides same fs (Scanning start end size states places) m answer l fs' r e n d x =
      absurd (scan_not start end size _ _ x.step.outcome x.next r (sym (flight_here fs l.step.worker x.next) ∙ sym (ap (λ (y : Flights V). y l.step.worker) x.with_next) ∙ d) x.step.tells)

-- the phases of a call that takes no node out any more
abbrev Past : {V : Type 0} → Phase Id V → Type 0
Past (Obsolete c next q r) = Unit {0}
Past (Retire c next q r) = Unit {0}
Past (Unlock c r) = Unit {0}
Past Ended = Unit {0}
Past _ = ⊥

-- so is the worker's call, or it isn't on the tree
abbrev IsPast : {V : Type 0} → Option (InFlight V) → Option (Machine Id V) → Type 0
IsPast (Some Idle) m = Unit {0}
IsPast (Some (Collecting op)) m = Unit {0}
IsPast (Some Walking) (Some m) = Past m.phase
IsPast _ m = ⊥

module _ {V : Type 0} where
  taken_past : (p : Phase Id V) (n : ℕ) → TakenBy id_number p n → Past p
  taken_past (Obsolete c next q r) n x = tt
  taken_past (Retire c next q r) n x = tt
  taken_past _ n x = absurd x

  past_next : (next : Option Id) (q : Id) (r : Reply V) → Past (after_retire next q r).phase
  past_next None q r = tt
  past_next (Some k) q r = tt

  past_phase : (same : V → V → Bool) (always : Bool) (most : ℕ) (why : NodeType → Cause → Type 0) (root : Id) (key : List ℕ) (kind : Kind V) (fail : Bool) (answer : Option (Option V)) (given given' : Option V) (p : Phase Id V) (h h' : ℕ → Node V) (t : NextPhase Id V)
      → Past p → PhaseStepped id_number same always most why root key kind fail answer given p h given' t h' → Past t.phase
  past_phase same always most why root key kind fail answer given given' (Obsolete c next q r) h h' t u x = let P : NextPhase Id V → Type 0 = λ z. Past z.phase in subst P (sym x.2) tt
  past_phase same always most why root key kind fail answer given given' (Retire c next q r) h h' t u x = let P : NextPhase Id V → Type 0 = λ z. Past z.phase in subst P (sym x.2) (past_next next q r)
  past_phase same always most why root key kind fail answer given given' (Unlock c r) h h' t u x = let P : NextPhase Id V → Type 0 = λ z. Past z.phase in subst P (sym x.2) tt
  past_phase same always most why root key kind fail answer given given' Ended h h' t u x = let P : NextPhase Id V → Type 0 = λ z. Past z.phase in subst P (sym x.2) tt
  past_phase same always most why root key kind fail answer given given' _ h h' t u x = absurd u

  past_rested : (m : Machine Id V) → Past m.phase → Past (rested m).phase
  past_rested m x = by (is_done m.phase) where
    by : (b : Bool) → Past (if b then resting else m).phase
    by true = tt
    by false = x

  past_collects : (o : CollectorOutcome) (op : CollectorOp) (m : Option (Machine Id V)) → IsPast (Some (call_after o (Collecting op))) m
  past_collects collector_outcome.Running op m = tt
  past_collects collector_outcome.Done op m = tt
  past_collects (collector_outcome.Refused f) op m = tt

  past_reserves : (k : Option (InFlight V)) (m : Option (Machine Id V)) → IsPast k m → is_reserving k ≡ true → ⊥
  past_reserves (Some (Reserving p)) m u e = u
  past_reserves (Some Idle) m u e = false≢true e
  past_reserves (Some (Collecting c)) m u e = false≢true e
  past_reserves (Some (Securing p)) m u e = false≢true e
  past_reserves (Some Walking) m u e = false≢true e
  past_reserves None m u e = false≢true e

module _ {V : Type 0} (same : V → V → Bool) (always : Bool) (s s' : World V) (w : ℕ) (holds : EngineHolds same always s) where
  abbrev After : Type 0
  After = IsPast (slice_get s'.calls w) (slice_get s'.machines w)

  past_same : s'.calls ≡ s.calls → s'.machines ≡ s.machines → IsPast (slice_get s.calls w) (slice_get s.machines w) → After
  past_same c m u =
      let P : List (InFlight V) → Type 0 = λ ks. IsPast (slice_get ks w) (slice_get s'.machines w) in
      let Q : List (Machine Id V) → Type 0 = λ ms. IsPast (slice_get s.calls w) (slice_get ms w) in
      subst P (sym c) (subst Q (sym m) u)

  placed : (k : InFlight V) → w < length s.calls → s'.calls ≡ set s.calls w k → slice_get s'.calls w ≡ Some k
  placed k l e = ap (λ xs. slice_get xs w) e ∙ set_at s.calls w k l

  collects_past : (event : CollectorEvent) (op : CollectorOp) (r : Report V) → w < length s.calls → Collects same always s w event (Collecting op) r s' → After
  collects_past event op r l x =
      let P : Option (InFlight V) → Type 0 = λ k. IsPast k (slice_get s'.machines w) in
      subst P (sym (placed (call_after x.collector_report.outcome (Collecting op)) l x.calls)) (past_collects x.collector_report.outcome op (slice_get s'.machines w))

  module _ (op : Op V) (none : misuse s w (Begin op) ≡ None) (u : IsPast (slice_get s.calls w) (slice_get s.machines w)) where
    enters_on : (r : Report V) → r ≡ quiet TreeKind Running → is_in_flight r.outcome ≡ false → ⊥
    enters_on r e off = false≢true (sym off ∙ ap (λ y. is_in_flight y.outcome) e)

    scan_past : (p : Point V) (r : Report V) (none : Bool) → is_in_flight r.outcome ≡ false → EntersUnless none s w p r s' → After
    scan_past p r true off y = past_same (ap (λ z. z.calls) y.state) (ap (λ z. z.machines) y.state) u
    scan_past p r false off y = absurd (enters_on r y.report off)

    tree_past : (p : Point V) (r : Report V) → BeginsOnTree same always s w p r s' → is_in_flight r.outcome ≡ false → After
    tree_past (point.Get k) r x off = absurd (enters_on r x.report off)
    tree_past (point.Range start end size) r x off = scan_past (point.Range start end size) r (finds_none {V = V} (point.Range start end size)) off x
    tree_past (point.RangeInclusive start last size) r x off = scan_past (point.RangeInclusive start last size) r (finds_none {V = V} (point.RangeInclusive start last size)) off x
    tree_past (point.Insert k v) r x off = absurd (enters_on r x.report off)
    tree_past (point.Remove k) r x off = absurd (enters_on r x.report off)
    tree_past (point.ComputePresent k) r x off = absurd (enters_on r x.report off)
    tree_past (point.ComputeInsert k) r x off = absurd (enters_on r x.report off)
    tree_past (point.Exchange k a b) r x off = absurd (enters_on r x.report off)

    begins_past : (t : Target V) (r : Report V) → BeginsAt same always s w t r s' → is_in_flight r.outcome ≡ false → After
    begins_past (target.Collector c) r x off = collects_past (collector_event.Begin c) c r (begin_within same always s s' w holds op none) x
    begins_past (target.Tree p) r x off = tree_past p r x off
    begins_past (target.Survey k) r x off = past_same (ap (λ z. z.calls) x.state) (ap (λ z. z.machines) x.state) u

  walks_past : (noise : Noise Id V) (r : Report V) (m : Machine Id V) → slice_get s.calls w ≡ Some Walking → slice_get s.machines w ≡ Some m → Past m.phase → Walks same always s w noise r s' → After
  walks_past noise r m e at u x =
      let mv = x.step.walked.plays.moved m at in
      let now : slice_get s'.machines w ≡ Some (rested mv.now) =
      ap (λ xs. slice_get xs w) (x.step.machines ∙ cleared_is s.machines x.step.between w m mv.now at mv.calls) ∙ set_at s.machines w (rested mv.now) (slice_get_within s.machines w m at) in
      let p : Past mv.now.phase = past_phase same always s.forest.version_max (Refuses s.forest) m.root (key_bytes m.key) m.kind noise.fail noise.answer m.given mv.now.given m.phase (nodes s.forest) (nodes s'.forest) (record { phase = mv.now.phase; report = x.move }) u mv.step.step in
      by (over_at (slice_get s'.machines w)) (rested mv.now) now (past_rested mv.now p) (placed _ (slice_get_within s.calls w Walking e) x.calls)
    where
      by : (o : Bool) (y : Machine Id V) → slice_get s'.machines w ≡ Some y → Past y.phase → slice_get s'.calls w ≡ Some (if o then Idle else Walking) → After
      by true y n z c = let P : Option (InFlight V) → Type 0 = λ k. IsPast k (slice_get s'.machines w) in subst P (sym c) tt
      by false y n z c =
          let P : Option (InFlight V) → Type 0 = λ k. IsPast k (slice_get s'.machines w) in
          let Q : Option (Machine Id V) → Type 0 = λ k. IsPast (Some Walking) k in
          subst P (sym c) (subst Q (sym n) z)

  goes_past : (k : Option (InFlight V)) (o : Option (Machine Id V)) (noise : Noise Id V) (r : Report V) → slice_get s.calls w ≡ k → slice_get s.machines w ≡ o → IsPast k o → GoesAt same always s w k noise r s' → After
  goes_past (Some (Collecting op)) o noise r e at u x = collects_past collector_event.Go op r (slice_get_within s.calls w (Collecting op) e) x
  goes_past (Some Walking) (Some m) noise r e at u x = walks_past noise r m e at u x
  goes_past (Some Walking) None noise r e at u x = absurd u
  goes_past (Some Idle) o noise r e at u x = absurd x
  goes_past (Some (Reserving p)) o noise r e at u x = absurd u
  goes_past (Some (Securing p)) o noise r e at u x = absurd u
  goes_past None o noise r e at u x = absurd u

  past_does : (event : Event V) (o : Option Fault) (r : Report V) → misuse s w event ≡ o → IsPast (slice_get s.calls w) (slice_get s.machines w) → Does same always s w event o r s'
      → ((op : Op V) × (event ≡ Begin op) × (is_in_flight r.outcome ≡ true)) ⊎ After
  past_does event (Some f) r e u x = inr (past_same (ap (λ z. z.calls) x.1) (ap (λ z. z.machines) x.1) u)
  past_does Register None r e u (inl x) = inr (past_same (ap (λ z. z.calls) x.1.state) (ap (λ z. z.machines) x.1.state) u)
  past_does Register None r e u (inr x) = inr (past_same (ap (λ z. z.calls) x.state) (ap (λ z. z.machines) x.state) u)
  past_does (Begin op) None r e u x = elim (cases_Bool (is_in_flight r.outcome)) [
    | inl on ↦ inl (op, refl, on)
    | inr off ↦ inr (begins_past op e u (target op) r x off)
  ]
  past_does (Go noise) None r e u x = inr (goes_past (slice_get s.calls w) (slice_get s.machines w) noise r refl refl u x)

module _ {V : Type 0} (same : V → V → Bool) (always : Bool) (laws : CallLaws {C = Id} {V = V} id_number same always) (leaves_law : (f : Nodes V) → LeavesLaw {C = Id} {V = V} id_number same always f.version_max (Refuses f)) where
  -- a node that waits was handed over, or a call has it
  waits_as : (s : World V) → Holds same always s → (n : ℕ) → IsWaiting s n → (is_handed_over (nodes s.forest n) ≡ true) ⊎ ((i : ℕ) × IsTakenBy s i n)
  waits_as s h n y = elim ((node_somewhere same always laws s h n y.stands.made).handed y) [
    | inl e ↦ inl (retired_waits (nodes s.forest n) e y.stands)
    | inr e ↦ inr e
  ]

  module _ (s : World V) (t : Taken V) (h : Holds same always s) (x : IsStep same always s t.step t.report t.after) where
    abbrev w : ℕ
    w = t.step.worker

    abbrev Here : Type 0
    Here = Parts (engine_of s) (engine_of t.after) w t.step.event

    -- a step in which a call takes a node out is the one in which it takes effect
    decides : (n : ℕ) → IsTakenBy t.after w n → IsTaking (engine_of s) w t.step.event → t.report.decided ≡ true
    decides n y g =
        let a = step_mapped same always s t.step t.after h.2.flights h.2.pairs h x.holds h.2.stand h.2.in_flight t.report x in
        let l : Line V = record { step = t.step; report = t.report; entry = a.entry; pairs = a.pairs } in
        let P : Event V → Type 0 = λ e. EventMap same h.2.flights h.2.pairs e l a.flights in
        let m : GoMap same h.2.flights (h.2.flights w) h.2.pairs g.noise.answer l a.flights = subst P g.goes a.map in
        let now = taken_decided y.0 (a.flights w) n y.2 (a.in_flight.each w Walking y.0 (walking_of same always t.after (x.holds.0, x.holds.1) w n y) y.1) in
        go_decides same h.2.flights (h.2.flights w) h.2.pairs g.noise.answer l a.flights now.0 refl
        (λ u e. g.pending u (decided_is g.old (h.2.flights w) u e (h.2.in_flight.each w Walking g.old g.walking g.at))) now.1 m

    -- where it is refused for want of a place of the journal nothing happens to the nodes
    finds_full : FindsJournalFull s w t.report t.after → Here
    finds_full y = record {
      leaves = λ n i. inl (let P : (ℕ → Node V) → Type 0 = λ z. InTree z n in subst P (sym nodes_same) i);
      owed = λ i n z. inl (z.0, ap (λ v. slice_get v.machines i) y.state ∙ z.1, z.2);
      handed = λ n b a. absurd (false≢true (sym b ∙ sym (ap (λ z. is_handed_over (z n)) nodes_same) ∙ a));
      waits = λ n b. inl (ap (λ z. z n) nodes_same);
      lost = λ n l. subst (λ (z : Node V). IsLost z) (sym (ap (λ z. z n) nodes_same)) l;
      taken = λ i n z. inl (same_left (nodes s.forest n) (nodes t.after.forest n) (ap (λ v. v n) nodes_same));
      defers = inl (ap (λ z. z.forest.collector.next) y.state);
    }
      where
        nodes_same : nodes t.after.forest ≡ nodes s.forest
        nodes_same = ap (λ z. nodes z.forest) y.state

    parts_by : (b : Bool) → StepsUnless same always b s t.step t.report t.after → Here
    parts_by true y = finds_full y
    parts_by false y = step_parts same always laws leaves_law (engine_of s) (engine_of t.after) w (h.0, h.1) t.step.event (misuse s w t.step.event) y.told refl y.engine.does

    abbrev parts : Here
    parts = parts_by (finds_journal_full s w t.step.event) x.does

    stays_left : (n : ℕ) → SameLeft (nodes s.forest n) (nodes t.after.forest n) → IsWaiting t.after n → StaysLeft s t.after n
    stays_left n y z = record { waits = z; locked = y.locked; marked = y.marked; children = y.children }

    taken_left : (i n : ℕ) → IsTakenBy s i n → SameLeft (nodes s.forest n) (nodes t.after.forest n) → StaysLeft s t.after n
    taken_left i n y z = elim (parts.owed i n y) [
      | inl o ↦ stays_left n z (taken_waits same always laws t.after x.holds i n o)
      | inr o ↦ (
          let st = taken_stands same always laws s h i n y in
          let now : Stands (nodes t.after.forest n) = record { made = z.made ∙ st.made; kept = z.kept ∙ st.kept } in
          stays_left n z (handed_waits same always laws t.after x.holds n (retired_waits (nodes t.after.forest n) o.1.after now)))
    ]

    left : (n : ℕ) → IsWaiting s n → StaysLeft s t.after n ⊎ IsDestroyed t.after n
    left n y = elim (waits_as s h n y) [
      | inl e ↦ elim (parts.waits n e) [
        | inl q ↦ inl (stays_left n (same_left (nodes s.forest n) (nodes t.after.forest n) q) (handed_waits same always laws t.after x.holds n (ap is_handed_over q ∙ e)))
        | inr l ↦ inr (record { gone = l.destroyed })
      ]
      | inr e ↦ elim (parts.taken e.0 n e.1) [
        | inl q ↦ inl (taken_left e.0 n e.1 q)
        | inr l ↦ inr (record { gone = l.destroyed })
      ]
    ]

    rightly : LeavesRightly s t
    rightly = record {
      leaves = λ n i. elim (parts.leaves n i) [
        | inl y ↦ inl y
        | inr y ↦ inr (record { was = y.0.was; out = y.0.out; none = y.0.none; taken = y.0.taken; with_it = y.0.with_it; others = y.0.others }, decides n y.0.taken y.1)
      ];
      owed = parts.owed;
      handed = parts.handed;
      left = left;
      defers = parts.defers;
    }

    -- a node that was handed over isn't handed over again
    hands_again : (i n : ℕ) → (is_handed_over (nodes s.forest n) ≡ true) ⊎ IsLost (nodes s.forest n) → HandsOver s.forest t.after.forest i n → ⊥
    hands_again i n (inl e) y = false≢true (sym y.before ∙ (waits_is (nodes s.forest n) e).0)
    hands_again i n (inr l) y = false≢true (sym y.stands.kept ∙ l.destroyed)

    still_handed : (n : ℕ) → (is_handed_over (nodes s.forest n) ≡ true) ⊎ IsLost (nodes s.forest n) → (is_handed_over (nodes t.after.forest n) ≡ true) ⊎ IsLost (nodes t.after.forest n)
    still_handed n (inl e) = elim (parts.waits n e) [
      | inl q ↦ inl (ap is_handed_over q ∙ e)
      | inr l ↦ inr l
    ]
    still_handed n (inr l) = inr (parts.lost n l)

    first_handed : (n : ℕ) → HandsOver s.forest t.after.forest w n → (is_handed_over (nodes t.after.forest n) ≡ true) ⊎ IsLost (nodes t.after.forest n)
    first_handed n y = elim ((all_spare same always leaves_law s (t ∷ []) h (x, tt)).0 n y.stands) [
      | inl st ↦ inl (retired_waits (nodes t.after.forest n) y.after st)
      | inr (inl u) ↦ absurd (false≢true (sym y.before ∙ u.waits))
      | inr (inr b) ↦ absurd (false≢true (sym (blank same always laws s h w n b).live ∙ y.marked))
    ]

    -- what left stays locked
    left_locked : LeftLocked s → LeftLocked t.after
    left_locked all n y = elim (waits_as t.after x.holds n y) [
      | inl e ↦ (let kept = (waits_is (nodes t.after.forest n) e).1.kept in elim (cases_Bool (is_handed_over (nodes s.forest n))) [
        | inl b ↦ elim (parts.waits n b) [
          | inl q ↦ ap (λ z. z.locked) q ∙ all n (handed_waits same always laws s h n b)
          | inr l ↦ absurd (false≢true (sym kept ∙ l.destroyed))
        ]
        | inr b ↦ (let z = parts.handed n b e in elim (parts.taken w n z.0) [
          | inl q ↦ q.locked ∙ z.1.locked
          | inr l ↦ absurd (false≢true (sym kept ∙ l.destroyed))
        ])
      ])
      | inr k ↦ is_locked same always laws t.after x.holds k.0 n k.1
    ]

    -- no further node is taken out by a call that has taken one out
    tree_stays : IsPast (slice_get s.calls w) (slice_get s.machines w) → (n : ℕ) → InTree (nodes s.forest) n → InTree (nodes t.after.forest) n
    tree_stays p n i = elim (parts.leaves n i) [
      | inl y ↦ y
      | inr y ↦ absurd (by y.0 y.1 y.1.old.phase refl (here y.1))
    ]
      where
        here : (g : IsTaking (engine_of s) w t.step.event) → Past g.old.phase
        here g =
            let P : Option (InFlight V) → Type 0 = λ k. IsPast k (slice_get s.machines w) in
            let Q : Option (Machine Id V) → Type 0 = λ m. IsPast (Some Walking) m in
            subst Q g.at (subst P g.walking p)

        by : TakesOut (engine_of s) (engine_of t.after) w n → (g : IsTaking (engine_of s) w t.step.event) (q : Phase Id V) → g.old.phase ≡ q → Past q → ⊥
        by y g (Obsolete c next a r) e u = y.none (id_number c) (g.old, g.at, (let P : Phase Id V → Type 0 = λ z. TakenBy id_number z (id_number c) in subst P (sym e) (inl refl)))
        by y g (Retire c next a r) e u = y.none (id_number c) (g.old, g.at, (let P : Phase Id V → Type 0 = λ z. TakenBy id_number z (id_number c) in subst P (sym e) (inl refl)))
        by y g (Unlock c r) e u = g.pending r (ap (flight_in g.old.key g.old.kind g.old.given) e)
        by y g Ended e u = let P : Phase Id V → Type 0 = λ z. IsUnderWay z in subst P e (h.0.each w Walking g.old g.walking g.at).0
        by y g _ e u = u

    apart_by : (b : Bool) → StepsUnless same always b s t.step t.report t.after → Apart (engine_of s) (engine_of t.after) w
    apart_by true y = record { calls = one_set s.calls t.after.calls w Idle (ap (λ z. z.calls) y.state); machines = one_same s.machines t.after.machines w (ap (λ z. z.machines) y.state) }
    apart_by false y = step_apart same always (engine_of s) (engine_of t.after) w (h.0, h.1) t.step.event (misuse s w t.step.event) y.told y.engine.does

    past_other : (v : ℕ) → v ≢ w → IsPast (slice_get s.calls v) (slice_get s.machines v) → IsPast (slice_get t.after.calls v) (slice_get t.after.machines v)
    past_other v n u =
        let a = apart_by (finds_journal_full s w t.step.event) x.does in
        let P : Option (InFlight V) → Type 0 = λ k. IsPast k (slice_get t.after.machines v) in
        let Q : Option (Machine Id V) → Type 0 = λ m. IsPast (slice_get s.calls v) m in
        subst P (sym (a.calls.other v n)) (subst Q (sym (a.machines.other v n)) u)

    past_own : IsPast (slice_get s.calls w) (slice_get s.machines w) → BeginsAnew w t ⊎ IsPast (slice_get t.after.calls w) (slice_get t.after.machines w)
    past_own u = by (finds_journal_full s w t.step.event) refl x.does where
      not_given : (event : Event V) → finds_journal_full s w event ≡ true → ⊥
      not_given Register e = false≢true e
      not_given (Begin op) e = false≢true e
      not_given (Go noise) e = past_reserves (slice_get s.calls w) (slice_get s.machines w) u (both_true _ _ e).0

      by : (b : Bool) → finds_journal_full s w t.step.event ≡ b → StepsUnless same always b s t.step t.report t.after → BeginsAnew w t ⊎ IsPast (slice_get t.after.calls w) (slice_get t.after.machines w)
      by true e y = absurd (not_given t.step.event e)
      by false e y = elim (past_does same always (engine_of s) (engine_of t.after) w (h.0, h.1) t.step.event (misuse s w t.step.event) y.told refl u y.engine.does) [
        | inl z ↦ inl (record { worker = refl; op = z.0; begins = z.1; on = ap (λ v. is_in_flight v.outcome) y.report ∙ z.2 })
        | inr z ↦ inr z
      ]

    taken_after : (n : ℕ) → IsTakenBy t.after w n → IsPast (slice_get t.after.calls w) (slice_get t.after.machines w)
    taken_after n y =
        let P : Option (InFlight V) → Type 0 = λ k. IsPast k (slice_get t.after.machines w) in
        let Q : Option (Machine Id V) → Type 0 = λ m. IsPast (Some Walking) m in
        subst P (sym (walking_of same always t.after (x.holds.0, x.holds.1) w n y)) (subst Q (sym y.1) (taken_past y.0.phase n y.2))

  takes_none : (v : ℕ) (s : World V) (ts : List (Taken V)) → Holds same always s → AreTaken same always s ts → IsPast (slice_get s.calls v) (slice_get s.machines v) → TakesNone v s ts
  takes_none v s [] h x u = tt
  takes_none v s (t ∷ ts) h x u = elim (cases_Bool (v == t.step.worker)) [
    | inl b ↦ (
        let e : v ≡ t.step.worker = eqb-true v t.step.worker b in
        let P : ℕ → Type 0 = λ j. IsPast (slice_get s.calls j) (slice_get s.machines j) in
        let Q : ℕ → Type 0 = λ j. BeginsAnew j t in
        let R : ℕ → Type 0 = λ j. IsPast (slice_get t.after.calls j) (slice_get t.after.machines j) in
        let here = subst P e u in
        elim (past_own s t h x.0 here) [
          | inl y ↦ inl (subst Q (sym e) y)
          | inr y ↦ inr ((λ q n i. tree_stays s t h x.0 here n i), takes_none v t.after ts x.0.holds x.1 (subst R (sym e) y))
        ])
    | inr b ↦ (
        let n = eqb-false v t.step.worker b in
        inr ((λ q. absurd (n (sym q))), takes_none v t.after ts x.0.holds x.1 (past_other s t h x.0 v n u)))
  ]

  hands_none : (n : ℕ) (s : World V) (ts : List (Taken V)) → Holds same always s → AreTaken same always s ts → (is_handed_over (nodes s.forest n) ≡ true) ⊎ IsLost (nodes s.forest n) → HandsNone n s ts
  hands_none n s [] h x y = tt
  hands_none n s (t ∷ ts) h x y = (hands_again s t h x.0 t.step.worker n y, hands_none n t.after ts x.0.holds x.1 (still_handed s t h x.0 n y))

  -- in a run each node leaves the tree by one step of one call, and is handed over once
  pub all_leave_once : (s : World V) (ts : List (Taken V)) → Holds same always s → AreTaken same always s ts → AllLeaveOnce s ts
  all_leave_once s [] h x = tt
  all_leave_once s (t ∷ ts) h x = (
    record {
      step = rightly s t h x.0;
      one = λ n y. takes_none t.step.worker t.after ts x.0.holds x.1 (taken_after s t h x.0 n y.taken);
      once = λ n y. hands_none n t.after ts x.0.holds x.1 (first_handed s t h x.0 n y);
    },
    all_leave_once t.after ts x.0.holds x.1,
  )

  -- where each node that has left the tree is locked, it is so after a run
  pub all_left_locked : (s : World V) (ts : List (Taken V)) → Holds same always s → AreTaken same always s ts → LeftLocked s → LeftLocked (after_all s ts)
  all_left_locked s [] h x l = l
  all_left_locked s (t ∷ ts) h x l = all_left_locked t.after ts x.0.holds x.1 (left_locked s t h x.0 l)

-- in an index as it opens no node has left the tree
pub opens_locked : {V : Type 0} (limits : Limits) (s : World V) → IsNew limits s → LeftLocked s
opens_locked {V} limits s new n y = elim (cases_Bool (n == 0)) [
  | inl e ↦ absurd (let q : n ≡ 0 = eqb-true n 0 e in let P : ℕ → Type 0 = λ k. IsWaiting s k in (subst P q y).out [] refl)
  | inr e ↦ absurd (false≢true (sym (new.opened.2.fresh.others n (eqb-false n 0 e)) ∙ y.stands.made))
]

-- A call that begins: its worker had none in flight, and no place of the journal is reserved for it yet.
use Rattle.std.proofs.Common.{◌≡◌, ◌<◌, ℕ, Bool, true, false, List, length, refl, sym, ◌∙◌, ap, subst, inl, inr}
use Rattle.std.proofs.Math.ListN.{set}
use Rattle.std.specs.Prelude.{Option, None, Some, slice_get, if◌then◌else◌}
use Rattle.std.proofs.lemmas.Bool.{false≢true}
use Rattle.std.proofs.lemmas.Option.{slice_get_within, slice_get_cases}
use Rattle.crossbeam_epoch.specs.declared.fault.Fault.{Fault}
use Rattle.crossbeam_epoch.specs.declared.fault.Fault.TheVariants as fault
use Rattle.crossbeam_epoch.specs.declared.world.report.Op.{Op as CollectorOp}
use Rattle.crossbeam_epoch.specs.declared.world.report.Outcome.{Outcome as CollectorOutcome}
use Rattle.crossbeam_epoch.specs.declared.world.report.Outcome.TheVariants as collector_outcome
use Rattle.congee.specs.declared.protocol.machine.Machine.{Machine}
use Rattle.congee.specs.declared.protocol.machine.Noise.{Noise}
use Rattle.congee.specs.declared.protocol.op.Op.{Op as Point}
use Rattle.congee.specs.declared.protocol.op.Op.TheVariants as point
use Rattle.congee.specs.protocol.Play.{Over, begun}
use Rattle.joint.specs.declared.engine.in_flight.InFlight.{InFlight}
use Rattle.joint.specs.declared.engine.in_flight.InFlight.TheVariants.{Idle, Collecting, Reserving, Securing, Walking}
use Rattle.joint.specs.declared.id.Id.{Id}
use Rattle.joint.specs.declared.steps.Event.TheVariants.{Register, Begin, Go}
use Rattle.joint.specs.declared.steps.Op.{Op}
use Rattle.joint.specs.declared.steps.Report.{Report}
use Rattle.joint.specs.declared.steps.Target.{Target}
use Rattle.joint.specs.declared.steps.Target.TheVariants as target
use Rattle.joint.specs.engine.Intact.{call_after, is_reserving}
use Rattle.joint.specs.Names.{root}
use Rattle.joint.specs.engine.Journaling.{has_place}
use Rattle.joint.specs.Reports.{target, is_in_flight}
use Rattle.joint.specs.engine.Flying.{Flights, AreInFlight}
use Rattle.joint.specs.engine.Engine.{World, EngineHolds, BeginsAt, BeginsOnTree, Does, EntersUnless, GoesAt, finds_none, is_busy, misuse, place_of}
use Rattle.joint.proofs.lemmas.engine.Collecting.{get_inside}
use Rattle.joint.proofs.lemmas.engine.HandOver.{held_place}
use Rattle.congee.proofs.Laws.{set_here}

module _ {V : Type 0} where
  idle_place : (k : Option (InFlight V)) (o : Option (Machine Id V)) → is_busy k ≡ false → has_place k o ≡ false
  idle_place None o e = refl
  idle_place (Some Idle) o e = refl
  idle_place (Some (Collecting op)) o e = absurd (cc e)
  idle_place (Some (Reserving op)) o e = absurd (cc e)
  idle_place (Some (Securing op)) o e = absurd (cc e)
  idle_place (Some Walking) o e = absurd (cc e)

  collecting_place : (o : CollectorOutcome) (op : CollectorOp) (m : Option (Machine Id V)) → has_place (Some (call_after o (Collecting op))) m ≡ false
  collecting_place collector_outcome.Running op m = refl
  collecting_place collector_outcome.Done op m = refl
  collecting_place (collector_outcome.Refused f) op m = refl

  -- the call in a place that was set, if the place is there
  pub at_place : (ks ks' : List (InFlight V)) (w : ℕ) (k : InFlight V) → w < length ks → ks' ≡ set ks w k → slice_get ks' w ≡ Some k
  at_place ks ks' w k l e = let x : (y : InFlight V) × (slice_get ks w ≡ Some y) = get_inside ks w l in ap (λ xs. slice_get xs w) e ∙ set_here ks w k x.0 x.1

  machine_place : (ms ms' : List (Machine Id V)) (w : ℕ) (m : Machine Id V) → w < length ms → ms' ≡ set ms w m → slice_get ms' w ≡ Some m
  machine_place ms ms' w m l e = let x : (y : Machine Id V) × (slice_get ms w ≡ Some y) = get_inside ms w l in ap (λ xs. slice_get xs w) e ∙ set_here ms w m x.0 x.1

module _ {V : Type 0} (same : V → V → Bool) (always : Bool) (s s' : World V) (w : ℕ) (holds : EngineHolds same always s) where
  abbrev before : Bool
  before = has_place (slice_get s.calls w) (slice_get s.machines w)

  abbrev after : Bool
  after = has_place (slice_get s'.calls w) (slice_get s'.machines w)

  unchanged : s' ≡ s → after ≡ before
  unchanged e = ap (λ y. has_place (slice_get y.calls w) (slice_get y.machines w)) e

  -- a worker whose begin isn't misused is registered and has no call in flight
  registered_by : (b : Bool) (o : Option Fault) → (place_of s w).registered ≡ b → (if b then o else Some fault.Unknown) ≡ None → w < length s.calls
  registered_by true o e x = subst (λ n. w < n) holds.0.table (held_place s.forest.collector.table w e)
  registered_by false o e x = absurd (cc x)

  free_by : (b busy : Bool) (f : Fault) (u : Option Fault) → (if b then (if busy then Some f else u) else Some fault.Unknown) ≡ None → busy ≡ false
  free_by true true f u e = absurd (cc e)
  free_by true false f u e = refl
  free_by false busy f u e = absurd (cc e)

  module _ (op : Op V) (none : misuse s w (Begin op) ≡ None) where
    -- the worker has its place among the calls
    pub begin_within : w < length s.calls
    begin_within = registered_by (place_of s w).registered _ refl none

    -- the worker has no call in flight
    pub begin_idle : is_busy (slice_get s.calls w) ≡ false
    begin_idle = free_by (place_of s w).registered (is_busy (slice_get s.calls w)) _ _ none

    -- it says that it has none
    pub begins_idle : slice_get s.calls w ≡ Some Idle
    begins_idle = by (slice_get s.calls w) (get_inside s.calls w begin_within) begin_idle where
      by : (k : Option (InFlight V)) → (x : InFlight V) × (k ≡ Some x) → is_busy k ≡ false → k ≡ Some Idle
      by None x e = absurd (let q : None ≡ Some x.0 = x.1 in cc)
      by (Some Idle) x e = refl
      by (Some (Collecting c)) x e = absurd (cc e)
      by (Some (Reserving p)) x e = absurd (cc e)
      by (Some (Securing p)) x e = absurd (cc e)
      by (Some Walking) x e = absurd (cc e)

    even : after ≡ false → after ≡ before
    even e = e ∙ sym (idle_place (slice_get s.calls w) (slice_get s.machines w) begin_idle)

    none_at : (k : InFlight V) → s'.calls ≡ set s.calls w k → ((o : Option (Machine Id V)) → has_place (Some k) o ≡ false) → after ≡ before
    none_at k e n = even (ap (λ x. has_place x (slice_get s'.machines w)) (at_place s.calls s'.calls w k begin_within e) ∙ n (slice_get s'.machines w))

    reads : (p : Point V) → s' ≡ record s { machines = set s.machines w (begun root p); calls = set s.calls w Walking } → has_place (Some Walking) (Some (begun root p)) ≡ false → after ≡ before
    reads p e n =
        let l : w < length s.machines = subst (λ n. w < n) (sym holds.0.machines) begin_within in
        even (ap (λ x. has_place x (slice_get s'.machines w)) (at_place s.calls s'.calls w Walking begin_within (ap (λ y. y.calls) e)) ∙ ap (has_place (Some Walking)) (machine_place s.machines s'.machines w (begun root p) l (ap (λ y. y.machines) e)) ∙ n)

    scan_begins : (p : Point V) (r : Report V) (none : Bool) → has_place (Some Walking) (Some (begun root p)) ≡ false → EntersUnless none s w p r s' → after ≡ before
    scan_begins p r true n x = unchanged x.state
    scan_begins p r false n x = reads p x.state n

    begins_tree : (p : Point V) (r : Report V) → BeginsOnTree same always s w p r s' → after ≡ before
    begins_tree (point.Get k) r x = reads (point.Get k) x.state refl
    begins_tree (point.Range start end size) r x = scan_begins (point.Range start end size) r (finds_none {V = V} (point.Range start end size)) refl x
    begins_tree (point.RangeInclusive start last size) r x = scan_begins (point.RangeInclusive start last size) r (finds_none {V = V} (point.RangeInclusive start last size)) refl x
    begins_tree (point.Insert k v) r x = none_at _ (ap (λ y. y.calls) x.state) (λ o. refl)
    begins_tree (point.Remove k) r x = none_at _ (ap (λ y. y.calls) x.state) (λ o. refl)
    begins_tree (point.ComputePresent k) r x = none_at _ (ap (λ y. y.calls) x.state) (λ o. refl)
    begins_tree (point.ComputeInsert k) r x = none_at _ (ap (λ y. y.calls) x.state) (λ o. refl)
    begins_tree (point.Exchange k old new) r x = none_at _ (ap (λ y. y.calls) x.state) (λ o. refl)

    begins : (t : Target V) (r : Report V) → BeginsAt same always s w t r s' → after ≡ before
    begins (target.Collector op) r x = none_at (call_after x.collector_report.outcome (Collecting op)) x.calls (collecting_place x.collector_report.outcome op)
    begins (target.Tree p) r x = begins_tree p r x
    begins (target.Survey k) r x = unchanged x.state

  -- a registration or a begin reserves no place and frees none
  begin_by : (op : Op V) (r : Report V) (o : Option Fault) → misuse s w (Begin op) ≡ o → Does same always s w (Begin op) o r s' → after ≡ before
  begin_by op r None e x = begins op e (target op) r x
  begin_by op r (Some f) e x = unchanged x.1

  -- a begin leaves the worker with a place of the journal just where it had one
  pub begin_even : (op : Op V) (r : Report V) → Does same always s w (Begin op) (misuse s w (Begin op)) r s' → after ≡ before
  begin_even op r x = begin_by op r (misuse s w (Begin op)) refl x

  -- a registration leaves the worker with a place of the journal just where it had one
  pub register_even : (r : Report V) → Does same always s w Register (misuse s w Register) r s' → after ≡ before
  register_even r (inl x) = ap (λ y. has_place (slice_get y.calls w) (slice_get y.machines w)) x.1.state
  register_even r (inr x) = unchanged x.state

  -- a call that begins and stays in flight is of a worker that had none
  free_flight : (fs : Flights V) → AreInFlight s fs → (k : Option (InFlight V)) → slice_get s.calls w ≡ k → is_busy k ≡ false → fs w ≡ Over
  free_flight fs fl None e b = elim (slice_get_cases s.calls w).1 [
    | inl x ↦ absurd (let q : None ≡ Some x.0 = sym e ∙ x.2 in cc)
    | inr x ↦ fl.beyond w x.0
  ]
  free_flight fs fl (Some Idle) e b =
      let x = get_inside s.machines w (subst (λ n. w < n) (sym holds.0.machines) (slice_get_within s.calls w Idle e)) in fl.each w Idle x.0 e x.1
  free_flight fs fl (Some (Collecting op)) e b = absurd (cc b)
  free_flight fs fl (Some (Reserving op)) e b = absurd (cc b)
  free_flight fs fl (Some (Securing op)) e b = absurd (cc b)
  free_flight fs fl (Some Walking) e b = absurd (cc b)

  accepted_by : (op : Op V) (r : Report V) (o : Option Fault) → misuse s w (Begin op) ≡ o → Does same always s w (Begin op) o r s' → is_in_flight r.outcome ≡ true → misuse s w (Begin op) ≡ None
  accepted_by op r None e x i = e
  accepted_by op r (Some f) e x i = absurd (false≢true (sym (ap (λ y. is_in_flight y.outcome) x.0) ∙ i))

  -- a call that begins and stays in flight is of a worker of the machine whose call was watched as over
  pub begin_free : (fs : Flights V) → AreInFlight s fs → (op : Op V) (r : Report V) → Does same always s w (Begin op) (misuse s w (Begin op)) r s' → is_in_flight r.outcome ≡ true → (fs w ≡ Over) × (w < length s.calls)
  begin_free fs fl op r x i =
      let n : misuse s w (Begin op) ≡ None = accepted_by op r (misuse s w (Begin op)) refl x i in
      (free_flight fs fl (slice_get s.calls w) refl (begin_idle op n), begin_within op n)

  -- the first step of a writing call doesn't decide
  first_by : (k : Option (InFlight V)) (noise : Noise Id V) (r : Report V) → is_reserving k ≡ true → GoesAt same always s w k noise r s' → r.decided ≡ false
  first_by (Some (Reserving op)) noise r e x = ap (λ y. y.decided) x.goes.report
  first_by (Some Idle) noise r e x = absurd (cc e)
  first_by (Some (Collecting op)) noise r e x = absurd (cc e)
  first_by (Some (Securing op)) noise r e x = absurd (cc e)
  first_by (Some Walking) noise r e x = absurd (cc e)
  first_by None noise r e x = absurd (cc e)

  first_case : (noise : Noise Id V) (r : Report V) (o : Option Fault) → is_reserving (slice_get s.calls w) ≡ true → Does same always s w (Go noise) o r s' → r.decided ≡ false
  first_case noise r None e x = first_by (slice_get s.calls w) noise r e x
  first_case noise r (Some f) e x = ap (λ y. y.decided) x.0

  -- a writing call doesn't take effect in its first step
  pub first_undecided : (noise : Noise Id V) (r : Report V) → is_reserving (slice_get s.calls w) ≡ true → Does same always s w (Go noise) (misuse s w (Go noise)) r s' → r.decided ≡ false
  first_undecided noise r e x = first_case noise r (misuse s w (Go noise)) e x

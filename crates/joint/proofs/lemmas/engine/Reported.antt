-- A worker's call is in flight after a step of it exactly where the report says so.
use Rattle.std.proofs.Common.{◌≡◌, ◌<◌, ℕ, Bool, true, false, List, length, refl, sym, ◌∙◌, ap, subst}
use Rattle.std.proofs.Math.ListN.{set}
use Rattle.std.specs.Prelude.{Option, None, Some, not, slice_get, if◌then◌else◌}
use Rattle.std.proofs.lemmas.Option.{slice_get_within}
use Rattle.crossbeam_epoch.specs.declared.fault.Fault.{Fault}
use Rattle.crossbeam_epoch.specs.declared.fault.Fault.TheVariants as fault
use Rattle.crossbeam_epoch.specs.declared.world.report.Event.{Event as CollectorEvent}
use Rattle.crossbeam_epoch.specs.declared.world.report.Outcome.{Outcome as CollectorOutcome}
use Rattle.crossbeam_epoch.specs.declared.world.report.Outcome.TheVariants as collector_outcome
use Rattle.congee.specs.declared.protocol.machine.Noise.{Noise}
use Rattle.congee.specs.declared.protocol.machine.Outcome.{Outcome as Moved}
use Rattle.congee.specs.declared.protocol.machine.Outcome.TheVariants as moved
use Rattle.congee.specs.declared.protocol.op.Op.{Op as Point}
use Rattle.congee.specs.declared.protocol.op.Op.TheVariants as point
use Rattle.joint.specs.declared.engine.in_flight.InFlight.{InFlight}
use Rattle.joint.specs.declared.engine.in_flight.InFlight.TheVariants.{Idle, Collecting, Reserving, Securing, Walking}
use Rattle.joint.specs.declared.id.Id.{Id}
use Rattle.joint.specs.declared.steps.Event.{Event}
use Rattle.joint.specs.declared.steps.Event.TheVariants.{Register, Begin, Go}
use Rattle.joint.specs.declared.steps.Report.{Report}
use Rattle.joint.specs.declared.steps.Target.{Target}
use Rattle.joint.specs.declared.steps.Target.TheVariants as target
use Rattle.joint.specs.nodes.Nodes.{nodes}
use Rattle.joint.specs.engine.Intact.{call_after, secured_call, over_at}
use Rattle.joint.specs.engine.Laws.{CallLaws}
use Rattle.joint.specs.Reports.{target, told, collected, is_in_flight}
use Rattle.joint.specs.nodes.View.{id_number}
use Rattle.joint.specs.engine.Engine.{World, EngineHolds, Does, Proceeds, BeginsAt, BeginsOnTree, EntersUnless, finds_none, GoesAt, Collects, Walks, GoesOnReserving, SecuresFirst, IsOfCall, is_busy, misuse, place_of, reserving}
use Rattle.joint.proofs.lemmas.engine.Collecting.{get_inside}
use Rattle.joint.proofs.lemmas.engine.Ending.{goes_on_after}
use Rattle.joint.proofs.lemmas.engine.Reserving.{next_here}
use Rattle.joint.proofs.lemmas.engine.Telling.{survey_ends}
use Rattle.joint.proofs.lemmas.engine.Walking as walking
use Rattle.joint.proofs.lemmas.engine.Entering.{at_place, begin_idle, begin_within}

twice : (b : Bool) → not (not b) ≡ b
twice true = refl
twice false = refl

after_walk : (V : Type 0) (b : Bool) → is_busy {V = V} (Some (if b then Idle else Walking)) ≡ not b
after_walk V true = refl
after_walk V false = refl

module _ {V : Type 0} where
  -- a report of a step on the tree says that the call is in flight just where it goes on
  pub told_goes : (o : Moved V) → is_in_flight (told o) ≡ goes_on_after o
  told_goes moved.Running = refl
  told_goes (moved.Asks found) = refl
  told_goes (moved.Found place key value) = refl
  told_goes (moved.Done reply) = refl
  told_goes (moved.Scanned count) = refl
  told_goes (moved.Refused cause) = refl

  -- a call of the collector's goes on, or there is none
  after_collection : (k : InFlight V) → is_busy (Some k) ≡ true → (o : CollectorOutcome) → is_busy (Some (call_after o k)) ≡ is_in_flight {V = V} (collected o)
  after_collection k b collector_outcome.Running = b
  after_collection k b collector_outcome.Done = refl
  after_collection k b (collector_outcome.Refused f) = refl

  after_securing : (op : Point V) (o : CollectorOutcome) → is_busy (Some (secured_call o (Some (Securing op)))) ≡ is_in_flight {V = V} (reserving o)
  after_securing op collector_outcome.Running = refl
  after_securing op collector_outcome.Done = refl
  after_securing op (collector_outcome.Refused f) = refl

  securing_goes : (calls calls' : List (InFlight V)) (w : ℕ) (op : Point V) (o : CollectorOutcome) → slice_get calls w ≡ Some (Securing op) → calls' ≡ set calls w (secured_call o (slice_get calls w)) → is_busy (slice_get calls' w) ≡ is_in_flight {V = V} (reserving o)
  securing_goes calls calls' w op o e c =
      ap is_busy (at_place calls calls' w (secured_call o (slice_get calls w)) (slice_get_within calls w (Securing op) e) c) ∙ ap (λ k. is_busy (Some (secured_call o k))) e ∙ after_securing op o

module _ {V : Type 0} (same : V → V → Bool) (always : Bool) (s : World V) (w : ℕ) (holds : EngineHolds same always s) where
  -- a call in flight is of a registered worker, so its next step isn't misused
  busy_registered : (k : Option (InFlight V)) → slice_get s.calls w ≡ k → is_busy k ≡ true → (place_of s w).registered ≡ true
  busy_registered None e b = absurd (cc b)
  busy_registered (Some Idle) e b = absurd (cc b)
  busy_registered (Some (Collecting op)) e b = (let x = get_inside s.machines w (subst (λ n. w < n) (sym holds.0.machines) (slice_get_within s.calls w (Collecting op) e)) in (holds.0.each w (Collecting op) x.0 e x.1).0.0)
  busy_registered (Some (Reserving op)) e b = (let x = get_inside s.machines w (subst (λ n. w < n) (sym holds.0.machines) (slice_get_within s.calls w (Reserving op) e)) in (holds.0.each w (Reserving op) x.0 e x.1).0)
  busy_registered (Some (Securing op)) e b = (let x = get_inside s.machines w (subst (λ n. w < n) (sym holds.0.machines) (slice_get_within s.calls w (Securing op) e)) in (holds.0.each w (Securing op) x.0 e x.1).0.0)
  busy_registered (Some Walking) e b = (
      let x = get_inside s.machines w (subst (λ n. w < n) (sym holds.0.machines) (slice_get_within s.calls w Walking e)) in
      (holds.0.safe.sound.sound.guarded w x.0 x.1).registered (holds.0.each w Walking x.0 e x.1).0)

  -- a further step of a worker with a call in flight isn't misused
  pub may_go : (noise : Noise Id V) → is_busy (slice_get s.calls w) ≡ true → misuse s w (Go noise) ≡ None
  may_go noise b =
      let r : (place_of s w).registered ≡ true = busy_registered (slice_get s.calls w) refl b in
      let f : (if is_busy (slice_get s.calls w) then None else Some fault.Idle) ≡ None = ap (λ c. if c then None else Some fault.Idle) b in
      ap (λ c. if c then (if is_busy (slice_get s.calls w) then None else Some fault.Idle) else Some fault.Unknown) r ∙ f

module _ {V : Type 0} (same : V → V → Bool) (always : Bool) (laws : CallLaws {C = Id} {V = V} id_number same always) (s s' : World V) (w : ℕ) (holds : EngineHolds same always s) where
  abbrev Tells : Report V → Type 0
  Tells r = is_busy (slice_get s'.calls w) ≡ is_in_flight r.outcome

  put : (r : Report V) (k : InFlight V) → w < length s.calls → s'.calls ≡ set s.calls w k → is_busy (Some k) ≡ is_in_flight r.outcome → Tells r
  put r k l e b = ap is_busy (at_place s.calls s'.calls w k l e) ∙ b

  collects : (event : CollectorEvent) (k : InFlight V) (r : Report V) → is_busy (Some k) ≡ true → w < length s.calls → Collects same always s w event k r s' → Tells r
  collects event k r b l x = put r (call_after x.collector_report.outcome k) l x.calls (after_collection k b x.collector_report.outcome ∙ sym (ap (λ y. is_in_flight y.outcome) x.report))

  securing : (op : Point V) (r : Report V) (b : World V) → slice_get b.calls w ≡ Some (Securing op) → GoesOnReserving same always b w r s' → Tells r
  securing op r b e x = securing_goes b.calls s'.calls w op x.collector_report.outcome e x.step.call ∙ sym (ap (λ y. is_in_flight y.outcome) x.report)

  secures_first : (op : Point V) (r : Report V) → slice_get s.calls w ≡ Some (Reserving op) → SecuresFirst same always s w r s' → Tells r
  secures_first op r e x = securing op r x.between (next_here same always s.forest s.machines s.calls w x.between.forest x.between.machines x.between.calls x.begins op e) x.goes

  walks : (noise : Noise Id V) (r : Report V) → slice_get s.calls w ≡ Some Walking → w < length s.calls → Walks same always s w noise r s' → Tells r
  walks noise r e l x =
      let here : slice_get s'.machines w ≡ Some _ = walking.now_here same always laws s.forest s.machines s.calls holds.0 _ e x.move s'.forest s'.machines x.step in
      let ends = walking.told same always laws s.forest s.machines s.calls holds.0 _ e x.move s'.forest s'.machines x.step in
      put r (if over_at (slice_get s'.machines w) then Idle else Walking) l x.calls
      (after_walk V (over_at (slice_get s'.machines w)) ∙ ap (λ m. not (over_at m)) here ∙ ap not ends ∙ twice (goes_on_after x.move.outcome) ∙ sym (told_goes x.move.outcome) ∙ sym (ap (λ y. is_in_flight y.outcome) x.report))

  -- a scan begins, or is done at once
  scan_begins : (none : Bool) (op : Point V) (r : Report V) → is_busy (slice_get s.calls w) ≡ false → w < length s.calls → EntersUnless none s w op r s' → Tells r
  scan_begins true op r fr l x = ap (λ y. is_busy (slice_get y.calls w)) x.state ∙ fr ∙ sym (ap (λ y. is_in_flight y.outcome) x.report)
  scan_begins false op r fr l x = put r Walking l (ap (λ y. y.calls) x.state) (sym (ap (λ y. is_in_flight y.outcome) x.report))

  begins_tree : (op : Point V) (r : Report V) → is_busy (slice_get s.calls w) ≡ false → w < length s.calls → BeginsOnTree same always s w op r s' → Tells r
  begins_tree (point.Get k) r fr l x = put r Walking l (ap (λ y. y.calls) x.state) (sym (ap (λ y. is_in_flight y.outcome) x.report))
  begins_tree (point.Range start end size) r fr l x = scan_begins (finds_none {V = V} (point.Range start end size)) (point.Range start end size) r fr l x
  begins_tree (point.RangeInclusive start last size) r fr l x = scan_begins (finds_none {V = V} (point.RangeInclusive start last size)) (point.RangeInclusive start last size) r fr l x
  begins_tree (point.Insert k v) r fr l x = put r (Reserving (point.Insert k v)) l (ap (λ y. y.calls) x.state) (sym (ap (λ y. is_in_flight y.outcome) x.report))
  begins_tree (point.Remove k) r fr l x = put r (Reserving (point.Remove k)) l (ap (λ y. y.calls) x.state) (sym (ap (λ y. is_in_flight y.outcome) x.report))
  begins_tree (point.ComputePresent k) r fr l x = put r (Reserving (point.ComputePresent k)) l (ap (λ y. y.calls) x.state) (sym (ap (λ y. is_in_flight y.outcome) x.report))
  begins_tree (point.ComputeInsert k) r fr l x = put r (Reserving (point.ComputeInsert k)) l (ap (λ y. y.calls) x.state) (sym (ap (λ y. is_in_flight y.outcome) x.report))
  begins_tree (point.Exchange k old new) r fr l x = put r (Reserving (point.Exchange k old new)) l (ap (λ y. y.calls) x.state) (sym (ap (λ y. is_in_flight y.outcome) x.report))

  begins : (t : Target V) (r : Report V) → is_busy (slice_get s.calls w) ≡ false → w < length s.calls → BeginsAt same always s w t r s' → Tells r
  begins (target.Collector op) r fr l x = collects _ (Collecting op) r refl l x
  begins (target.Tree op) r fr l x = begins_tree op r fr l x
  begins (target.Survey k) r fr l x =
      ap (λ y. is_busy (slice_get y.calls w)) x.state ∙ fr ∙ sym (survey_ends (nodes s.forest) k x.outcome x.tells) ∙ sym (ap (λ y. is_in_flight y.outcome) x.report)

  on : (k : Option (InFlight V)) (noise : Noise Id V) (r : Report V) → slice_get s.calls w ≡ k → GoesAt same always s w k noise r s' → Tells r
  on None noise r e x = absurd x
  on (Some Idle) noise r e x = absurd x
  on (Some (Collecting op)) noise r e x = collects _ (Collecting op) r refl (slice_get_within s.calls w (Collecting op) e) x
  on (Some (Reserving op)) noise r e x = secures_first op r e x
  on (Some (Securing op)) noise r e x = securing op r s e x
  on (Some Walking) noise r e x = walks noise r e (slice_get_within s.calls w Walking e) x

  proceeds : (event : Event V) (r : Report V) → IsOfCall event → misuse s w event ≡ None → Proceeds same always s w event r s' → Tells r
  proceeds Register r c m x = absurd c
  proceeds (Begin op) r c m x = begins (target op) r (begin_idle same always s s' w holds op m) (begin_within same always s s' w holds op m) x
  proceeds (Go noise) r c m x = on (slice_get s.calls w) noise r refl x

  -- after a step that isn't misused a worker has a call in flight exactly where the report says so
  pub in_flight : (event : Event V) (r : Report V) → Does same always s w event (misuse s w event) r s' → IsOfCall event → misuse s w event ≡ None → is_busy (slice_get s'.calls w) ≡ is_in_flight r.outcome
  in_flight event r x c m =
      let P : Option Fault → Type 0 = λ o. Does same always s w event o r s' in
      proceeds event r c m (subst P m x)

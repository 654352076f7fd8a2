-- A node that a worker has seen under its guard stands until the guard's stretch ends.
use Rattle.std.proofs.Common.{◌≡◌, ◌==◌, ℕ, Bool, true, false, List, [], ◌∷◌, length, refl, sym, ◌∙◌, ap, subst, inl, inr, ◌⊎◌}
use Rattle.std.proofs.Math.ListN.{set}
use Rattle.std.specs.Prelude.{Option, None, Some, is_some, slice_get, if◌then◌else◌}
use Rattle.std.proofs.lemmas.Bool.{cases_Bool, eqb-true, eqb-false, false≢true}
use Rattle.crossbeam_epoch.specs.declared.fault.Fault.{Fault}
use Rattle.crossbeam_epoch.specs.declared.names.Name.{Name}
use Rattle.crossbeam_epoch.specs.declared.world.participant.Phase.{Phase as CollectorPhase}
use Rattle.crossbeam_epoch.specs.declared.world.participant.Phase.TheVariants as collector_phase
use Rattle.crossbeam_epoch.specs.declared.world.report.Event.{Event as CollectorEvent}
use Rattle.crossbeam_epoch.specs.declared.world.report.Event.TheVariants as collector_event
use Rattle.crossbeam_epoch.specs.declared.world.report.Op.TheVariants as collector_op
use Rattle.crossbeam_epoch.specs.declared.world.report.Outcome.{Outcome as CollectorOutcome}
use Rattle.crossbeam_epoch.specs.declared.world.report.Outcome.TheVariants as collector_outcome
use Rattle.crossbeam_epoch.specs.declared.world.report.Report.{Report as Collection}
use Rattle.crossbeam_epoch.specs.world.Fits.{Bounds}
use Rattle.crossbeam_epoch.specs.world.History.{Mark, Deferred, began}
use Rattle.crossbeam_epoch.specs.world.Machine.{State, place, with_store}
use Rattle.crossbeam_epoch.specs.world.Progress.{comes_by, stage as stage_of}
use Rattle.crossbeam_epoch.specs.world.Reach.{marks_of, Visible}
use Rattle.crossbeam_epoch.specs.world.Steps.{marks}
use Rattle.crossbeam_epoch.specs.world.Store.{value_at}
use Rattle.congee.specs.declared.protocol.machine.Machine.{Machine}
use Rattle.congee.specs.declared.protocol.machine.Noise.{Noise}
use Rattle.congee.specs.declared.protocol.op.Op.{Op as Point}
use Rattle.congee.specs.declared.protocol.op.Op.TheVariants as point
use Rattle.congee.specs.declared.protocol.phase.Phase.{Phase}
use Rattle.congee.specs.declared.protocol.phase.Phase.TheVariants.{Retire}
use Rattle.congee.specs.declared.protocol.run.Step.{Step as TreeStep}
use Rattle.congee.specs.Heap.{Stands}
use Rattle.congee.specs.Notes.{Held, Linked, is_published}
use Rattle.congee.specs.protocol.Answers.{Keeps}
use Rattle.congee.specs.protocol.Names.{names}
use Rattle.std.specs.List.{Contains}
use Rattle.congee.specs.protocol.Handing.{InTree}
use Rattle.congee.specs.protocol.Holdings.{MadeBy}
use Rattle.congee.specs.protocol.Leaving.{StepLeaves}
use Rattle.congee.specs.protocol.Play.{IsMoved, Settled, begun}
use Rattle.congee.specs.protocol.State.{is_done, retiring}
use Rattle.joint.specs.declared.engine.in_flight.InFlight.{InFlight}
use Rattle.joint.specs.declared.engine.in_flight.InFlight.TheVariants.{Idle, Collecting, Reserving, Securing, Walking}
use Rattle.joint.specs.declared.id.Id.{Id}
use Rattle.joint.specs.declared.nodes.slot.Slot.{Slot}
use Rattle.joint.specs.declared.steps.Event.{Event}
use Rattle.joint.specs.declared.steps.Event.TheVariants.{Register, Begin, Go}
use Rattle.joint.specs.declared.steps.Op.{Op}
use Rattle.joint.specs.declared.steps.Op.TheVariants as op
use Rattle.joint.specs.declared.steps.Report.{Report}
use Rattle.joint.specs.nodes.Nodes.{Nodes, nodes, Refuses}
use Rattle.joint.specs.engine.Intact.{BeginsSecuring, IsAt, rested, resting, secured_machines}
use Rattle.joint.specs.engine.Laws.{CallLaws, CellLaws, LeavesLaw}
use Rattle.joint.specs.engine.Safety.{Collected, retiring_at, after_walk}
use Rattle.joint.specs.nodes.Slots.{slot_names}
use Rattle.joint.specs.NameLemmas.{number_named}
use Rattle.joint.specs.Names.{named, root}
use Rattle.joint.specs.calls.Runs.{Taken, AreTaken}
use Rattle.joint.specs.engine.Sound.{Guards, IsSecured, IsUnderWay, Sound}
use Rattle.joint.specs.calls.Stretches.{EndsStretch, HasChecked, SeesNode, StandsOn, publishes, ends_stretch}
use Rattle.joint.specs.nodes.View.{view, id_number}
use Rattle.joint.specs.world.World.{Holds, StepsUnless, finds_journal_full}
use Rattle.joint.specs.engine.Engine.{World, EngineHolds, IsHeldBy, BeginsOnTree, Collects, Does, EntersUnless, Enters, GoesAt, GoesOnReserving, Reserves, Walks, engine_of, finds_none, misuse, place_of}
use Rattle.joint.proofs.lemmas.engine.Collecting.{get_beside}
use Rattle.joint.proofs.lemmas.engine.HandOver.{held_place}
use Rattle.joint.proofs.lemmas.calls.Leaves as leaves
use Rattle.joint.proofs.lemmas.nodes.Paths.{in_reach}
use Rattle.joint.proofs.lemmas.engine.Reserving.{next_here}
use Rattle.joint.proofs.lemmas.engine.ScanEnds.{cleared_is}
use Rattle.joint.proofs.lemmas.engine.SecuredPlaces.{retiring_room}
use Rattle.joint.proofs.lemmas.nodes.SlotViews.{slot_view}
use Rattle.joint.proofs.lemmas.calls.Stretches.{IsBlocked, sees_blocks, stored, joined, deferring, blocked_after, live_on, ends_now}
use Rattle.joint.proofs.lemmas.nodes.Views.{heap_ties}
use Rattle.congee.proofs.Laws.{get_set}

-- a securing doesn't publish
secure_calm : (s : CollectorPhase) → comes_by (stage_of s) (collector_op.Secure 2) ≡ true → publishes s ≡ false
secure_calm (collector_phase.Publish seen) e = absurd (false≢true e)
secure_calm (collector_phase.RepinPublish seen) e = absurd (false≢true e)
secure_calm _ e = refl

module _ {V : Type 0} where
  begun_unmade : (o : Point V) (n : ℕ) → MadeBy id_number (begun root o).phase n → ⊥
  begun_unmade (point.Get k) n x = x
  begun_unmade (point.Insert k v) n x = x
  begun_unmade (point.Remove k) n x = x
  begun_unmade (point.ComputePresent k) n x = x
  begun_unmade (point.ComputeInsert k) n x = x
  begun_unmade (point.Exchange k a b) n x = x
  begun_unmade (point.Range start end size) n x = x
  begun_unmade (point.RangeInclusive start last size) n x = x

  rested_made : (m : Machine Id V) (n : ℕ) → MadeBy id_number (rested m).phase n → MadeBy id_number m.phase n
  rested_made m n x = by (is_done m.phase) x where
    by : (b : Bool) → MadeBy id_number (if b then resting else m).phase n → MadeBy id_number m.phase n
    by true y = absurd y
    by false y = y

module _ {V : Type 0} (same : V → V → Bool) (always : Bool) (laws : CallLaws {C = Id} {V = V} id_number same always) (cells : CellLaws {T = Slot V} (Unit {0}) slot_names) (leaves_law : (f : Nodes V) → LeavesLaw {C = Id} {V = V} id_number same always f.version_max (Refuses f))
    (p n : ℕ) where
  abbrev it : Name
  it = named n

  abbrev At : State (Slot V) (Unit {0}) → Type 0
  At c = (h : List Mark) × IsBlocked p it h c

  live : (f : Nodes V) → Stands (nodes f n) → is_some (value_at f.collector.store it) ≡ true
  live f st = let P : ℕ → Type 0 = λ k. Stands (nodes f k) in (heap_ties slot_names view slot_view f.collector.store).live it (subst P (sym (number_named n)) st)

  stands : (f : Nodes V) → is_some (value_at f.collector.store it) ≡ true → Stands (nodes f n)
  stands f e = let P : ℕ → Type 0 = λ k. Stands (nodes f k) in subst P (number_named n) ((heap_ties slot_names view slot_view f.collector.store).stands it e)

  abbrev On : Nodes V → Type 0
  On f = At f.collector × Stands (nodes f n)

  -- a step of the collector
  collected : (f f' : Nodes V) (ms : List (Machine Id V)) (who : ℕ) (event : CollectorEvent) (r : Collection) → (who ≡ p → ends_now event (place f.collector who) ≡ false) → Collected same always f ms who event r f' → On f → On f'
  collected f f' ms who event r calm c o =
      let P : State (Slot V) (Unit {0}) → Type 0 = λ y. IsBlocked p it (marks f.collector who event r o.0.0) y in (
        (marks f.collector who event r o.0.0, subst P (sym c.state) (blocked_after p it o.0.0 f.collector who event r c.report calm o.0.1)),
        stands f' (live_on p it cells o.0.0 f.collector f'.collector who event r c.report c.moves o.0.1 (live f o.1)),
      )

  -- what holds while the stretch lasts
  pub record Lasts (s : World V) : Type 0 where
    pub on : On s.forest
    pub unheld : (j : ℕ) → IsHeldBy s j n → ⊥

  module _ (s s' : World V) (w : ℕ) (holds : EngineHolds same always s) where
    abbrev settled : Settled id_number same always (nodes s.forest) s.machines
    settled = holds.0.safe.sound.sound.settled

    abbrev Unheld : Type 0
    Unheld = (j : ℕ) → IsHeldBy s' j n → IsHeldBy s j n

    still : s'.machines ≡ s.machines → Unheld
    still e j y = (y.0, sym (ap (λ ms. slice_get ms j) e) ∙ y.1, y.2)

    -- another machine comes into the worker's place that has made nothing
    instead : (ms : List (Machine Id V)) (m : Machine Id V) → (MadeBy id_number m.phase n → ⊥) → s.machines ≡ ms → s'.machines ≡ set ms w m → Unheld
    instead ms m none e e' j y = elim (get_set ms w j m y.0 (sym (ap (λ xs. slice_get xs j) e') ∙ y.1)) [
      | inl z ↦ absurd (none (let P : Machine Id V → Type 0 = λ k. MadeBy id_number k.phase n in subst P (sym z.1) y.2))
      | inr z ↦ (y.0, ap (λ xs. slice_get xs j) e ∙ z.1, y.2)
    ]

    lasts : On s'.forest → Unheld → Lasts s → Lasts s'
    lasts o u l = record { on = o; unheld = λ j y. l.unheld j (u j y) }

    same_forest : s'.forest ≡ s.forest → Unheld → Lasts s → Lasts s'
    same_forest e u l = lasts (subst (λ (f : Nodes V). On f) (sym e) l.on) u l

    enters : (o : Point V) (r : Report V) → Enters s w o r s' → Lasts s → Lasts s'
    enters o r x l = same_forest (ap (λ y. y.forest) x.state) (instead s.machines (begun root o) (begun_unmade o n) refl (ap (λ y. y.machines) x.state)) l

    scan_begins : (o : Point V) (r : Report V) (none : Bool) → EntersUnless none s w o r s' → Lasts s → Lasts s'
    scan_begins o r true x l = same_forest (ap (λ y. y.forest) x.state) (still (ap (λ y. y.machines) x.state)) l
    scan_begins o r false x l = enters o r x l

    reserves : (o : Point V) (r : Report V) → Reserves s w o r s' → Lasts s → Lasts s'
    reserves o r x l = same_forest (ap (λ y. y.forest) x.state) (still (ap (λ y. y.machines) x.state)) l

    collects : (event : CollectorEvent) (k : InFlight V) (r : Report V) → (w ≡ p → ends_now event (place_of s w) ≡ false) → Collects same always s w event k r s' → Lasts s → Lasts s'
    collects event k r calm x l = lasts (collected s.forest s'.forest s.machines w event x.collector_report calm x.step l.on) (still x.machines) l

    secured_unheld : (o : CollectorOutcome) (k : Option (InFlight V)) (ms : List (Machine Id V)) → s.machines ≡ ms → s'.machines ≡ secured_machines o k ms w → Unheld
    secured_unheld collector_outcome.Done (Some (Securing c)) ms e e' = instead ms (begun root c) (begun_unmade c n) e e'
    secured_unheld collector_outcome.Done (Some Idle) ms e e' = still (e' ∙ sym e)
    secured_unheld collector_outcome.Done (Some (Collecting c)) ms e e' = still (e' ∙ sym e)
    secured_unheld collector_outcome.Done (Some (Reserving c)) ms e e' = still (e' ∙ sym e)
    secured_unheld collector_outcome.Done (Some Walking) ms e e' = still (e' ∙ sym e)
    secured_unheld collector_outcome.Done None ms e e' = still (e' ∙ sym e)
    secured_unheld collector_outcome.Running k ms e e' = still (e' ∙ sym e)
    secured_unheld (collector_outcome.Refused f) k ms e e' = still (e' ∙ sym e)

    securing : (c : Point V) (r : Report V) → slice_get s.calls w ≡ Some (Securing c) → GoesOnReserving same always s w r s' → Lasts s → Lasts s'
    securing c r e x l =
        let m : (m : Machine Id V) × (slice_get s.machines w ≡ Some m) = get_beside s.machines s.calls w holds.0.machines (Securing c) e in
        let at : IsAt (Securing c) (place_of s w) m.0 = holds.0.each w (Securing c) m.0 e m.1 in
        lasts (collected s.forest s'.forest s.machines w collector_event.Go x.collector_report (λ z. secure_calm (place_of s w).phase at.0.1) x.step.collected l.on)
        (secured_unheld x.collector_report.outcome (slice_get s.calls w) s.machines refl x.step.machine) l

    -- a call on the tree takes a step
    module _ (noise : Noise Id V) (r : Report V) (on : slice_get s.calls w ≡ Some Walking) (k : Walks same always s w noise r s') where
      abbrev tree_step : TreeStep Id V
      tree_step = record { who = w; noise = noise }

      old : (m : Machine Id V) × (slice_get s.machines w ≡ Some m)
      old = get_beside s.machines s.calls w holds.0.machines Walking on

      abbrev moved : IsMoved id_number same always s.forest.version_max (Refuses s.forest) (nodes s.forest) s.machines old.0 tree_step k.move (nodes s'.forest) k.step.between
      moved = k.step.walked.plays.moved old.0 old.1

      abbrev keeps : Keeps id_number same always w settled.0 old.0 (nodes s.forest) moved.now (nodes s'.forest) k.move
      keeps = leaves.keeps same always laws s.forest s'.forest s.machines k.step.between tree_step k.move holds.0.safe k.step.walked old.0 old.1

      left : StepLeaves id_number w settled.0 keeps.notes (nodes s.forest) (nodes s'.forest) old.0 moved.now
      left = leaves_law s.forest w settled.0 (nodes s.forest) (nodes s'.forest) s.machines old.0 moved.now k.move noise.fail noise.answer settled.1 settled.2 old.1 keeps moved.step

      machines_are : s'.machines ≡ set s.machines w (rested moved.now)
      machines_are = k.step.machines ∙ cleared_is s.machines k.step.between w old.0 moved.now old.1 moved.calls

      -- what it has made it had made before, or is a new node
      walks_held : Stands (nodes s.forest n) → Unheld
      walks_held st j y = elim (get_set s.machines w j (rested moved.now) y.0 (sym (ap (λ xs. slice_get xs j) machines_are) ∙ y.1)) [
        | inl z ↦ (
            let P : Machine Id V → Type 0 = λ m. MadeBy id_number m.phase n in
            let made : MadeBy id_number moved.now.phase n = rested_made moved.now n (subst P (sym z.1) y.2) in
            elim ((keeps.effect.fares n).held w (left.mine n made)) [
              | inl was ↦ (let Q : ℕ → Type 0 = λ i. IsHeldBy s i n in subst Q (sym z.0) (settled.2.held n w was.0))
              | inr new ↦ absurd (false≢true (sym new.1 ∙ st.made))
            ])
        | inr z ↦ (y.0, z.1, y.2)
      ]

      walks_stands : Lasts s → Stands (nodes s'.forest n)
      walks_stands l = elim (left.lost n l.on.1) [
        | inl st ↦ st
        | inr made ↦ absurd (l.unheld w (old.0, old.1, made))
      ]

      -- a removal that is deferred now is blocked
      walks_at : (h : List Mark) → IsBlocked p it h s.forest.collector → At s'.forest.collector
      walks_at h b = by old.0.phase refl where
        mid : State (Slot V) (Unit {0})
        mid = with_store s.forest.collector s'.forest.collector.store

        quiet : retiring_at (slice_get s.machines w) ≡ None → At s'.forest.collector
        quiet e =
            let P : State (Slot V) (Unit {0}) → Type 0 = λ c. IsBlocked p it h c in
            (h, subst P (sym (k.step.walked.collector_is ∙ ap (λ o. after_walk o mid w) e)) (stored p it h s.forest.collector mid refl b))

        by : (q : Phase Id V) → old.0.phase ≡ q → At s'.forest.collector
        by (Retire c next q u) e =
            let g : Guards (place s.forest.collector w) old.0 = holds.0.safe.sound.sound.guarded w old.0 old.1 in
            let P : Phase Id V → Type 0 = λ z. IsUnderWay z in
            let Q : Phase Id V → Type 0 = λ z. IsSecured old.0.kind z (length (place s.forest.collector w).bag) in
            let R : State (Slot V) (Unit {0}) → Type 0 = λ d. IsBlocked p it (Deferred s.forest.collector.next (Some c.name) ∷ h) d in
            let under : IsUnderWay old.0.phase = subst P (sym e) tt in
            let is : retiring_at (slice_get s.machines w) ≡ Some c = ap retiring_at old.1 ∙ ap retiring e in (
              Deferred s.forest.collector.next (Some c.name) ∷ h,
              subst R (sym (k.step.walked.collector_is ∙ ap (λ o. after_walk o mid w) is))
                  (deferring p it h mid w c.name (held_place s.forest.collector.table w (g.registered under)) (g.idle under) (retiring_room old.0.kind c next q u (length (place s.forest.collector w).bag) (subst Q e g.secured)) (stored p it h s.forest.collector mid refl b)),
            )
        by _ e = quiet (ap retiring_at old.1 ∙ ap retiring e)

      walks : Lasts s → Lasts s'
      walks l = lasts (walks_at l.on.0.0 l.on.0.1, walks_stands l) (walks_held l.on.1) l

    begins_tree : (o : Point V) (r : Report V) → BeginsOnTree same always s w o r s' → Lasts s → Lasts s'
    begins_tree (point.Get k) r x l = enters (point.Get k) r x l
    begins_tree (point.Range start end size) r x l = scan_begins (point.Range start end size) r (finds_none {V = V} (point.Range start end size)) x l
    begins_tree (point.RangeInclusive start last size) r x l = scan_begins (point.RangeInclusive start last size) r (finds_none {V = V} (point.RangeInclusive start last size)) x l
    begins_tree (point.Insert k v) r x l = reserves (point.Insert k v) r x l
    begins_tree (point.Remove k) r x l = reserves (point.Remove k) r x l
    begins_tree (point.ComputePresent k) r x l = reserves (point.ComputePresent k) r x l
    begins_tree (point.ComputeInsert k) r x l = reserves (point.ComputeInsert k) r x l
    begins_tree (point.Exchange k a b) r x l = reserves (point.Exchange k a b) r x l

    begins : (o : Op V) (r : Report V) → (w ≡ p → ends_stretch {V = V} (Begin o) (place_of s w) ≡ false) → Does same always s w (Begin o) None r s' → Lasts s → Lasts s'
    begins op.Pin r calm x l = collects (collector_event.Begin collector_op.Pin) (Collecting collector_op.Pin) r (λ z. refl) x l
    begins op.Unpin r calm x l = collects (collector_event.Begin collector_op.Unpin) (Collecting collector_op.Unpin) r calm x l
    begins op.Repin r calm x l = collects (collector_event.Begin collector_op.Repin) (Collecting collector_op.Repin) r (λ z. refl) x l
    begins op.Flush r calm x l = collects (collector_event.Begin collector_op.Flush) (Collecting collector_op.Flush) r (λ z. refl) x l
    begins op.Release r calm x l = collects (collector_event.Begin collector_op.Release) (Collecting collector_op.Release) r (λ z. refl) x l
    begins (op.Get k) r calm x l = begins_tree (point.Get k) r x l
    begins (op.Insert k v) r calm x l = begins_tree (point.Insert k v) r x l
    begins (op.Remove k) r calm x l = begins_tree (point.Remove k) r x l
    begins (op.ComputePresent k) r calm x l = begins_tree (point.ComputePresent k) r x l
    begins (op.ComputeInsert k) r calm x l = begins_tree (point.ComputeInsert k) r x l
    begins (op.Exchange k a b) r calm x l = begins_tree (point.Exchange k a b) r x l
    begins (op.Range start end size) r calm x l = begins_tree (point.Range start end size) r x l
    begins (op.RangeInclusive start last size) r calm x l = begins_tree (point.RangeInclusive start last size) r x l
    begins op.Keys r calm x l = same_forest (ap (λ y. y.forest) x.state) (still (ap (λ y. y.machines) x.state)) l
    begins op.IsEmpty r calm x l = same_forest (ap (λ y. y.forest) x.state) (still (ap (λ y. y.machines) x.state)) l
    begins op.Stats r calm x l = same_forest (ap (λ y. y.forest) x.state) (still (ap (λ y. y.machines) x.state)) l

  -- a writing call begins to make its place free
  begins_securing : (s b : World V) (w : ℕ) → BeginsSecuring same always s.forest s.machines s.calls w b.forest b.machines b.calls → Lasts s → Lasts b
  begins_securing s b w x l = record {
    on = collected s.forest b.forest s.machines w (collector_event.Begin (collector_op.Secure 2)) x.collector_report (λ z. refl) x.collected l.on;
    unheld = λ j y. l.unheld j (y.0, sym (ap (λ ms. slice_get ms j) x.machine) ∙ y.1, y.2);
  }

  module _ (s s' : World V) (w : ℕ) (holds : EngineHolds same always s) where
    goes : (k : Option (InFlight V)) (noise : Noise Id V) (r : Report V) → slice_get s.calls w ≡ k → (w ≡ p → publishes (place_of s w).phase ≡ false) → GoesAt same always s w k noise r s' → Lasts s → Lasts s'
    goes None noise r e calm x l = absurd x
    goes (Some Idle) noise r e calm x l = absurd x
    goes (Some (Collecting c)) noise r e calm x l = collects s s' w holds collector_event.Go (Collecting c) r calm x l
    goes (Some (Reserving c)) noise r e calm x l =
        securing x.between s' w (x.begins.intact, x.begins.collected.charged) c r (next_here same always s.forest s.machines s.calls w x.between.forest x.between.machines x.between.calls x.begins c e) x.goes (begins_securing s x.between w x.begins l)
    goes (Some (Securing c)) noise r e calm x l = securing s s' w holds c r e x l
    goes (Some Walking) noise r e calm x l = walks s s' w holds noise r e x l

    -- a step that doesn't end the stretch leaves the node standing, its removals blocked and no call holding it
    pub does : (event : Event V) (o : Option Fault) (r : Report V) → misuse s w event ≡ o → (w ≡ p → misuse s w event ≡ None → ends_stretch event (place_of s w) ≡ false) → Does same always s w event o r s' → Lasts s → Lasts s'
    does event (Some f) r e calm x l = same_forest s s' w holds (ap (λ y. y.forest) x.1) (still s s' w holds (ap (λ y. y.machines) x.1)) l
    does Register None r e calm (inl x) l = lasts s s' w holds (subst (λ (f : Nodes V). On f) (sym (ap (λ y. y.forest) x.1.state)) ((l.on.0.0, joined p it l.on.0.0 s.forest.collector x.0 x.1.inside l.on.0.1), l.on.1)) (still s s' w holds (ap (λ y. y.machines) x.1.state)) l
    does Register None r e calm (inr x) l = same_forest s s' w holds (ap (λ y. y.forest) x.state) (still s s' w holds (ap (λ y. y.machines) x.state)) l
    does (Begin o) None r e calm x l = begins s s' w holds o r (λ z. calm z e) x l
    does (Go noise) None r e calm x l = goes (slice_get s.calls w) noise r refl (λ z. calm z e) x l

  step_by : (s : World V) (t : Taken V) (b : Bool) → Holds same always s → (t.step.worker ≡ p → misuse s t.step.worker t.step.event ≡ None → ends_stretch t.step.event (place_of s t.step.worker) ≡ false) → StepsUnless same always b s t.step t.report t.after → Lasts s → Lasts t.after
  step_by s t true h calm x l = record {
    on = subst (λ (f : Nodes V). On f) (sym (ap (λ (y : World V). y.forest) x.state)) l.on;
    unheld = λ j y. l.unheld j (y.0, sym (ap (λ (z : World V). slice_get z.machines j) x.state) ∙ y.1, y.2);
  }
  step_by s t false h calm x l =
      let d : Lasts (engine_of t.after) = does (engine_of s) (engine_of t.after) t.step.worker (h.0, h.1) t.step.event (misuse s t.step.worker t.step.event) x.told refl calm x.engine.does (record { on = l.on; unheld = l.unheld }) in
      record { on = d.on; unheld = d.unheld }

  ends_or : (s : World V) (t : Taken V) → EndsStretch p s t ⊎ (t.step.worker ≡ p → misuse s t.step.worker t.step.event ≡ None → ends_stretch t.step.event (place_of s t.step.worker) ≡ false)
  ends_or s t = elim (cases_Bool (t.step.worker == p)) [
    | inr b ↦ inr (λ e m. absurd (eqb-false t.step.worker p b e))
    | inl b ↦ (
        let e : t.step.worker ≡ p = eqb-true t.step.worker p b in
        elim (cases_Bool (ends_stretch t.step.event (place_of s t.step.worker))) [
          | inr off ↦ inr (λ q m. off)
          | inl on ↦ by (misuse s t.step.worker t.step.event) refl e on
        ])
  ]
    where
      by : (o : Option Fault) → misuse s t.step.worker t.step.event ≡ o → t.step.worker ≡ p → ends_stretch t.step.event (place_of s t.step.worker) ≡ true
          → EndsStretch p s t ⊎ (t.step.worker ≡ p → misuse s t.step.worker t.step.event ≡ None → ends_stretch t.step.event (place_of s t.step.worker) ≡ false)
      by None m e on = inl (record { worker = e; accepted = subst (λ w. misuse s w t.step.event ≡ None) e m; ends_it = subst (λ w. ends_stretch t.step.event (place_of s w) ≡ true) e on })
      by (Some f) m e on = inr (λ q z. absurd (let y : None ≡ Some f = sym z ∙ m in cc))

  all_stand : (s : World V) (ts : List (Taken V)) → Holds same always s → AreTaken same always s ts → Lasts s → StandsOn p n s ts
  all_stand s [] h y l = tt
  all_stand s (t ∷ ts) h y l = elim (ends_or s t) [
    | inl e ↦ inl e
    | inr calm ↦ (let now : Lasts t.after = step_by s t (finds_journal_full s t.step.worker t.step.event) h calm y.0.does l in inr (now.on.1, all_stand t.after ts y.0.holds y.1 now))
  ]

  -- a worker that is pinned begins so with what it sees
  sees : (s : World V) → Holds same always s → SeesNode s p n → Lasts s
  sees s h v = by v.sees where
    sound : Sound slot_names view id_number same always h.0.safe.sound.top h.0.safe.sound.past s.forest.collector s.machines
    sound = h.0.safe.sound.sound

    pinned : is_some (began (marks_of h.0.safe.sound.past) p) ≡ true
    pinned = bounded (began (marks_of h.0.safe.sound.past) p) (place_of s p).word v.pinned (sound.tells.fits.places p).bounds
      where
        bounded : (b w : Option ℕ) → is_some w ≡ true → Bounds b w s.forest.collector.epoch → is_some b ≡ true
        bounded (Some b) w e y = refl
        bounded None (Some w) e y = absurd y
        bounded None None e y = e

    from : Visible h.0.safe.sound.past p it → Stands (nodes s.forest n) → ((j : ℕ) → IsHeldBy s j n → ⊥) → Lasts s
    from seen st un = record {
      on = ((marks_of h.0.safe.sound.past, record { fits = sound.tells.fits; on = pinned; all = λ t d. sees_blocks h.0.safe.sound.past p t it sound.careful.leaves pinned seen d }), st);
      unheld = un;
    }

    held_status : (j : ℕ) → IsHeldBy s j n → (sound.settled.0 n).status ≡ Held j
    held_status j y = let k = sound.settled.1.each j y.0 y.1 in laws.held j sound.settled.0 (nodes s.forest) y.0.key y.0.kind y.0.given n y.0.phase k.known y.2

    by : InTree (nodes s.forest) n ⊎ HasChecked s p n → Lasts s
    by (inl i) =
        let l : (sound.settled.0 n).status ≡ Linked = laws.leads sound.settled.0 (nodes s.forest) sound.settled.1.tree i.0 0 n sound.settled.1.tree.root i.1 in
        let P : ℕ → Type 0 = λ k. InTree (nodes s.forest) k in
        from (cells.seen_now h.0.safe.sound.past s.forest.collector p it sound.tells.now (in_reach slot_names s.forest.collector.store (nodes s.forest) s.forest.collector.roots h.0.safe.sound.top (heap_ties slot_names view slot_view s.forest.collector.store) sound.rooted it (subst P (sym (number_named n)) i)))
        ((sound.settled.1.words.each n).stands (ap is_published l))
        (λ j y. let q : Held j ≡ Linked = sym (held_status j y) ∙ l in cc)
    by (inr c) =
        let P : ℕ → Type 0 = λ k. Contains (names id_number c.call.phase) k in
        let Q : ℕ → Type 0 = λ k. MadeBy id_number c.call.phase k in
        elim (sound.seen p c.call it c.here (subst P (sym (number_named n)) c.named)) [
          | inl made ↦ absurd (c.unmade (subst Q (number_named n) made))
          | inr seen ↦ (
              let st : Stands (nodes s.forest n) = stands s.forest (cells.stands h.0.safe.sound.past s.forest.collector p it sound.tells sound.careful pinned seen) in
              from seen st (λ j y. let R : ℕ → Type 0 = λ k. MadeBy id_number y.0.phase k in sound.unseen j y.0 it y.1 (subst R (sym (number_named n)) y.2) (cells.visible_was h.0.safe.sound.past p it seen)))
        ]

  -- a node that a pinned worker sees stands after each step until the worker's stretch ends
  pub stands_on : (s : World V) (ts : List (Taken V)) → Holds same always s → AreTaken same always s ts → SeesNode s p n → StandsOn p n s ts
  stands_on s ts h y v = all_stand s ts h y (sees s h v)

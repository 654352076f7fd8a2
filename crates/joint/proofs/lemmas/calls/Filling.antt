-- Where no step goes on without a node that it wanted, each node of the tree stays filled.
use Rattle.std.proofs.Common.{◌≡◌, ◌<◌, ℕ, Bool, true, false, List, [], ◌∷◌, length, refl, sym, ◌∙◌, ap, subst, inl, inr}
use Rattle.std.proofs.Math.ListN.{set}
use Rattle.std.specs.Prelude.{Option, None, Some, slice_get, if◌then◌else◌}
use Rattle.std.proofs.lemmas.Option.{slice_get_within}
use Rattle.crossbeam_epoch.specs.declared.fault.Fault.{Fault}
use Rattle.crossbeam_epoch.specs.declared.world.report.Outcome.{Outcome as CollectorOutcome}
use Rattle.crossbeam_epoch.specs.declared.world.report.Outcome.TheVariants as collector_outcome
use Rattle.congee.specs.declared.protocol.machine.Machine.{Machine}
use Rattle.congee.specs.declared.protocol.machine.Noise.{Noise}
use Rattle.congee.specs.declared.protocol.op.Op.{Op as Point}
use Rattle.congee.specs.declared.protocol.op.Op.TheVariants as point
use Rattle.congee.specs.declared.protocol.phase.Phase.{Phase}
use Rattle.congee.specs.Heap.{Node}
use Rattle.congee.specs.protocol.Destroys.{Destroys}
use Rattle.congee.specs.protocol.Filled.{Fills, KeepsFilled}
use Rattle.congee.specs.protocol.Play.{Settled, begun}
use Rattle.congee.specs.protocol.State.{is_done}
use Rattle.joint.specs.declared.engine.in_flight.InFlight.{InFlight}
use Rattle.joint.specs.declared.engine.in_flight.InFlight.TheVariants.{Idle, Collecting, Reserving, Securing, Walking}
use Rattle.joint.specs.declared.id.Id.{Id}
use Rattle.joint.specs.declared.limits.Limits.{Limits}
use Rattle.joint.specs.declared.steps.Event.{Event}
use Rattle.joint.specs.declared.steps.Event.TheVariants.{Register, Begin, Go}
use Rattle.joint.specs.declared.steps.Report.{Report}
use Rattle.joint.specs.declared.steps.Target.{Target}
use Rattle.joint.specs.declared.steps.Target.TheVariants as target
use Rattle.joint.specs.calls.Filling.{NoneSkipped, StaysFilled}
use Rattle.joint.specs.nodes.Nodes.{Nodes, nodes, Refuses}
use Rattle.joint.specs.engine.Intact.{rested, resting, secured_machines}
use Rattle.joint.specs.Names.{root}
use Rattle.joint.specs.engine.Laws.{CallLaws, FilledLaws, FillingLaw}
use Rattle.joint.specs.world.World.{IsNew, Holds, StepsUnless, finds_journal_full}
use Rattle.joint.specs.Reports.{target}
use Rattle.joint.specs.calls.Runs.{Taken, AreTaken, after_all}
use Rattle.joint.specs.nodes.View.{id_number}
use Rattle.joint.specs.engine.Engine.{World, EngineHolds, BeginsAt, BeginsOnTree, Does, EntersUnless, GoesAt, GoesOnReserving, Walks, engine_of, finds_none, misuse}
use Rattle.joint.proofs.lemmas.engine.OneCallChanges.{one_set}
use Rattle.joint.proofs.lemmas.engine.Collecting.{get_inside}
use Rattle.joint.proofs.lemmas.world.Flights.{set_at}
use Rattle.joint.proofs.lemmas.calls.Leaves as leaves
use Rattle.joint.proofs.lemmas.engine.ScanEnds.{cleared_is}
use Rattle.congee.proofs.Laws.{get_set}

module _ {V : Type 0} (h : ℕ → Node V) where
  abbrev Filled : List (Machine Id V) → Type 0
  Filled ms = KeepsFilled true id_number h ms

  abbrev FillsAs : Machine Id V → Type 0
  FillsAs m = Fills true id_number h m.given m.phase

  -- a call in the place of another
  filled_at : (ms : List (Machine Id V)) (w : ℕ) (m : Machine Id V) → Filled ms → FillsAs m → Filled (set ms w m)
  filled_at ms w m f n = record {
    tree = f.tree;
    calls = λ j x e. elim (get_set ms w j m x e) [
      | inl q ↦ subst FillsAs q.1 n
      | inr q ↦ f.calls j x q.1
    ];
  }

  -- the same calls but for one, whose place another takes
  filled_again : (ms : List (Machine Id V)) (w : ℕ) (m n : Machine Id V) → Filled (set ms w m) → w < length ms → (FillsAs m → FillsAs n) → Filled (set ms w n)
  filled_again ms w m n f l on = record {
    tree = f.tree;
    calls = λ j x e. elim (get_set ms w j n x e) [
      | inl q ↦ subst FillsAs q.1 (on (f.calls w m (set_at ms w m l)))
      | inr q ↦ f.calls j x ((one_set ms (set ms w m) w m refl).other j q.0 ∙ q.1)
    ];
  }

  fills_begun : (op : Point V) → FillsAs (begun root op)
  fills_begun (point.Get k) = tt
  fills_begun (point.Range start end size) = tt
  fills_begun (point.RangeInclusive start last size) = tt
  fills_begun (point.Insert k v) = tt
  fills_begun (point.Remove k) = tt
  fills_begun (point.ComputePresent k) = tt
  fills_begun (point.ComputeInsert k) = tt
  fills_begun (point.Exchange k a b) = tt

  fills_rested : (m : Machine Id V) → FillsAs m → FillsAs (rested m)
  fills_rested m f = by (is_done m.phase) where
    by : (b : Bool) → FillsAs (if b then resting else m)
    by true = tt
    by false = f

  secured_filled : (o : CollectorOutcome) (k : Option (InFlight V)) (ms : List (Machine Id V)) (w : ℕ) → Filled ms → Filled (secured_machines o k ms w)
  secured_filled collector_outcome.Done (Some (Securing op)) ms w f = filled_at ms w (begun root op) f (fills_begun op)
  secured_filled collector_outcome.Done (Some Idle) ms w f = f
  secured_filled collector_outcome.Done (Some (Collecting op)) ms w f = f
  secured_filled collector_outcome.Done (Some (Reserving op)) ms w f = f
  secured_filled collector_outcome.Done (Some Walking) ms w f = f
  secured_filled collector_outcome.Done None ms w f = f
  secured_filled collector_outcome.Running k ms w f = f
  secured_filled (collector_outcome.Refused e) k ms w f = f

module _ {V : Type 0} (same : V → V → Bool) (always : Bool) (laws : CallLaws {C = Id} {V = V} id_number same always) (fills : FilledLaws {C = Id} {V = V} id_number same always)
    (filling : (f : Nodes V) → FillingLaw {C = Id} {V = V} id_number same always f.version_max (Refuses f)) where
  module _ (s s' : World V) (w : ℕ) (holds : EngineHolds same always s) (f : StaysFilled s) where
    abbrev settled : Settled id_number same always (nodes s.forest) s.machines
    settled = holds.0.safe.sound.sound.settled

    unchanged : nodes s'.forest ≡ nodes s.forest → s'.machines ≡ s.machines → StaysFilled s'
    unchanged n m =
        let P : (ℕ → Node V) → Type 0 = λ h. KeepsFilled true id_number h s'.machines in
        let Q : List (Machine Id V) → Type 0 = λ ms. KeepsFilled true id_number (nodes s.forest) ms in
        subst P (sym n) (subst Q (sym m) f)

    same_state : s' ≡ s → StaysFilled s'
    same_state e = unchanged (ap (λ y. nodes y.forest) e) (ap (λ y. y.machines) e)

    spared : Destroys id_number (nodes s.forest) s.machines (nodes s'.forest) → KeepsFilled true id_number (nodes s'.forest) s.machines
    spared d = fills.spared settled.0 (nodes s.forest) (nodes s'.forest) s.machines settled.1 settled.2 d f

    destroyed : Destroys id_number (nodes s.forest) s.machines (nodes s'.forest) → s'.machines ≡ s.machines → StaysFilled s'
    destroyed d m = let Q : List (Machine Id V) → Type 0 = λ ms. KeepsFilled true id_number (nodes s'.forest) ms in subst Q (sym m) (spared d)

    -- a call begins
    entered : (op : Point V) → nodes s'.forest ≡ nodes s.forest → s'.machines ≡ set s.machines w (begun root op) → StaysFilled s'
    entered op n m =
        let P : (ℕ → Node V) → Type 0 = λ h. KeepsFilled true id_number h s'.machines in
        let Q : List (Machine Id V) → Type 0 = λ ms. KeepsFilled true id_number (nodes s.forest) ms in
        subst P (sym n) (subst Q (sym m) (filled_at (nodes s.forest) s.machines w (begun root op) f (fills_begun (nodes s.forest) op)))

    scan_begins : (op : Point V) (r : Report V) (none : Bool) → EntersUnless none s w op r s' → StaysFilled s'
    scan_begins op r true x = same_state x.state
    scan_begins op r false x = entered op (ap (λ y. nodes y.forest) x.state) (ap (λ y. y.machines) x.state)

    begins_tree : (op : Point V) (r : Report V) → BeginsOnTree same always s w op r s' → StaysFilled s'
    begins_tree (point.Get k) r x = entered (point.Get k) (ap (λ y. nodes y.forest) x.state) (ap (λ y. y.machines) x.state)
    begins_tree (point.Range start end size) r x = scan_begins (point.Range start end size) r (finds_none {V = V} (point.Range start end size)) x
    begins_tree (point.RangeInclusive start last size) r x = scan_begins (point.RangeInclusive start last size) r (finds_none {V = V} (point.RangeInclusive start last size)) x
    begins_tree (point.Insert k v) r x = unchanged (ap (λ y. nodes y.forest) x.state) (ap (λ y. y.machines) x.state)
    begins_tree (point.Remove k) r x = unchanged (ap (λ y. nodes y.forest) x.state) (ap (λ y. y.machines) x.state)
    begins_tree (point.ComputePresent k) r x = unchanged (ap (λ y. nodes y.forest) x.state) (ap (λ y. y.machines) x.state)
    begins_tree (point.ComputeInsert k) r x = unchanged (ap (λ y. nodes y.forest) x.state) (ap (λ y. y.machines) x.state)
    begins_tree (point.Exchange k a b) r x = unchanged (ap (λ y. nodes y.forest) x.state) (ap (λ y. y.machines) x.state)

    begins : (t : Target V) (r : Report V) → BeginsAt same always s w t r s' → StaysFilled s'
    begins (target.Collector op) r x = destroyed x.step.destroys x.machines
    begins (target.Tree op) r x = begins_tree op r x
    begins (target.Survey k) r x = same_state x.state

    reserved : (r : Report V) → GoesOnReserving same always s w r s' → StaysFilled s'
    reserved r x =
        let Q : List (Machine Id V) → Type 0 = λ ms. KeepsFilled true id_number (nodes s'.forest) ms in
        subst Q (sym x.step.machine) (secured_filled (nodes s'.forest) x.collector_report.outcome (slice_get s.calls w) s.machines w (spared x.step.collected.destroys))

    -- a call on the tree takes a step
    walks : (noise : Noise Id V) (r : Report V) → slice_get s.calls w ≡ Some Walking → Walks same always s w noise r s' → r.skipped ≡ false → StaysFilled s'
    walks noise r on k none =
        let old : (m : Machine Id V) × (slice_get s.machines w ≡ Some m) = get_inside s.machines w (subst (λ n. w < n) (sym holds.0.machines) (slice_get_within s.calls w Walking on)) in
        let moved = k.step.walked.plays.moved old.0 old.1 in
        let keeps = leaves.keeps same always laws s.forest s'.forest s.machines k.step.between (record { who = w; noise = noise }) k.move holds.0.safe k.step.walked old.0 old.1 in
        let skip : k.move.skipped ≡ false = sym (ap (λ y. y.skipped) k.report) ∙ none in
        let full : KeepsFilled true id_number (nodes s'.forest) (set s.machines w moved.now) =
        filling s.forest w settled.0 (nodes s.forest) (nodes s'.forest) s.machines old.0 moved.now k.move noise.fail noise.answer settled.1 old.1 keeps moved.step skip f in
        let Q : List (Machine Id V) → Type 0 = λ ms. KeepsFilled true id_number (nodes s'.forest) ms in
        subst Q (sym (k.step.machines ∙ cleared_is s.machines k.step.between w old.0 moved.now old.1 moved.calls))
        (filled_again (nodes s'.forest) s.machines w moved.now (rested moved.now) full (slice_get_within s.machines w old.0 old.1) (fills_rested (nodes s'.forest) moved.now))

  module _ (s s' : World V) (w : ℕ) (holds : EngineHolds same always s) (f : StaysFilled s) where
    goes : (k : Option (InFlight V)) (noise : Noise Id V) (r : Report V) → slice_get s.calls w ≡ k → GoesAt same always s w k noise r s' → r.skipped ≡ false → StaysFilled s'
    goes None noise r e x none = absurd x
    goes (Some Idle) noise r e x none = absurd x
    goes (Some (Collecting op)) noise r e x none = destroyed s s' w holds f x.step.destroys x.machines
    goes (Some (Reserving op)) noise r e x none =
        reserved x.between s' w (x.begins.intact, x.begins.collected.charged) (destroyed s x.between w holds f x.begins.collected.destroys x.begins.machine) r x.goes
    goes (Some (Securing op)) noise r e x none = reserved s s' w holds f r x
    goes (Some Walking) noise r e x none = walks s s' w holds f noise r e x none

    does : (event : Event V) (o : Option Fault) (r : Report V) → Does same always s w event o r s' → r.skipped ≡ false → StaysFilled s'
    does event (Some e) r x none = same_state s s' w holds f x.1
    does Register None r (inl x) none = unchanged s s' w holds f (ap (λ y. nodes y.forest) x.1.state) (ap (λ y. y.machines) x.1.state)
    does Register None r (inr x) none = same_state s s' w holds f x.state
    does (Begin op) None r x none = begins s s' w holds f (target op) r x
    does (Go noise) None r x none = goes (slice_get s.calls w) noise r refl x none

  step : (s : World V) (t : Taken V) → Holds same always s → StaysFilled s → t.report.skipped ≡ false → (b : Bool) → StepsUnless same always b s t.step t.report t.after → StaysFilled t.after
  step s t h f none true y = unchanged s t.after t.step.worker (h.0, h.1) f (ap (λ z. nodes z.forest) y.state) (ap (λ z. z.machines) y.state)
  step s t h f none false y = does (engine_of s) (engine_of t.after) t.step.worker (h.0, h.1) f t.step.event (misuse s t.step.worker t.step.event) y.told y.engine.does (sym (ap (λ z. z.skipped) y.report) ∙ none)

  -- a run in which no step goes on without a node leaves each node of the tree filled
  pub all_filled : (s : World V) (ts : List (Taken V)) → Holds same always s → AreTaken same always s ts → NoneSkipped ts → StaysFilled s → StaysFilled (after_all s ts)
  all_filled s [] h x none f = f
  all_filled s (t ∷ ts) h x none f = all_filled t.after ts x.0.holds x.1 none.1 (step s t h f none.0 (finds_journal_full s t.step.worker t.step.event) x.0.does)

  -- an index as it opens has each node of its tree but the root filled
  pub opens_filled : (limits : Limits) (s : World V) → IsNew limits s → Holds same always s → StaysFilled s
  opens_filled limits s new h = record {
    tree = (fills.opens (nodes s.forest) [] new.opened.2.fresh (λ i m e. absurd (cc e))).tree;
    calls = λ i m e. (
        let l : i < length s.calls = subst (λ n. i < n) h.0.machines (slice_get_within s.machines i m e) in
        let k = get_inside s.calls i l in
        let P : InFlight V → Type 0 = λ c. slice_get s.calls i ≡ Some c in
        let at = h.0.each i Idle m (subst P (new.fresh.idle i k.0 k.1) k.1) e in
        let Q : Phase Id V → Type 0 = λ p. Fills true id_number (nodes s.forest) m.given p in
        subst Q (sym at.1) tt);
  }

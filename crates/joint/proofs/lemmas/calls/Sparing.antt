-- No step destroys a node in use: what goes waited and had no name in a call, or its worker's own call had made it.
use Rattle.std.proofs.Common.{◌≡◌, ℕ, Bool, true, false, List, [], ◌∷◌, refl, sym, ◌∙◌, ap, subst, inl, inr, ◌⊎◌}
use Rattle.std.specs.Prelude.{Option, None, Some, slice_get}
use Rattle.std.specs.List.{Contains}
use Rattle.std.proofs.lemmas.Bool.{false≢true}
use Rattle.std.proofs.lemmas.List.Elements.{All-contains}
use Rattle.crossbeam_epoch.specs.declared.fault.Fault.{Fault}
use Rattle.congee.specs.declared.protocol.machine.Machine.{Machine}
use Rattle.congee.specs.declared.protocol.machine.Noise.{Noise}
use Rattle.congee.specs.declared.protocol.op.Op.{Op as Point}
use Rattle.congee.specs.declared.protocol.op.Op.TheVariants as point
use Rattle.congee.specs.protocol.Answers.{Keeps}
use Rattle.congee.specs.protocol.Destroys.{Destroys}
use Rattle.congee.specs.Heap.{Node, Stands}
use Rattle.congee.specs.protocol.Leaving.{StepLeaves}
use Rattle.congee.specs.protocol.Names.{names}
use Rattle.congee.specs.protocol.Play.{EachKnown, Settled}
use Rattle.joint.specs.declared.engine.in_flight.InFlight.{InFlight}
use Rattle.joint.specs.declared.engine.in_flight.InFlight.TheVariants.{Idle, Collecting, Reserving, Securing, Walking}
use Rattle.joint.specs.declared.id.Id.{Id}
use Rattle.joint.specs.declared.steps.Event.{Event}
use Rattle.joint.specs.declared.steps.Event.TheVariants.{Register, Begin, Go}
use Rattle.joint.specs.declared.steps.Report.{Report}
use Rattle.joint.specs.declared.steps.Step.{Step}
use Rattle.joint.specs.declared.steps.Target.{Target}
use Rattle.joint.specs.declared.steps.Target.TheVariants as target
use Rattle.joint.specs.nodes.Nodes.{Nodes, nodes, Refuses}
use Rattle.joint.specs.engine.Laws.{LeavesLaw}
use Rattle.joint.specs.Reports.{target}
use Rattle.joint.specs.calls.Runs.{Taken, AreTaken, AllSpare}
use Rattle.joint.specs.nodes.View.{id_number}
use Rattle.joint.specs.world.World.{Holds, StepsUnless, finds_journal_full}
use Rattle.joint.specs.engine.Engine.{World, EngineHolds, engine_of, misuse, finds_none, EntersUnless, Walks, BeginsAt, BeginsOnTree, GoesAt, Proceeds, Does, SparesUsed}
use Rattle.joint.proofs.lemmas.engine.Reserving.{same_nodes}
use Rattle.joint.proofs.lemmas.engine.Collecting.{get_beside}

-- what a step of the collector destroys waited, and no call has its name
collected_spares : {V : Type 0} (h h' : ℕ → Node V) (ms : List (Machine Id V)) (n : ℕ) → Destroys id_number h ms h' → Stands (h n)
    → Stands (h' n) ⊎ (((h n).retired ≡ true) × ((i : ℕ) (m : Machine Id V) → slice_get ms i ≡ Some m → Contains (names id_number m.phase) n → ⊥))
collected_spares {V} h h' ms n d st = elim (d.each n) [
  | inl e ↦ inl (let P : Node V → Type 0 = λ x. Stands x in subst P (sym e) st)
  | inr lost ↦ inr (
    lost.handed,
    (λ i m at c.
        let P : ℕ → Type 0 = λ k. h' k ≡ h k in
        let e : h' n ≡ h n = All-contains P (names id_number m.phase) n (d.named i m at) c in
        let q : false ≡ true = sym st.kept ∙ (sym (ap (λ x. x.destroyed) e) ∙ lost.destroyed) in false≢true q),
  )
]

module _ {V : Type 0} (same : V → V → Bool) (always : Bool) (leaves : (s : Nodes V) → LeavesLaw {C = Id} {V = V} id_number same always s.version_max (Refuses s)) where
  module _ (s s' : World V) (w : ℕ) (holds : EngineHolds same always s) where
    as_before : nodes s'.forest ≡ nodes s.forest → SparesUsed s w s'
    as_before e n st = inl (let P : (ℕ → Node V) → Type 0 = λ h. Stands (h n) in subst P (sym e) st)

    unchanged : s' ≡ s → SparesUsed s w s'
    unchanged e = as_before (ap (λ y. nodes y.forest) e)

    by_collector : Destroys id_number (nodes s.forest) s.machines (nodes s'.forest) → SparesUsed s w s'
    by_collector d n st = elim (collected_spares (nodes s.forest) (nodes s'.forest) s.machines n d st) [
      | inl x ↦ inl x
      | inr x ↦ inr (inl (record { waits = x.0; unnamed = x.1 }))
    ]

    -- a call gives back what it had made alone
    walks : (noise : Noise Id V) (r : Report V) → slice_get s.calls w ≡ Some Walking → Walks same always s w noise r s' → SparesUsed s w s'
    walks noise r e k n st =
        let x : (x : Machine Id V) × (slice_get s.machines w ≡ Some x) = get_beside s.machines s.calls w holds.0.machines Walking e in
        let moved = k.step.walked.plays.moved x.0 x.1 in
        let settled : Settled id_number same always (nodes s.forest) s.machines = holds.0.safe.sound.sound.settled in
        let known : EachKnown id_number same always settled.0 (nodes s.forest) w x.0 = settled.1.each w x.0 x.1 in
        let keeps : Keeps id_number same always w settled.0 x.0 (nodes s.forest) moved.now (nodes s'.forest) k.move = moved.keeps w settled.0 known.root settled.1.tree settled.1.words known.known in
        let left : StepLeaves id_number w settled.0 keeps.notes (nodes s.forest) (nodes s'.forest) x.0 moved.now =
        leaves s.forest w settled.0 (nodes s.forest) (nodes s'.forest) s.machines x.0 moved.now k.move noise.fail noise.answer settled.1 settled.2 x.1 keeps moved.step in
        elim (left.lost n st) [
          | inl y ↦ inl y
          | inr y ↦ inr (inr (x.0, x.1, y))
        ]

    scan_begins : (op : Point V) (r : Report V) (none : Bool) → EntersUnless none s w op r s' → SparesUsed s w s'
    scan_begins op r true x = as_before (ap (λ y. nodes y.forest) x.state)
    scan_begins op r false x = as_before (ap (λ y. nodes y.forest) x.state)

    begins_tree : (op : Point V) (r : Report V) → BeginsOnTree same always s w op r s' → SparesUsed s w s'
    begins_tree (point.Get k) r x = as_before (ap (λ y. nodes y.forest) x.state)
    begins_tree (point.Range start end size) r x = scan_begins (point.Range start end size) r (finds_none {V = V} (point.Range start end size)) x
    begins_tree (point.RangeInclusive start last size) r x = scan_begins (point.RangeInclusive start last size) r (finds_none {V = V} (point.RangeInclusive start last size)) x
    begins_tree (point.Insert k v) r x = as_before (ap (λ y. nodes y.forest) x.state)
    begins_tree (point.Remove k) r x = as_before (ap (λ y. nodes y.forest) x.state)
    begins_tree (point.ComputePresent k) r x = as_before (ap (λ y. nodes y.forest) x.state)
    begins_tree (point.ComputeInsert k) r x = as_before (ap (λ y. nodes y.forest) x.state)
    begins_tree (point.Exchange k old new) r x = as_before (ap (λ y. nodes y.forest) x.state)

    begins : (t : Target V) (r : Report V) → BeginsAt same always s w t r s' → SparesUsed s w s'
    begins (target.Collector op) r x = by_collector x.step.destroys
    begins (target.Tree op) r x = begins_tree op r x
    begins (target.Survey k) r x = unchanged x.state

    goes : (k : Option (InFlight V)) (noise : Noise Id V) (r : Report V) → slice_get s.calls w ≡ k → GoesAt same always s w k noise r s' → SparesUsed s w s'
    goes None noise r e x = absurd x
    goes (Some Idle) noise r e x = absurd x
    goes (Some (Collecting op)) noise r e x = by_collector x.step.destroys
    goes (Some (Reserving op)) noise r e x =
        let P : (ℕ → Node V) → Type 0 = λ h. Destroys id_number h x.between.machines (nodes s'.forest) in
        let Q : List (Machine Id V) → Type 0 = λ ms. Destroys id_number (nodes s.forest) ms (nodes s'.forest) in
        by_collector (subst Q x.begins.machine (subst P (same_nodes same always s.forest s.machines s.calls w x.between.forest x.between.machines x.between.calls x.begins) x.goes.step.collected.destroys))
    goes (Some (Securing op)) noise r e x = by_collector x.step.collected.destroys
    goes (Some Walking) noise r e x = walks noise r e x

    proceeds : (event : Event V) (r : Report V) → Proceeds same always s w event r s' → SparesUsed s w s'
    proceeds Register r (inl x) = as_before (ap (λ y. nodes y.forest) x.1.state)
    proceeds Register r (inr x) = unchanged x.state
    proceeds (Begin op) r x = begins (target op) r x
    proceeds (Go noise) r x = goes (slice_get s.calls w) noise r refl x

    -- a step destroys nodes alone that waited without a name in a call, or that its worker's own call had made
    pub step_spares : (event : Event V) (o : Option Fault) (r : Report V) → Does same always s w event o r s' → SparesUsed s w s'
    step_spares event None r x = proceeds event r x
    step_spares event (Some f) r x = unchanged x.1

  whole_step : (s : World V) (step : Step V) (r : Report V) (s' : World V) (b : Bool) → Holds same always s → StepsUnless same always b s step r s' → SparesUsed s step.worker s'
  whole_step s step r s' true h x = as_before s s' step.worker (h.0, h.1) (ap (λ y. nodes y.forest) x.state)
  whole_step s step r s' false h x = λ n st. elim (step_spares (engine_of s) (engine_of s') step.worker (h.0, h.1) step.event (misuse (engine_of s) step.worker step.event) x.told x.engine.does n st) [
    | inl y ↦ inl y
    | inr (inl y) ↦ inr (inl (record { waits = y.waits; unnamed = y.unnamed }))
    | inr (inr y) ↦ inr (inr y)
  ]

  -- no step of a run destroys a node in use
  pub all_spare : (s : World V) (taken : List (Taken V)) → Holds same always s → AreTaken same always s taken → AllSpare s taken
  all_spare s [] h x = tt
  all_spare s (t ∷ ts) h x = (whole_step s t.step t.report t.after (finds_journal_full s t.step.worker t.step.event) h x.0.does, all_spare t.after ts x.0.holds x.1)

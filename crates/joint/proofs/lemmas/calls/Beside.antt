-- What the allocator had charged before the first node, and the limits, stay over any steps.
use Rattle.std.proofs.Common.{◌≡◌, ℕ, Bool, true, false, List, [], ◌∷◌, refl, sym, ◌∙◌, ap, subst, inl, inr}
use Rattle.std.specs.Prelude.{Option, None, Some, slice_get}
use Rattle.crossbeam_epoch.specs.declared.fault.Fault.{Fault}
use Rattle.congee.specs.declared.protocol.machine.Noise.{Noise}
use Rattle.congee.specs.declared.protocol.op.Op.{Op as Point}
use Rattle.congee.specs.declared.protocol.op.Op.TheVariants as point
use Rattle.joint.specs.declared.engine.in_flight.InFlight.{InFlight}
use Rattle.joint.specs.declared.engine.in_flight.InFlight.TheVariants.{Idle, Collecting, Reserving, Securing, Walking}
use Rattle.joint.specs.declared.id.Id.{Id}
use Rattle.joint.specs.declared.steps.Event.{Event}
use Rattle.joint.specs.declared.steps.Event.TheVariants.{Register, Begin, Go}
use Rattle.joint.specs.declared.steps.Report.{Report}
use Rattle.joint.specs.declared.steps.Step.{Step}
use Rattle.joint.specs.declared.steps.Target.{Target}
use Rattle.joint.specs.declared.steps.Target.TheVariants as target
use Rattle.joint.specs.nodes.Nodes.{Nodes, IsBeside}
use Rattle.joint.specs.Reports.{target}
use Rattle.joint.specs.calls.Runs.{Taken, AreTaken, IsRun, after_all}
use Rattle.joint.specs.world.World.{StepsUnless, finds_journal_full}
use Rattle.joint.specs.engine.Engine.{World, BeginsAt, BeginsOnTree, Does, EntersUnless, GoesAt, Proceeds, engine_of, finds_none, misuse}

module _ {V : Type 0} where
  itself : (s : Nodes V) → IsBeside s s
  itself s = record { base = refl; limit = refl; versions = refl }

  further : (a b c : Nodes V) → IsBeside a b → IsBeside b c → IsBeside a c
  further a b c x y = record { base = y.base ∙ x.base; limit = y.limit ∙ x.limit; versions = y.versions ∙ x.versions }

  alike : (s s' : Nodes V) → s' ≡ s → IsBeside s s'
  alike s s' e = let P : Nodes V → Type 0 = λ x. IsBeside s x in subst P (sym e) (itself s)

module _ {V : Type 0} (same : V → V → Bool) (always : Bool) where
  module _ (s s' : World V) (w : ℕ) where
    scan_begins : (op : Point V) (r : Report V) (none : Bool) → EntersUnless none s w op r s' → IsBeside s.forest s'.forest
    scan_begins op r true x = alike s.forest s'.forest (ap (λ y. y.forest) x.state)
    scan_begins op r false x = alike s.forest s'.forest (ap (λ y. y.forest) x.state)

    begins_tree : (op : Point V) (r : Report V) → BeginsOnTree same always s w op r s' → IsBeside s.forest s'.forest
    begins_tree (point.Get k) r x = alike s.forest s'.forest (ap (λ y. y.forest) x.state)
    begins_tree (point.Range start end size) r x = scan_begins (point.Range start end size) r (finds_none {V = V} (point.Range start end size)) x
    begins_tree (point.RangeInclusive start last size) r x = scan_begins (point.RangeInclusive start last size) r (finds_none {V = V} (point.RangeInclusive start last size)) x
    begins_tree (point.Insert k v) r x = alike s.forest s'.forest (ap (λ y. y.forest) x.state)
    begins_tree (point.Remove k) r x = alike s.forest s'.forest (ap (λ y. y.forest) x.state)
    begins_tree (point.ComputePresent k) r x = alike s.forest s'.forest (ap (λ y. y.forest) x.state)
    begins_tree (point.ComputeInsert k) r x = alike s.forest s'.forest (ap (λ y. y.forest) x.state)
    begins_tree (point.Exchange k old new) r x = alike s.forest s'.forest (ap (λ y. y.forest) x.state)

    begins : (t : Target V) (r : Report V) → BeginsAt same always s w t r s' → IsBeside s.forest s'.forest
    begins (target.Collector op) r x = x.step.beside
    begins (target.Tree op) r x = begins_tree op r x
    begins (target.Survey k) r x = alike s.forest s'.forest (ap (λ y. y.forest) x.state)

    goes : (k : Option (InFlight V)) (noise : Noise Id V) (r : Report V) → GoesAt same always s w k noise r s' → IsBeside s.forest s'.forest
    goes None noise r x = absurd x
    goes (Some Idle) noise r x = absurd x
    goes (Some (Collecting op)) noise r x = x.step.beside
    goes (Some (Reserving op)) noise r x = further s.forest x.between.forest s'.forest x.begins.collected.beside x.goes.step.collected.beside
    goes (Some (Securing op)) noise r x = x.step.collected.beside
    goes (Some Walking) noise r x = x.step.walked.beside

    proceeds : (event : Event V) (r : Report V) → Proceeds same always s w event r s' → IsBeside s.forest s'.forest
    proceeds Register r (inl x) =
        let P : Nodes V → Type 0 = λ y. IsBeside s.forest y in
        subst P (sym (ap (λ y. y.forest) x.1.state)) (record { base = refl; limit = refl; versions = refl })
    proceeds Register r (inr x) = alike s.forest s'.forest (ap (λ y. y.forest) x.state)
    proceeds (Begin op) r x = begins (target op) r x
    proceeds (Go noise) r x = goes (slice_get s.calls w) noise r x

    step_beside : (event : Event V) (o : Option Fault) (r : Report V) → Does same always s w event o r s' → IsBeside s.forest s'.forest
    step_beside event None r x = proceeds event r x
    step_beside event (Some f) r x = alike s.forest s'.forest (ap (λ y. y.forest) x.1)

  -- no step changes what was charged before the first node, the limit and the greatest version
  pub steps_unless_beside : (s : World V) (step : Step V) (r : Report V) (s' : World V) (b : Bool) → StepsUnless same always b s step r s' → IsBeside s.forest s'.forest
  steps_unless_beside s step r s' true x = alike s.forest s'.forest (ap (λ y. y.forest) x.state)
  steps_unless_beside s step r s' false x = step_beside (engine_of s) (engine_of s') step.worker step.event (misuse (engine_of s) step.worker step.event) x.told x.engine.does

  taken_beside : (s : World V) (taken : List (Taken V)) → AreTaken same always s taken → IsBeside s.forest (after_all s taken).forest
  taken_beside s [] x = itself s.forest
  taken_beside s (t ∷ ts) x =
      further s.forest t.after.forest (after_all t.after ts).forest
      (steps_unless_beside s t.step t.report t.after (finds_journal_full s t.step.worker t.step.event) x.0.does)
      (taken_beside t.after ts x.1)

  -- nor does a run
  pub run_beside : (s s' : World V) (steps : List (Step V)) (reports : List (Report V)) → IsRun same always s steps reports s' → IsBeside s.forest s'.forest
  run_beside s s' steps reports x = let P : World V → Type 0 = λ y. IsBeside s.forest y.forest in subst P x.last (taken_beside s x.taken x.each)

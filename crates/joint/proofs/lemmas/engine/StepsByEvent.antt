-- One step of the machine, by its event.
use Rattle.std.proofs.Common.{◌≡◌, ℕ, Bool, sym, subst}
use Rattle.std.specs.Prelude.{Option, None, Some}
use Rattle.crossbeam_epoch.specs.declared.fault.Fault.{Fault}
use Rattle.congee.specs.declared.protocol.machine.Noise.{Noise}
use Rattle.joint.specs.declared.id.Id.{Id}
use Rattle.joint.specs.declared.steps.Event.{Event}
use Rattle.joint.specs.declared.steps.Event.TheVariants.{Register, Begin, Go}
use Rattle.joint.specs.declared.steps.Op.{Op}
use Rattle.joint.specs.declared.steps.Report.{Report}
use Rattle.joint.specs.declared.steps.Step.{Step}
use Rattle.joint.specs.declared.steps.Target.{Target}
use Rattle.joint.specs.engine.Beginning.{BeginsUnless, Begun}
use Rattle.joint.specs.nodes.Nodes.{IsCharged}
use Rattle.joint.specs.engine.Intact.{IsIntact}
use Rattle.joint.specs.Reports.{target}
use Rattle.joint.specs.engine.Laws.{CallLaws}
use Rattle.joint.specs.nodes.View.{id_number}
use Rattle.joint.specs.engine.Engine.{World, EngineHolds, Does, IsEngineStep, Proceeds, misuse}
use Rattle.joint.proofs.lemmas.engine.Reported.{in_flight}

-- a call that begins unless there is a cause against it does what the event asks
does_begin : {V : Type 0} (same : V → V → Bool) (always : Bool) (w : World V) (who : ℕ) (op : Op V) (m : Option Fault) (r : Report V) (w' : World V) → BeginsUnless same always w who (target op) m r w' → Does same always w who (Begin op) m r w'
does_begin same always w who op None r w' b = b
does_begin same always w who op (Some f) r w' b = b

module _ {V : Type 0} (same : V → V → Bool) (always : Bool) (laws : CallLaws {C = Id} {V = V} id_number same always) (w w' : World V) (holds : EngineHolds same always w) (step : Step V) (r : Report V) (intact : IsIntact same always w'.forest w'.machines w'.calls) (charged : IsCharged w'.forest) where
  by_event : (e : Event V) → step.event ≡ e → Does same always w step.worker e (misuse w step.worker e) r w' → IsEngineStep same always w step r w'
  by_event e q d =
      let P : Event V → Type 0 = λ x. Does same always w step.worker x (misuse w step.worker x) r w' in
      let does : Does same always w step.worker step.event (misuse w step.worker step.event) r w' = subst P (sym q) d in
      record { does = does; flight = in_flight same always laws w w' step.worker holds step.event r does; holds = (intact, charged) }

  -- what a registration does is a step of the engine
  pub register_is_step : step.event ≡ Register → Proceeds same always w 0 Register r w' → IsEngineStep same always w step r w'
  register_is_step e d = by_event Register e d

  -- what a begin does, or its refusal for its first cause, is a step of the engine
  pub begin_is_step : (op : Op V) (t : Target V) → step.event ≡ Begin op → t ≡ target op → Begun same always w step.worker t r w' → IsEngineStep same always w step r w'
  begin_is_step op t e q b =
      let P : Target V → Type 0 = λ x. Begun same always w step.worker x r w' in
      by_event (Begin op) e (does_begin same always w step.worker op (misuse w step.worker (Begin op)) r w' (subst P q b))

  -- what a further step does is a step of the engine
  pub go_is_step : (noise : Noise Id V) → step.event ≡ Go noise → Does same always w step.worker (Go noise) (misuse w step.worker (Go noise)) r w' → IsEngineStep same always w step r w'
  go_is_step noise e d = by_event (Go noise) e d

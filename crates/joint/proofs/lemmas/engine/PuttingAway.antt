-- A call on the tree that is over leaves its worker idle, and one that goes on stays in flight.
use Rattle.std.proofs.Common.{◌≡◌, Bool, true, false, List, refl, sym, ◌∙◌, ap, subst}
use Rattle.std.specs.Prelude.{Some, not, slice_get, slice_set, if◌then◌else◌}
use Rattle.congee.specs.declared.protocol.run.Step.{Step}
use Rattle.congee.specs.declared.protocol.machine.Machine.{Machine}
use Rattle.congee.specs.declared.protocol.machine.Move.{Move}
use Rattle.joint.specs.declared.engine.in_flight.InFlight.{InFlight}
use Rattle.joint.specs.declared.engine.in_flight.InFlight.TheVariants.{Idle, Walking}
use Rattle.joint.specs.declared.id.Id.{Id}
use Rattle.joint.specs.nodes.Nodes.{Nodes}
use Rattle.joint.specs.nodes.View.{id_number}
use Rattle.joint.specs.Reports.{told, is_in_flight}
use Rattle.joint.specs.engine.Intact.{IsIntact, WalkedOn, cleared, over_at}
use Rattle.joint.specs.engine.Laws.{CallLaws}
use Rattle.joint.specs.engine.Safety.{Walked}
use Rattle.joint.proofs.lemmas.engine.Collecting.{intact_at}
use Rattle.joint.proofs.lemmas.engine.Ending.{goes_on_after}
use Rattle.joint.proofs.lemmas.engine.Reported.{told_goes}
use Rattle.joint.proofs.lemmas.engine.Proceeding.{set_again}
use Rattle.joint.proofs.lemmas.engine.Walking as walking

module _ {V : Type 0} (same : V → V → Bool) (always : Bool) (laws : CallLaws {C = Id} {V = V} id_number same always) (s : Nodes V) (ms : List (Machine Id V)) (calls : List (InFlight V)) (intact : IsIntact same always s ms calls) (step : Step Id V)
    (on : slice_get calls step.who ≡ Some Walking) (d : Move V) (s1 : Nodes V) (between : List (Machine Id V)) (walked : Walked same always s ms step d s1 between) (s' : Nodes V) (ms' : List (Machine Id V)) (calls' : List (InFlight V)) (forest : s' ≡ s1)
    (machines : ms' ≡ (if is_in_flight (told d.outcome) then between else cleared between step.who)) (put : calls' ≡ (if is_in_flight (told d.outcome) then calls else slice_set calls step.who Idle)) where
  all_cleared : (b : Bool) → goes_on_after d.outcome ≡ b → (if b then between else cleared between step.who) ≡ cleared between step.who
  all_cleared true e = walking.uncleared same always laws s ms calls intact step on d s1 between walked e
  all_cleared false e = refl

  -- it is a step of the worker's call on the tree, after which a scan that is done leaves its place
  pub walked_on : WalkedOn same always s ms step d s' ms'
  walked_on =
      let P : Nodes V → Type 0 = λ x. WalkedOn same always s ms step d x ms' in
      subst P (sym forest) (record {
        between = between;
        walked = walked;
        machines = machines ∙ ap (λ b. if b then between else cleared between step.who) (told_goes d.outcome) ∙ all_cleared (goes_on_after d.outcome) refl;
      })

  put_by : (b : Bool) → (if b then calls else slice_set calls step.who Idle) ≡ slice_set calls step.who (if not b then Idle else Walking)
  put_by true = sym (set_again calls step.who Walking on)
  put_by false = refl

  -- the worker's call is idle once its call on the tree has ended, and on the tree until then
  pub calls_put : calls' ≡ slice_set calls step.who (if over_at (slice_get ms' step.who) then Idle else Walking)
  calls_put =
      put ∙ ap (λ b. if b then calls else slice_set calls step.who Idle) (told_goes d.outcome) ∙ put_by (goes_on_after d.outcome)
      ∙ ap (λ b. slice_set calls step.who (if b then Idle else Walking)) (sym (walking.over_now same always laws s ms calls intact step on d s' ms' walked_on))

  -- the machine is intact
  pub still_intact : IsIntact same always s' ms' calls'
  still_intact = intact_at same always s' s' ms' ms' _ calls' refl refl calls_put (walking.walked_on same always laws s ms calls intact step on d s' ms' walked_on)

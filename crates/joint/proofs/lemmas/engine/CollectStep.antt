-- A step of the collector under the tree.
use Rattle.std.proofs.Common.{◌≡◌, ℕ, Bool, List, ◌∷◌, sym, subst}
use Rattle.crossbeam_epoch.specs.declared.world.report.Event.{Event}
use Rattle.crossbeam_epoch.specs.declared.world.report.Report.{Report}
use Rattle.crossbeam_epoch.specs.world.Progress.{Moves}
use Rattle.crossbeam_epoch.specs.world.Reach.{Moment, marks_of, moment, step_act, HasMoments}
use Rattle.crossbeam_epoch.specs.world.Steps.{IsReport, after}
use Rattle.congee.specs.declared.protocol.machine.Machine.{Machine}
use Rattle.congee.specs.protocol.Answers.{SameMap}
use Rattle.congee.specs.protocol.Bounds.{Within}
use Rattle.congee.specs.protocol.Destroys.{Destroys}
use Rattle.congee.specs.protocol.Play.{Settled}
use Rattle.joint.specs.declared.id.Id.{Id}
use Rattle.joint.specs.declared.nodes.slot.Slot.{Slot}
use Rattle.joint.specs.nodes.Nodes.{Nodes, nodes, IsBeside, IsCharged}
use Rattle.joint.specs.engine.Laws.{CellLaws, CallLaws}
use Rattle.joint.specs.engine.Safety.{IsSafe, Rests, Collected}
use Rattle.joint.specs.nodes.Slots.{slot_names}
use Rattle.joint.specs.nodes.View.{view, id_number}
use Rattle.joint.proofs.lemmas.engine.Collected.{collected, destroys, spares_all}
use Rattle.joint.proofs.lemmas.engine.Filing.{filed_collected}
use Rattle.joint.proofs.lemmas.nodes.SlotViews.{slot_view}

-- a step of the collector, of a worker with no call on the tree, leaves the pairs; what goes waited, and no call has it
pub collected_beside : {V : Type 0} (same : V → V → Bool) (always : Bool) → CellLaws {T = Slot V} (Unit {0}) slot_names → CallLaws {C = Id} {V = V} id_number same always
    → (s s' : Nodes V) (ms : List (Machine Id V)) (who : ℕ) (event : Event) (r : Report) → IsSafe same always s ms → Rests ms who
    → IsReport s.collector who event r → s'.collector ≡ after s.collector who event r.outcome → Moves s.collector who r.called s'.collector
    → ((h : List Moment) → HasMoments slot_names h s.collector → HasMoments slot_names (moment slot_names (step_act s.collector who event r) s'.collector ∷ h) s'.collector) → IsBeside s s' → IsCharged s' → Collected same always s ms who event r s'
collected_beside {V} same always cells calls s s' ms who event r i rests report e m told beside charged =
    let t : HasMoments slot_names (moment slot_names (step_act s.collector who event r) s'.collector ∷ i.sound.past) s'.collector = told i.sound.past i.sound.sound.tells in
    let gone : Destroys id_number (nodes s) ms (nodes s') = destroys slot_names view slot_view id_number same always cells calls i.sound.top i.sound.past s.collector ms i.sound.sound who (step_act s.collector who event r) s'.collector (cells.step_by s.collector who event r) t r.called m rests in
    let spared : Settled id_number same always (nodes s') ms × SameMap (nodes s) (nodes s') = spares_all slot_names view slot_view id_number same always cells calls i.sound.top i.sound.past s.collector ms i.sound.sound who (step_act s.collector who event r) s'.collector (cells.step_by s.collector who event r) t r.called m rests in
    record {
      safe = record {
        sound = record {
          top = i.sound.top;
          past = moment slot_names (step_act s.collector who event r) s'.collector ∷ i.sound.past;
          sound = collected slot_names view slot_view id_number same always cells calls i.sound.top i.sound.past s.collector ms i.sound.sound who (step_act s.collector who event r) s'.collector (cells.step_by s.collector who event r) t r.called m rests;
        };
        within = subst (λ (k : ℕ). Within k (nodes s')) (sym beside.versions) (calls.within s.version_max (nodes s) ms (nodes s') gone i.within);
      };
      report = report;
      state = e;
      moves = m;
      map = spared.1;
      destroys = gone;
      beside = beside;
      charged = charged;
      filed = filed_collected cells s s' who event r (marks_of i.sound.past) i.sound.sound.tells.fits report e m;
    }

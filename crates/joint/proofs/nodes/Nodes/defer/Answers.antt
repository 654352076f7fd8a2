use Rattle.std.proofs.Common.{◌≡◌, refl, ap, sym, subst}
use Rattle.crossbeam_epoch.specs.world.History.{Deferred}
use Rattle.crossbeam_epoch.specs.world.Reach.{Quiet, Marked, HasMoments}
use Rattle.joint.specs.nodes.Slots.{slot_names}
use Rattle.std.specs.Prelude.{MatchResult, MatchOption, None, Some, length}
use Rattle.crossbeam_epoch.specs.declared.fault.Fault.{Fault}
use Rattle.crossbeam_epoch.specs.world.Machine.{place}
use Rattle.crossbeam_epoch.specs.world.Steps.{destroy_fault}
use Rattle.joint.proofs.lemmas.nodes.Accounts.{kept_same}
use Rattle.joint.proofs.lemmas.nodes.Registering.{deferred_orderly, deferred_store, told_at}
use Rattle.joint.proofs.nodes.Nodes.defer.Goals as goal

pub invariant_of-self : goal.invariant_of-self
invariant_of-self g c =
    kept_same _ _ _ c.self.invariant
    (deferred_orderly c.self.inside.collector c.self.invariant.orderly c.args.who _ c.defer_destroy.result c.defer_destroy.new.self c.defer_destroy.ensures.state c.defer_destroy.ensures.back)
    (deferred_store c.self.inside.collector c.self.invariant.orderly c.args.who _ c.defer_destroy.result c.defer_destroy.new.self c.defer_destroy.ensures.state c.defer_destroy.ensures.back) refl refl

pub returns-clause-fault : goal.returns-clause-fault
returns-clause-fault g c =
    subst (λ s. MatchResult c.defer_destroy.result (λ t. destroy_fault s c.args.who c.args.node.name ≡ None) (λ e. MatchOption (destroy_fault s c.args.who c.args.node.name) ((e ≡ Fault.Memory) × (length (place s c.args.who).bag ≡ 64) × (s.room ≡ 0)) (λ f. e ≡ f)))
    (ap (λ x. x.collector) c.self.view_is) c.defer_destroy.ensures.fault

pub returns-clause-told : goal.returns-clause-told
returns-clause-told g c = λ h t. told_at slot_names (λ t. Marked (Deferred t (Some c.args.node.name))) Quiet c.self.inside.collector c.defer_destroy.new.self c.defer_destroy.result c.defer_destroy.ensures.told h (subst (λ s. HasMoments slot_names h s) (sym (ap (λ x. x.collector) c.self.view_is)) t)

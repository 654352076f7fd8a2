use Rattle.std.proofs.Common.{◌<◌, ℕ, false, length, refl, sym, ◌∙◌, ap, subst}
use Rattle.std.specs.Prelude.{◌&&◌, None, Some, Ok, Err, is_some}
use Rattle.crossbeam_epoch.specs.world.Machine.{place}
use Rattle.joint.specs.declared.refusal.Refusal.TheVariants.{Count}
use Rattle.joint.specs.engine.Log.{no_log}
use Rattle.joint.specs.nodes.Nearest.{IsNearest}
use Rattle.joint.specs.nodes.Nodes.{nodes}
use Rattle.joint.proofs.lemmas.calls.Replied.{map_stands}
use Rattle.joint.proofs.lemmas.engine.Looking.{look_unknown, look_busy, look_told, no_copy}
use Rattle.joint.proofs.lemmas.engine.Proceeding.{word_is}
use Rattle.joint.specs.engine.Standing.{the_pairs}
use Rattle.joint.proofs.engine.Engine.nearest.Goals as goal

pub is_busy-requires : goal.is_busy-requires
is_busy-requires g c = subst (λ (n : ℕ). c.args.who < n) (ap (λ s. length s.nodes.collector.table) c.self.view_is ∙ c.requires.table) (c.is_registered.ensures.inside c.if-not-is_registered.false)

pub returns-then-not-is_registered : goal.returns-then-not-is_registered
returns-then-not-is_registered g c = look_unknown g.P.Payload.always_copies (record { forest = c.args.self.now.nodes; machines = c.args.self.now.machines.items; calls = c.args.self.now.calls.items; log = no_log }) c.args.who (λ m pair. IsNearest m c.args.near pair) (sym (c.is_registered.ensures.value ∙ (ap (λ s. (place s.nodes.collector c.args.who).registered) c.self.view_is)) ∙ c.if-not-is_registered.true)

pub returns-then-is_busy : goal.returns-then-is_busy
returns-then-is_busy g c = look_busy g.P.Payload.always_copies (record { forest = c.args.self.now.nodes; machines = c.args.self.now.machines.items; calls = c.args.self.now.calls.items; log = no_log }) c.args.who (λ m pair. IsNearest m c.args.near pair) (sym (c.is_registered.ensures.value ∙ (ap (λ s. (place s.nodes.collector c.args.who).registered) c.self.view_is)) ∙ c.if-not-is_registered.false) (sym c.is_busy.ensures ∙ c.if-is_busy.true)

pub returns-in_default : goal.returns-in_default
returns-in_default g c = look_told g.P.Payload.always_copies (record { forest = c.args.self.now.nodes; machines = c.args.self.now.machines.items; calls = c.args.self.now.calls.items; log = no_log }) c.args.who (λ m pair. IsNearest m c.args.near pair) (sym (c.is_registered.ensures.value ∙ (ap (λ s. (place s.nodes.collector c.args.who).registered) c.self.view_is)) ∙ c.if-not-is_registered.false) (sym c.is_busy.ensures ∙ c.if-is_busy.false) (word_is _ _ _ (c.is_pinned.ensures ∙ ap (λ s. (place s.nodes.collector c.args.who).registered && is_some (place s.nodes.collector c.args.who).word) c.self.view_is) (sym (c.is_registered.ensures.value ∙ (ap (λ s. (place s.nodes.collector c.args.who).registered) c.self.view_is)) ∙ c.if-not-is_registered.false) ∙ c.if-not-is_pinned.false) (Ok None) (c.in_default.ensures (the_pairs (nodes c.args.self.now.nodes)) (map_stands (nodes c.args.self.now.nodes)))

pub returns-in-Some-copy : goal.returns-in-Some-copy
returns-in-Some-copy g c =
    let m = the_pairs (nodes c.args.self.now.nodes) in
    let P : g.row.P.Denot → Type 0 = λ v. IsNearest m c.args.near (Some (c.in-Some.key, v)) in
    look_told g.P.Payload.always_copies (record { forest = c.args.self.now.nodes; machines = c.args.self.now.machines.items; calls = c.args.self.now.calls.items; log = no_log }) c.args.who (λ m pair. IsNearest m c.args.near pair) (sym (c.is_registered.ensures.value ∙ (ap (λ s. (place s.nodes.collector c.args.who).registered) c.self.view_is)) ∙ c.if-not-is_registered.false) (sym c.is_busy.ensures ∙ c.if-is_busy.false) (word_is _ _ _ (c.is_pinned.ensures ∙ ap (λ s. (place s.nodes.collector c.args.who).registered && is_some (place s.nodes.collector c.args.who).word) c.self.view_is) (sym (c.is_registered.ensures.value ∙ (ap (λ s. (place s.nodes.collector c.args.who).registered) c.self.view_is)) ∙ c.if-not-is_registered.false) ∙ c.if-not-is_pinned.false) _ (subst P (sym c.in-Some-copy.ensures.equal) (c.in-Some.ensures m (map_stands (nodes c.args.self.now.nodes))))

pub returns-in-None : goal.returns-in-None
returns-in-None g c = look_told g.P.Payload.always_copies (record { forest = c.args.self.now.nodes; machines = c.args.self.now.machines.items; calls = c.args.self.now.calls.items; log = no_log }) c.args.who (λ m pair. IsNearest m c.args.near pair) (sym (c.is_registered.ensures.value ∙ (ap (λ s. (place s.nodes.collector c.args.who).registered) c.self.view_is)) ∙ c.if-not-is_registered.false) (sym c.is_busy.ensures ∙ c.if-is_busy.false) (word_is _ _ _ (c.is_pinned.ensures ∙ ap (λ s. (place s.nodes.collector c.args.who).registered && is_some (place s.nodes.collector c.args.who).word) c.self.view_is) (sym (c.is_registered.ensures.value ∙ (ap (λ s. (place s.nodes.collector c.args.who).registered) c.self.view_is)) ∙ c.if-not-is_registered.false) ∙ c.if-not-is_pinned.false) (Err Count) (refl, no_copy g.row.P.Denot _ c.in-None.ensures.always, ((c.in-Some.key, c.in-Some.value.now), c.in-Some.ensures (the_pairs (nodes c.args.self.now.nodes)) (map_stands (nodes c.args.self.now.nodes))))

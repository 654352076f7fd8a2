use Rattle.joint.specs.engine.Log.{no_log}
use Rattle.std.proofs.Common.{◌≡◌, refl, ◌∙◌, ap}
use Rattle.std.specs.Prelude.{◌&&◌, is_some}
use Rattle.crossbeam_epoch.specs.world.Machine.{place}
use Rattle.joint.specs.declared.engine.in_flight.InFlight.TheVariants.{Idle}
use Rattle.joint.proofs.lemmas.engine.Collecting.{call_inside, intact_at}
use Rattle.joint.proofs.lemmas.engine.Reserving.{reserved}
use Rattle.joint.proofs.lemmas.engine.Starting.{reader_may}
use Rattle.joint.proofs.lemmas.engine.Proceeding.{unpinned, ends_at_once, enters, reserves, word_is}
use Rattle.joint.proofs.engine.Engine.begin_on_tree.Goals as goal

pub set_call-requires : goal.set_call-requires
set_call-requires g c = call_inside g.P.Payload.same_as g.P.Payload.always_copies c.args.self.now.nodes c.args.self.now.machines.items c.args.self.now.calls.items c.requires.intact c.args.who Idle c.requires.idle

pub returns-then-not-is_pinned-clause-begun : goal.returns-then-not-is_pinned-clause-begun
returns-then-not-is_pinned-clause-begun g c =
    let w : is_some (place c.args.self.now.nodes.collector c.args.who).word ≡ c.is_pinned.result = word_is _ _ _ (c.is_pinned.ensures ∙ ap (λ s. (place s.nodes.collector c.args.who).registered && is_some (place s.nodes.collector c.args.who).word) c.self.view_is) c.requires.registered in
    unpinned g.P.Payload.same_as g.P.Payload.always_copies (record { forest = c.args.self.now.nodes; machines = c.args.self.now.machines.items; calls = c.args.self.now.calls.items; log = no_log }) c.args.who c.requires.registered c.requires.idle c.args.op c.refused.result (w ∙ c.if-not-is_pinned.true) c.refused.ensures

pub returns-in-None-clause-begun : goal.returns-in-None-clause-begun
returns-in-None-clause-begun g c =
    let w : is_some (place c.args.self.now.nodes.collector c.args.who).word ≡ c.is_pinned.result = word_is _ _ _ (c.is_pinned.ensures ∙ ap (λ s. (place s.nodes.collector c.args.who).registered && is_some (place s.nodes.collector c.args.who).word) c.self.view_is) c.requires.registered in
    ends_at_once g.P.Payload.same_as g.P.Payload.always_copies (record { forest = c.args.self.now.nodes; machines = c.args.self.now.machines.items; calls = c.args.self.now.calls.items; log = no_log }) c.args.who c.requires.registered c.requires.idle c.args.op c.report.result (w ∙ c.if-not-is_pinned.false) (c.way_of.ensures.none c.in-None.is) c.report.ensures

pub returns-in-Reserve-clause-intact : goal.returns-in-Reserve-clause-intact
returns-in-Reserve-clause-intact g c =
    let w : is_some (place c.args.self.now.nodes.collector c.args.who).word ≡ c.is_pinned.result = word_is _ _ _ (c.is_pinned.ensures ∙ ap (λ s. (place s.nodes.collector c.args.who).registered && is_some (place s.nodes.collector c.args.who).word) c.self.view_is) c.requires.registered in
    intact_at g.P.Payload.same_as g.P.Payload.always_copies _ _ _ _ _ _ c.set_call.ensures.nodes (ap (λ v. v.items) c.set_call.ensures.machines) c.set_call.ensures.calls
    (reserved g.P.Payload.same_as g.P.Payload.always_copies c.args.self.now.nodes c.args.self.now.machines.items c.args.self.now.calls.items c.requires.intact c.args.who c.args.op c.requires.idle c.requires.registered (w ∙ c.if-not-is_pinned.false) (c.way_of.ensures.reserve c.in-Reserve.is))

pub returns-in-Reserve-clause-begun : goal.returns-in-Reserve-clause-begun
returns-in-Reserve-clause-begun g c =
    let w : is_some (place c.args.self.now.nodes.collector c.args.who).word ≡ c.is_pinned.result = word_is _ _ _ (c.is_pinned.ensures ∙ ap (λ s. (place s.nodes.collector c.args.who).registered && is_some (place s.nodes.collector c.args.who).word) c.self.view_is) c.requires.registered in
    reserves g.P.Payload.same_as g.P.Payload.always_copies (record { forest = c.args.self.now.nodes; machines = c.args.self.now.machines.items; calls = c.args.self.now.calls.items; log = no_log }) c.args.who c.requires.registered c.requires.idle c.args.op c.report-in-Reserve.result (record { forest = c.set_call.new.self.nodes; machines = c.set_call.new.self.machines.items; calls = c.set_call.new.self.calls.items; log = no_log }) (w ∙ c.if-not-is_pinned.false) (c.way_of.ensures.reserve c.in-Reserve.is) c.set_call.ensures.nodes
    (ap (λ v. v.items) c.set_call.ensures.machines) c.set_call.ensures.calls refl c.report-in-Reserve.ensures

pub returns-in-Walk-clause-begun : goal.returns-in-Walk-clause-begun
returns-in-Walk-clause-begun g c =
    let w : is_some (place c.args.self.now.nodes.collector c.args.who).word ≡ c.is_pinned.result = word_is _ _ _ (c.is_pinned.ensures ∙ ap (λ s. (place s.nodes.collector c.args.who).registered && is_some (place s.nodes.collector c.args.who).word) c.self.view_is) c.requires.registered in
    let reads = c.way_of.ensures.walk c.in-Walk.is in
    enters g.P.Payload.same_as g.P.Payload.always_copies (record { forest = c.args.self.now.nodes; machines = c.args.self.now.machines.items; calls = c.args.self.now.calls.items; log = no_log }) c.args.who c.requires.registered c.requires.idle c.args.op c.report-in-Walk.result (record { forest = c.start.new.self.nodes; machines = c.start.new.self.machines.items; calls = c.start.new.self.calls.items; log = no_log }) (w ∙ c.if-not-is_pinned.false) reads.0 reads.1 c.start.ensures.nodes c.start.ensures.machines c.start.ensures.calls refl c.report-in-Walk.ensures

pub start-requires-clause-may : goal.start-requires-clause-may
start-requires-clause-may g c =
    let w : is_some (place c.args.self.now.nodes.collector c.args.who).word ≡ c.is_pinned.result = word_is _ _ _ (c.is_pinned.ensures ∙ ap (λ s. (place s.nodes.collector c.args.who).registered && is_some (place s.nodes.collector c.args.who).word) c.self.view_is) c.requires.registered in
    reader_may g.P.Payload.same_as g.P.Payload.always_copies c.args.self.now.nodes c.args.self.now.machines.items c.args.self.now.calls.items c.requires.intact c.args.who c.requires.idle c.args.op c.requires.registered (w ∙ c.if-not-is_pinned.false) (c.way_of.ensures.walk c.in-Walk.is).1

use Rattle.std.proofs.Common.{◌≡◌, ◌<◌, arith, length, refl, rules, sym, ◌∙◌, ap, subst}
use Rattle.std.specs.Vec.{vec_len}
use Rattle.std.proofs.lemmas.Option.{slice_get_read, slice_get_within}
use Rattle.joint.specs.engine.Safety.{IsSafe, Runs, retiring_at}
use Rattle.joint.proofs.lemmas.engine.TreeStep.{protocol, same_length, stepped_safe}
use Rattle.joint.proofs.lemmas.engine.Walk.{owed, walked, walked_over}
use Rattle.joint.proofs.engine.Engine.walk.Goals as goal

pub index-requires : goal.index-requires
index-requires g c =
    let l : c.args.who < length c.args.self.now.machines.items = slice_get_within c.args.self.now.machines.items c.args.who c.requires.runs.0 c.requires.runs.1 in
    let v : vec_len c.args.self.now.machines ≡ length c.args.self.now.machines.items = search rules in
    omega (arith, l, v)

pub step_of-moved-requires-clause-protocol : goal.step_of-moved-requires-clause-protocol
step_of-moved-requires-clause-protocol g c =
    let S : _ → Type 0 = λ xs. IsSafe g.P.Payload.same_as g.P.Payload.always_copies c.args.self.now.nodes xs in
    let R : _ → Type 0 = λ xs. Runs xs c.args.who in
    let safe = subst S (sym c.deref_mut.ensures.value) c.requires.safe in
    let runs = subst R (sym c.deref_mut.ensures.value) c.requires.runs in
    protocol g.P.Payload.same_as g.P.Payload.always_copies c.args.self.now.nodes.collector c.deref_mut.result.now safe.sound

pub hand_over-requires : goal.hand_over-requires
hand_over-requires g c =
    let S : _ → Type 0 = λ xs. IsSafe g.P.Payload.same_as g.P.Payload.always_copies c.args.self.now.nodes xs in
    let R : _ → Type 0 = λ xs. Runs xs c.args.who in
    let safe = subst S (sym c.deref_mut.ensures.value) c.requires.safe in
    let runs = subst R (sym c.deref_mut.ensures.value) c.requires.runs in
    owed g.P.Payload.same_as g.P.Payload.always_copies c.cell_laws.ensures c.args.self.now.nodes c.step_of-moved.new.store c.args.self.now.machines.items c.deref_mut.result.now c.args.self.now.machines.items c.step_of-moved.new.machines c.args.self.now.machines.len
    (record { who = c.args.who; noise = c.args.noise }) c.step_of-moved.result c.deref_mut.ensures.value refl c.deref_mut.ensures.len (same_length g.P.Payload.same_as g.P.Payload.always_copies c.cell_laws.ensures c.call_laws.ensures c.args.self.now.nodes c.step_of-moved.new.store (c.leaves.ensures c.args.self.now.nodes) c.deref_mut.result.now c.step_of-moved.new.machines (record { who = c.args.who; noise = c.args.noise }) c.step_of-moved.result safe runs c.step_of-moved.ensures.rest c.step_of-moved.ensures.within c.step_of-moved.ensures.plays) c.step_of-moved.ensures.plays c.step_of-moved.ensures.rest (stepped_safe g.P.Payload.same_as g.P.Payload.always_copies c.cell_laws.ensures c.call_laws.ensures c.args.self.now.nodes c.step_of-moved.new.store (c.leaves.ensures c.args.self.now.nodes) c.deref_mut.result.now c.step_of-moved.new.machines (record { who = c.args.who; noise = c.args.noise }) c.step_of-moved.result safe runs c.step_of-moved.ensures.rest c.step_of-moved.ensures.within c.step_of-moved.ensures.plays)
    c.in-Some.node (c.in-Some.ensures ∙ ap retiring_at (sym (slice_get_read c.args.self.now.machines.items (length c.args.self.now.machines.items) c.args.who c.index.result.now refl (slice_get_within c.args.self.now.machines.items c.args.who c.requires.runs.0 c.requires.runs.1) c.index.ensures)))

pub returns-in-Some-clause-walked : goal.returns-in-Some-clause-walked
returns-in-Some-clause-walked g c =
    let S : _ → Type 0 = λ xs. IsSafe g.P.Payload.same_as g.P.Payload.always_copies c.args.self.now.nodes xs in
    let R : _ → Type 0 = λ xs. Runs xs c.args.who in
    let safe = subst S (sym c.deref_mut.ensures.value) c.requires.safe in
    let runs = subst R (sym c.deref_mut.ensures.value) c.requires.runs in
    walked_over g.P.Payload.same_as g.P.Payload.always_copies c.cell_laws.ensures c.args.self.now.nodes c.step_of-moved.new.store c.args.self.now.machines.items c.deref_mut.result.now c.args.self.now.machines.items c.step_of-moved.new.machines c.args.self.now.machines.len
    (record { who = c.args.who; noise = c.args.noise }) c.step_of-moved.result c.deref_mut.ensures.value refl c.deref_mut.ensures.len (same_length g.P.Payload.same_as g.P.Payload.always_copies c.cell_laws.ensures c.call_laws.ensures c.args.self.now.nodes c.step_of-moved.new.store (c.leaves.ensures c.args.self.now.nodes) c.deref_mut.result.now c.step_of-moved.new.machines (record { who = c.args.who; noise = c.args.noise }) c.step_of-moved.result safe runs c.step_of-moved.ensures.rest c.step_of-moved.ensures.within c.step_of-moved.ensures.plays) c.step_of-moved.ensures.plays c.step_of-moved.ensures.rest (stepped_safe g.P.Payload.same_as g.P.Payload.always_copies c.cell_laws.ensures c.call_laws.ensures c.args.self.now.nodes c.step_of-moved.new.store (c.leaves.ensures c.args.self.now.nodes) c.deref_mut.result.now c.step_of-moved.new.machines (record { who = c.args.who; noise = c.args.noise }) c.step_of-moved.result safe runs c.step_of-moved.ensures.rest c.step_of-moved.ensures.within c.step_of-moved.ensures.plays)
    c.in-Some.node (c.in-Some.ensures ∙ ap retiring_at (sym (slice_get_read c.args.self.now.machines.items (length c.args.self.now.machines.items) c.args.who c.index.result.now refl (slice_get_within c.args.self.now.machines.items c.args.who c.requires.runs.0 c.requires.runs.1) c.index.ensures))) c.hand_over.new.self.nodes c.hand_over.new.self.machines.items (ap (λ v. v.items) c.hand_over.ensures.machines) c.hand_over.ensures.state c.requires.safe c.hand_over.ensures.safe

pub returns-in_default-clause-walked : goal.returns-in_default-clause-walked
returns-in_default-clause-walked g c =
    let S : _ → Type 0 = λ xs. IsSafe g.P.Payload.same_as g.P.Payload.always_copies c.args.self.now.nodes xs in
    let R : _ → Type 0 = λ xs. Runs xs c.args.who in
    let safe = subst S (sym c.deref_mut.ensures.value) c.requires.safe in
    let runs = subst R (sym c.deref_mut.ensures.value) c.requires.runs in
    walked g.P.Payload.same_as g.P.Payload.always_copies c.cell_laws.ensures c.args.self.now.nodes c.step_of-moved.new.store c.args.self.now.machines.items c.deref_mut.result.now c.args.self.now.machines.items c.step_of-moved.new.machines c.args.self.now.machines.len
    (record { who = c.args.who; noise = c.args.noise }) c.step_of-moved.result c.deref_mut.ensures.value refl c.deref_mut.ensures.len (same_length g.P.Payload.same_as g.P.Payload.always_copies c.cell_laws.ensures c.call_laws.ensures c.args.self.now.nodes c.step_of-moved.new.store (c.leaves.ensures c.args.self.now.nodes) c.deref_mut.result.now c.step_of-moved.new.machines (record { who = c.args.who; noise = c.args.noise }) c.step_of-moved.result safe runs c.step_of-moved.ensures.rest c.step_of-moved.ensures.within c.step_of-moved.ensures.plays) c.step_of-moved.ensures.plays c.step_of-moved.ensures.rest (stepped_safe g.P.Payload.same_as g.P.Payload.always_copies c.cell_laws.ensures c.call_laws.ensures c.args.self.now.nodes c.step_of-moved.new.store (c.leaves.ensures c.args.self.now.nodes) c.deref_mut.result.now c.step_of-moved.new.machines (record { who = c.args.who; noise = c.args.noise }) c.step_of-moved.result safe runs c.step_of-moved.ensures.rest c.step_of-moved.ensures.within c.step_of-moved.ensures.plays)
    (c.in_default.ensures ∙ ap retiring_at (sym (slice_get_read c.args.self.now.machines.items (length c.args.self.now.machines.items) c.args.who c.index.result.now refl (slice_get_within c.args.self.now.machines.items c.args.who c.requires.runs.0 c.requires.runs.1) c.index.ensures)))

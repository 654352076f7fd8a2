use Rattle.std.proofs.Common.{ℕ, refl, sym, subst}
use Rattle.congee.specs.Keys.{key_bytes}
use Rattle.congee.specs.protocol.Bounds.{Within}
use Rattle.congee.specs.protocol.Steps.{next_phase_of}
use Rattle.congee.proofs.lemmas.protocol.Steps.{stepped_keeps}
use Rattle.congee.proofs.lemmas.protocol.Origins.{stepped_origin}
use Rattle.congee.proofs.lemmas.protocol.Bounds.{step_within}
use Rattle.congee.proofs.protocol.machine.Machine.next.Goals as goal

pub returns-clause-keeps : goal.returns-clause-keeps
returns-clause-keeps g c = stepped_keeps _ _ _ (g.S.Store.version_max c.args.store.now) (g.S.Store.refuses c.args.store.now) g.met.P.Payload.same_is_equal _ _ c.args.noise.fail c.args.noise.answer _ _ _ (record {
  root = c.step_phase-report.ensures.root;
  key = c.step_phase-report.ensures.key;
  kind = c.step_phase-report.ensures.kind;
  step = c.step_phase-report.ensures.step;
})

pub returns-clause-origin : goal.returns-clause-origin
returns-clause-origin g c = stepped_origin g.C.NodeName.number g.P.Payload.same_as g.P.Payload.always_copies (g.S.Store.version_max c.args.store.now) (g.S.Store.refuses c.args.store.now) c.args.self.now (g.S.Store.heap c.args.store.now) c.args.noise.fail c.args.noise.answer
    c.step_phase-report.new.self.given (next_phase_of c.step_phase-report.new.self.phase c.step_phase-report.result) c.step_phase-report.new.self (g.S.Store.heap c.step_phase-report.new.store) refl c.step_phase-report.ensures.step

pub returns-clause-within : goal.returns-clause-within
returns-clause-within g c =
    let P : ℕ → Type 0 = λ x. Within x (g.S.Store.heap c.step_phase-report.new.store) in
    subst P (sym c.step_phase-report.ensures.limit) (step_within g.C.NodeName.number (g.S.Store.version_max c.args.store.now) (g.S.Store.heap c.args.store.now) (g.S.Store.heap c.step_phase-report.new.store) c.requires.within
    g.P.Payload.same_as g.P.Payload.always_copies (g.S.Store.refuses c.args.store.now) c.args.self.now.root (key_bytes c.args.self.now.key) c.args.self.now.kind c.args.noise.fail c.args.noise.answer c.args.self.now.given c.args.self.now.phase c.step_phase-report.new.self.given (next_phase_of c.step_phase-report.new.self.phase c.step_phase-report.result)
    c.requires.may c.step_phase-report.ensures.step)

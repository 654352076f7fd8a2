use Rattle.std.proofs.Common.{◌≡◌, Bool, true, false, refl, ◌∙◌, sym, ap}
use Rattle.std.specs.Prelude.{slice_get, ◌&&◌}
use Rattle.congee.specs.protocol.State.{is_pending}
use Rattle.joint.specs.engine.Journaling.{is_writing}
use Rattle.joint.proofs.lemmas.nodes.TableLookups.{found_at, found_none}
use Rattle.joint.proofs.engine.Engine.is_writing.Goals as goal

and_true : (b : Bool) → b ≡ (b && true)
and_true true = refl
and_true false = refl

and_false : (b : Bool) → false ≡ (b && false)
and_false true = refl
and_false false = refl

pub returns-then-may_write : goal.returns-then-may_write
returns-then-may_write g c =
    c.is_pending.ensures ∙ and_true (is_pending c.in-Some.machine.now.phase) ∙ ap (λ b. is_pending c.in-Some.machine.now.phase && b) (sym c.if-may_write.true ∙ c.may_write.ensures)
    ∙ ap is_writing (found_at c.deref.result.now c.args.who c.in-Some.machine.now c.in-Some.ensures.lookup.0 c.in-Some.ensures.lookup.1 ∙ ap (λ ms. slice_get ms c.args.who) c.deref.ensures.value)

pub returns-else-may_write : goal.returns-else-may_write
returns-else-may_write g c =
    c.if-may_write.false ∙ and_false (is_pending c.in-Some.machine.now.phase) ∙ ap (λ b. is_pending c.in-Some.machine.now.phase && b) (sym c.if-may_write.false ∙ c.may_write.ensures)
    ∙ ap is_writing (found_at c.deref.result.now c.args.who c.in-Some.machine.now c.in-Some.ensures.lookup.0 c.in-Some.ensures.lookup.1 ∙ ap (λ ms. slice_get ms c.args.who) c.deref.ensures.value)

pub returns-in-None : goal.returns-in-None
returns-in-None g c = ap is_writing (found_none c.deref.result.now c.args.who c.in-None.ensures.lookup.0 ∙ ap (λ ms. slice_get ms c.args.who) c.deref.ensures.value)

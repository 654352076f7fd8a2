use Rattle.std.proofs.Common.{◌≡◌, ap, ◌∙◌, Result, Ok}
use Rattle.optimistic.specs.declared.face.refusal.Refusal.{Refusal}
use Rattle.optimistic.specs.declared.face.writes.Written.{Written}
use Rattle.optimistic.specs.declared.face.writes.Written.TheVariants.{Differs}
use Rattle.optimistic.proofs.lemmas.face.Knowing.{saw_trans, differs_saw, refused_saw}
use Rattle.optimistic.proofs.face.worker.Worker.compute_if_present.Goals as goal

pub loop-preserved-in-Ok-Differs : goal.loop-preserved-in-Ok-Differs
loop-preserved-in-Ok-Differs g c = let same : c.try_write.result ≡ Ok (Differs c.in-Ok-Differs.field-0-0) = c.in-Ok-Differs.is ∙ ap (λ (z : Written). let r : Result Written Refusal = Ok z in r) c.in-Ok-Differs.field-0-is in (
  c.ask-answer.ensures.callable,
  saw_trans c.args.self.now c.loop.self c.try_write.new.self c.loop.invariant.1 (saw_trans c.loop.self c.get.new.self c.try_write.new.self c.get.ensures.0.0 (differs_saw c.exchange.result c.get.new.self c.try_write.new.self c.try_write.result c.in-Ok-Differs.field-0-0 same c.try_write.ensures.written)),
)

pub loop-preserved : goal.loop-preserved
loop-preserved g c = (
  c.ask-answer.ensures.callable,
  saw_trans c.args.self.now c.loop.self c.try_write.new.self c.loop.invariant.1 (saw_trans c.loop.self c.get.new.self c.try_write.new.self c.get.ensures.0.0 (refused_saw c.exchange.result c.get.new.self c.try_write.new.self c.try_write.result c.in-Err-Again.field-0 c.in-Err-Again.is c.try_write.ensures.written)),
)

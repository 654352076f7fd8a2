use Rattle.std.proofs.Common.{◌∙◌, ap}
use Rattle.std.specs.Prelude.{slice_get}
use Rattle.joint.specs.engine.Journaling.{reply_at}
use Rattle.joint.proofs.lemmas.nodes.TableLookups.{found_at, found_none}
use Rattle.joint.proofs.engine.Engine.reply_held.Goals as goal

pub returns-in-Some : goal.returns-in-Some
returns-in-Some g c = record { always = λ a. c.copy_held.ensures.always a ∙ c.reply.ensures ∙ ap reply_at (found_at c.deref.result.now c.args.who c.in-Some.machine.now c.in-Some.ensures.lookup.0 c.in-Some.ensures.lookup.1 ∙ ap (λ ms. slice_get ms c.args.who) c.deref.ensures.value) }

pub returns-in-None : goal.returns-in-None
returns-in-None g c = record { always = λ a. ap reply_at (found_none c.deref.result.now c.args.who c.in-None.ensures.lookup.0 ∙ ap (λ ms. slice_get ms c.args.who) c.deref.ensures.value) }

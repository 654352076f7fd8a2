use Rattle.std.proofs.Common.{◌∙◌, ap}
use Rattle.std.specs.Prelude.{slice_get}
use Rattle.joint.specs.engine.Journaling.{asks_at}
use Rattle.joint.proofs.lemmas.nodes.TableLookups.{found_at, found_none}
use Rattle.joint.proofs.engine.Engine.asks.Goals as goal

pub returns-in-Some : goal.returns-in-Some
returns-in-Some g c = c.asks.ensures ∙ ap asks_at (found_at c.deref.result.now c.args.who c.in-Some.machine.now c.in-Some.ensures.lookup.0 c.in-Some.ensures.lookup.1 ∙ ap (λ ms. slice_get ms c.args.who) c.deref.ensures.value)

pub returns-in-None : goal.returns-in-None
returns-in-None g c = ap asks_at (found_none c.deref.result.now c.args.who c.in-None.ensures.lookup.0 ∙ ap (λ ms. slice_get ms c.args.who) c.deref.ensures.value)

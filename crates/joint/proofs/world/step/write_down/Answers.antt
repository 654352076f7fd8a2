use Rattle.std.proofs.Common.{sym, ◌∙◌, ap}
use Rattle.std.specs.Prelude.{◌++◌, is_some}
use Rattle.joint.specs.engine.Journaling.{in_list}
use Rattle.joint.proofs.world.step.write_down.Goals as goal

pub returns-in-Some : goal.returns-in-Some
returns-in-Some g c = (c.entry.result, (c.entry.ensures, (ap is_some (sym c.in-Some.is), c.append.ensures ∙ ap (λ o. record c.args.log.now { entries = c.args.log.now.entries ++ in_list o }) (sym c.in-Some.is))))

use Rattle.std.proofs.Common.{◌∙◌}
use Rattle.trial.proofs.start.start.Goals as goal

pub returns-in-Some-Script-clause-script : goal.returns-in-Some-Script-clause-script
returns-in-Some-Script-clause-script g c = λ asks.
    let ran = c.run.ensures.replies in
    (ran.0, c.from.ensures ∙ ran.1, ran.2)

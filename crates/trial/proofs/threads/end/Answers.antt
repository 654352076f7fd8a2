use Rattle.std.proofs.Common.{refl, inr, take}
use Rattle.trial.specs.Histories.{told_text}
use Rattle.trial.proofs.threads.end.Goals as goal

pub returns-in_default : goal.returns-in_default
returns-in_default g c =
    let f = c.tell.ensures.front in
    λ workers calls h. (take f.0 (told_text c.args.told), (c.args.told, h, inr (refl, f.0, refl)), f.1)

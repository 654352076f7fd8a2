use Rattle.std.proofs.Common.{inl, inr, refl, take}
use Rattle.trial.specs.Lockfree.{tallied_text}
use Rattle.trial.proofs.lockfree.end.Goals as goal

pub returns-in-Ok : goal.returns-in-Ok
returns-in-Ok g c = λ workers calls h.
    let told = c.args.told.now in
    (tallied_text told, (told, h, inl (refl, c.is_true.ensures c.if-is_true.true, refl)), c.in-Ok.ensures.ok)

pub returns-in_default : goal.returns-in_default
returns-in_default g c =
    let told = c.args.told.now in
    let f = c.tell.ensures.front in
    λ workers calls h. (take f.0 (tallied_text told), (told, h, inr (refl, f.0, refl)), f.1)

use Rattle.std.proofs.Common.{Err, ap, arith, refl}
use Rattle.crossbeam_epoch.proofs.lemmas.face.Guards.{own_guard, other_guard, still_own}
use Rattle.crossbeam_epoch.proofs.face.handle.LocalHandle.pinned.Goals as goal

pub returns-in-Ok-clause-called : goal.returns-in-Ok-clause-called
returns-in-Ok-clause-called g c few = let p = c.in_ok-guard.ensures in let u = c.in-Ok.ensures.state in
    (_, _, _, _, record { state = p.counted; guard = p.guard.0; epoch = p.guard.1; nested = p.nested; word = p.word }, c.f-answer.ensures, own_guard _ _ _ u.0 (u.1, refl))

pub returns-in-Ok-clause-count : goal.returns-in-Ok-clause-count
returns-in-Ok-clause-count g c many = absurd (omega (arith, c.in_ok-guard.ensures.room, many))

pub returns-in-Err-clause-called : goal.returns-in-Err-clause-called
returns-in-Err-clause-called g c few = let p = c.in_ok-guard.ensures in let u = c.in-Err.ensures.state in
    (_, _, _, _, record { state = p.counted; guard = p.guard.0; epoch = p.guard.1; nested = p.nested; word = p.word }, c.f-answer.ensures, other_guard _ _ _ u.0 (u.3, ap Err u.1))

pub returns-in-Err-clause-count : goal.returns-in-Err-clause-count
returns-in-Err-clause-count g c many = absurd (omega (arith, c.in_ok-guard.ensures.room, many))

pub returns-in-Ok-clause-guards : goal.returns-in-Ok-clause-guards
returns-in-Ok-clause-guards g c keeps = let p = c.in_ok-guard.ensures in let u = c.in-Ok.ensures.state in let k = keeps _ _ _ _ c.f-answer.ensures in
    omega (arith, ap (λ h. h.guards) u.1, k.0, ap (λ h. h.guards) p.counted)

pub returns-in-Err-clause-guards : goal.returns-in-Err-clause-guards
returns-in-Err-clause-guards g c keeps = let p = c.in_ok-guard.ensures in let u = c.in-Err.ensures.state in let k = keeps _ _ _ _ c.f-answer.ensures in
    absurd (still_own _ _ _ _ _ k.0 k.1 p.guard.0 u.0)

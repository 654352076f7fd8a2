use Rattle.std.proofs.Common.{arith, ap, refl}
use Rattle.crossbeam_epoch.proofs.lemmas.face.Guards.{while_out, with_none_out}
use Rattle.crossbeam_epoch.proofs.face.handle.LocalHandle.release.Goals as goal

pub returns-then-self-gt0 : goal.returns-then-self-gt0
returns-then-self-gt0 g c = (refl, while_out c.args.self.guards _ _ (omega (arith, c.if-self-gt0.true, ap (λ h. h.guards) c.self.view_is)) refl)

pub returns-in-Err : goal.returns-in-Err
returns-in-Err g c = let t = c.in-Err.ensures.err in (t.1, with_none_out c.args.self.guards _ _ (λ out. (omega (arith, out, c.if-self-gt0.false, ap (λ h. h.guards) c.self.view_is))) (t.0, t.2))

use Rattle.std.proofs.Common.{None, refl}
use Rattle.joint.proofs.lemmas.threads.Holding.{mute}
use Rattle.joint.proofs.threads.tree.Tree.scan.Goals as goal

pub returns : goal.returns
returns g c =
    let held = c.drive.ensures in (
      c.drive.result,
      (
        held.0,
        mute (λ _ step r _. g.T.Locked.holds c.args.worker.now.number c.args.op step r) g.Q.Pair.pair c.args.worker.now.number c.args.op (λ _ _ _ _. Unit {0}) held.0 (tt {0}) _ None c.args.found.now (tt {0}) _ _ held.1,
      ),
      refl,
    )

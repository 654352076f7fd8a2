use Rattle.std.proofs.Common.{None}
use Rattle.joint.proofs.lemmas.threads.Holding.{anyhow}
use Rattle.joint.proofs.threads.tree.Tree.drive.Goals as goal

pub returns : goal.returns
returns g c =
    let held = c.drive_to.ensures.turns in (
      held.0,
      anyhow g.T.Locked.holds g.Q.Pair.pair c.args.worker.now.number c.args.op (λ h. h.worker) (λ h. g.T.Locked.asked h.call) g.C.Answer.answers held.0 c.new-turns.result c.args.answers.now None c.args.found.now _ _ _ c.new-turns.ensures.worker c.new-turns.ensures.op held.1,
    )

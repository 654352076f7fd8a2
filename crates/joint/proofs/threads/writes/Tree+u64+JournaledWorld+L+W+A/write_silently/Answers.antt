use Rattle.std.proofs.Common.{None}
use Rattle.joint.specs.threads.Writing.{IsWritingTurn, unwritten}
use Rattle.joint.proofs.lemmas.threads.Holding.{mute}
use Rattle.joint.proofs.threads.writes.Tree+u64+JournaledWorld+L+W+A.write_silently.Goals as goal

pub returns : goal.returns
returns g c =
    let done = c.write.ensures in (
      done.0,
      done.1,
      done.2,
      mute (IsWritingTurn g.W.Watch.watched c.args.worker.now.number c.args.op) (λ k v. (k, v)) c.args.worker.now.number c.args.op (λ _ _ _ _. Unit {0}) done.1 (unwritten c.args.share.now) _ None _ done.2 _ _ done.3,
      done.4,
      done.5,
    )

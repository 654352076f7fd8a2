use Rattle.std.proofs.Common.{refl}
use Rattle.joint.proofs.lemmas.threads.Hidden.{rounds}
use Rattle.joint.proofs.threads.tree.Tree.go_round.Goals as goal

pub returns : goal.returns
returns g c = rounds g.T.Locked.holds (λ k. k.worker.now.number) c.args.worker.now.number (record { rt = c.args.rt; tree = c.args.self; worker = c.args.worker }) c.round.result _ refl c.round.ensures

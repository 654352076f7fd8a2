use Rattle.joint.proofs.threads.tree.Tree.waiting_bytes.Goals as goal

pub returns : goal.returns
returns g c = (c.world-machine.result.now, c.sound.ensures.holds, c.waiting_bytes.ensures.sum)

use Rattle.joint.proofs.threads.tree.Tree.waiting.Goals as goal

pub returns : goal.returns
returns g c = (c.world-machine.result.now, c.sound.ensures.holds, c.waiting.ensures.count)

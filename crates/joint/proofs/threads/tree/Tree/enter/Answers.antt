use Rattle.joint.proofs.threads.tree.Tree.enter.Goals as goal

pub returns : goal.returns
returns g c = (_, _, c.register.ensures)

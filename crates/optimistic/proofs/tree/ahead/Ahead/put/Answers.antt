use Rattle.optimistic.proofs.lemmas.tree.Trails.{ahead_put}
use Rattle.optimistic.proofs.tree.ahead.Ahead.put.Goals as goal

pub returns : goal.returns
returns c = λ m t k. ahead_put c.args.self.now.places c.args.turn c.args.at m t k

use Rattle.std.proofs.Common.{arith}
use Rattle.optimistic.proofs.lemmas.tree.Trails.{trail_down}
use Rattle.optimistic.proofs.tree.trail.Trail.go_down.Goals as goal

pub returns-then-self : goal.returns-then-self
returns-then-self c = λ m t k. trail_down c.args.self.now.places c.args.self.now.depth c.args.at m (omega arith) t k

use Rattle.std.proofs.Common.{rules}
use Rattle.joint.specs.nodes.Nodes.{nodes}
use Rattle.joint.proofs.lemmas.nodes.DrainWalks.{all_taken}
use Rattle.joint.proofs.nodes.Nodes.drain.Goals as goal

pub drain_below-requires-clause-node : goal.drain_below-requires-clause-node
drain_below-requires-clause-node g c = rw c.root.ensures (search rules)

pub returns-clause-drained : goal.returns-clause-drained
returns-clause-drained g c = all_taken g.D.Drainer.drains (nodes c.args.self.now) c.requires.tree c.args.drainer (nodes c.drain_below.new.self) c.drain_below.new.drainer (rw c.root.ensures at c.drain_below.ensures.takes)

use Rattle.joint.specs.nodes.Nodes.{nodes}
use Rattle.joint.proofs.calls.laws.counts_pairs.Goals as goal

pub returns : goal.returns
returns g c = λ s m h st. let settled = h.0.safe.sound.sound.settled in c.counts_pairs.ensures settled.0 (nodes s.forest) m settled.1.tree settled.1.words st

use Rattle.joint.proofs.lemmas.nodes.AloneCounts.{nodes_counted}
use Rattle.joint.proofs.calls.laws.counts_nodes.Goals as goal

pub returns : goal.returns
returns g c h = nodes_counted h

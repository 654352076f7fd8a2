use Rattle.std.proofs.Common.{◌∙◌, length, ap}
use Rattle.joint.specs.nodes.Listing.{handed_nodes}
use Rattle.joint.proofs.lemmas.nodes.Accounts.{count_few}
use Rattle.joint.proofs.lemmas.world.Waiting.{handed_count}
use Rattle.joint.proofs.nodes.Nodes.handed.Goals as goal

pub returns-clause-value : goal.returns-clause-value
returns-clause-value g c = handed_count _ _ c.self.invariant ∙ ap (λ s. length (handed_nodes s)) c.self.view_is

pub returns-clause-few : goal.returns-clause-few
returns-clause-few g c = count_few _ _ c.self.invariant

use Rattle.std.proofs.Common.{◌∙◌, ap}
use Rattle.std.specs.List.{sum_by}
use Rattle.joint.specs.nodes.Listing.{bytes_of, handed_nodes}
use Rattle.joint.proofs.lemmas.nodes.Accounts.{bytes_small}
use Rattle.joint.proofs.lemmas.world.Waiting.{handed_weight}
use Rattle.joint.proofs.nodes.Nodes.handed_bytes.Goals as goal

pub returns-clause-value : goal.returns-clause-value
returns-clause-value g c = handed_weight _ _ c.self.invariant ∙ ap (λ s. sum_by (bytes_of s) (handed_nodes s)) c.self.view_is

pub returns-clause-few : goal.returns-clause-few
returns-clause-few g c = bytes_small _ _ c.self.invariant

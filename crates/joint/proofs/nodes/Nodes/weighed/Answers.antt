use Rattle.std.proofs.Common.{◌≡◌, ◌+◌, subst}
use Rattle.std.specs.List.{sum_by}
use Rattle.joint.specs.nodes.Listing.{bytes_of, standing_nodes}
use Rattle.joint.proofs.lemmas.world.Waiting.{standing_weight}
use Rattle.joint.proofs.nodes.Nodes.weighed.Goals as goal

pub returns : goal.returns
returns g c = subst (λ s. s.charge ≡ s.base + sum_by (bytes_of s) (standing_nodes s)) c.self.view_is (standing_weight _ _ c.self.invariant)

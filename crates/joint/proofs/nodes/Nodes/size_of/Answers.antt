use Rattle.std.proofs.Common.{◌∙◌, ap}
use Rattle.joint.specs.nodes.Listing.{bytes_of}
use Rattle.joint.specs.Names.{number}
use Rattle.joint.proofs.lemmas.nodes.Accounts.{standing_inside}
use Rattle.joint.proofs.lemmas.nodes.NodesInvariant.{there_in}
use Rattle.joint.proofs.lemmas.world.Waiting.{marked_bytes}
use Rattle.joint.proofs.nodes.Nodes.size_of.Goals as goal

pub size-requires : goal.size-requires
size-requires g c = standing_inside _ _ c.self.invariant c.args.at.name (there_in _ _ c.self.view_is c.args.at.name c.requires)

pub returns-clause-value : goal.returns-clause-value
returns-clause-value g c = c.size.ensures ∙ marked_bytes _ _ c.self.invariant c.args.at.name (there_in _ _ c.self.view_is c.args.at.name c.requires) ∙ ap (λ s. bytes_of s (number c.args.at.name)) c.self.view_is

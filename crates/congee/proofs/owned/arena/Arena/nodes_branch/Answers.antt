use Rattle.congee.proofs.lemmas.owned.Fulls.{shapes_branch}
use Rattle.congee.proofs.owned.arena.Arena.nodes_branch.Goals as goal

pub returns : goal.returns
returns g c = shapes_branch c.args.self.now.nodes c.requires.tree c.requires.branch

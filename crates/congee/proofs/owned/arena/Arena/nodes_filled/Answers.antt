use Rattle.congee.proofs.lemmas.owned.Fulls.{shapes_filled}
use Rattle.congee.proofs.owned.arena.Arena.nodes_filled.Goals as goal

pub returns : goal.returns
returns g c = shapes_filled c.args.self.now.nodes c.requires

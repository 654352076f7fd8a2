use Rattle.congee.proofs.lemmas.owned.Bounding.{few_bytes}
use Rattle.congee.proofs.lemmas.owned.Keying.{bytes_low}
use Rattle.congee.proofs.lemmas.owned.Weights.{sizes_stand}
use Rattle.congee.proofs.owned.arena.Arena.bytes_by_pairs.Goals as goal

pub returns-clause-sizes : goal.returns-clause-sizes
returns-clause-sizes g c = sizes_stand c.args.self.now.nodes c.requires.tree (bytes_low c.args.self.now.nodes c.requires.tree c.requires.branch c.requires.keyed)

pub returns-clause-bound : goal.returns-clause-bound
returns-clause-bound g c = few_bytes c.args.self.now.nodes c.requires.tree c.requires.branch c.requires.keyed

use Rattle.congee.proofs.lemmas.owned.Appending.{located_ends}
use Rattle.congee.proofs.owned.arena.Arena.insert.Goals as goal

pub insert_at-requires-clause-ends : goal.insert_at-requires-clause-ends
insert_at-requires-clause-ends g c = located_ends c.args.self.now.nodes c.args.key.now c.locate-place.result c.locate-place.ensures

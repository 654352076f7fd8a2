use Rattle.congee.proofs.lemmas.owned.Answered.{located_free, located_apart}
use Rattle.congee.proofs.lemmas.owned.Freeing.{none_frees}
use Rattle.congee.proofs.lemmas.owned.Goings.{located_goes_free, located_goes_apart}
use Rattle.congee.proofs.owned.arena.Arena.pull.Goals as goal

pub returns-in-Free : goal.returns-in-Free
returns-in-Free g c =
    rw (located_goes_free c.args.self.now.nodes c.args.key.now c.locate-place.result c.requires.tree c.locate-place.ensures c.in-Free.is) (none_frees g.A.Allocator.charged_of g.A.Allocator.limit_of c.args.self.now c.args.key.now c.requires.tree (located_free c.args.self.now.nodes c.args.key.now c.locate-place.result c.requires.tree c.locate-place.ensures c.in-Free.is))

pub returns-in-Apart : goal.returns-in-Apart
returns-in-Apart g c =
    rw (located_goes_apart c.args.self.now.nodes c.args.key.now c.locate-place.result c.in-Apart.field-0 c.requires.tree c.locate-place.ensures c.in-Apart.is) (none_frees g.A.Allocator.charged_of g.A.Allocator.limit_of c.args.self.now c.args.key.now c.requires.tree (located_apart c.args.self.now.nodes c.args.key.now c.locate-place.result c.in-Apart.field-0 c.requires.tree c.locate-place.ensures c.in-Apart.is))

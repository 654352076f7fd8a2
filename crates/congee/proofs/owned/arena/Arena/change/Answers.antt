use Rattle.std.specs.Prelude.{Some}
use Rattle.congee.specs.owned.Arena.{heap_of}
use Rattle.congee.specs.owned.Going.{goes_at}
use Rattle.congee.proofs.lemmas.owned.Answered.{located_free, located_apart}
use Rattle.congee.proofs.lemmas.owned.Freeing.{swap_frees, none_frees}
use Rattle.congee.proofs.lemmas.owned.Goings.{going_absent, located_goes_free, located_goes_apart}
use Rattle.congee.proofs.owned.arena.Arena.change.Goals as goal

pub returns-in-Held : goal.returns-in-Held
returns-in-Held g c = (swap_frees g.A.Allocator.charged_of g.A.Allocator.limit_of c.args.self.now c.replace.new.self c.args.key.now (Some c.replace.result) (Some c.args.value) c.replace.ensures)

pub returns-in-Free : goal.returns-in-Free
returns-in-Free g c =
    rw (going_absent (Some c.args.value) (goes_at (heap_of c.args.self.now.nodes) c.args.key.now) (located_goes_free c.args.self.now.nodes c.args.key.now c.locate-place.result c.requires.tree c.locate-place.ensures c.in-Free.is))
    (none_frees g.A.Allocator.charged_of g.A.Allocator.limit_of c.args.self.now c.args.key.now c.requires.tree (located_free c.args.self.now.nodes c.args.key.now c.locate-place.result c.requires.tree c.locate-place.ensures c.in-Free.is))

pub returns-in-Apart : goal.returns-in-Apart
returns-in-Apart g c =
    rw (going_absent (Some c.args.value) (goes_at (heap_of c.args.self.now.nodes) c.args.key.now) (located_goes_apart c.args.self.now.nodes c.args.key.now c.locate-place.result c.in-Apart.field-0 c.requires.tree c.locate-place.ensures c.in-Apart.is))
    (none_frees g.A.Allocator.charged_of g.A.Allocator.limit_of c.args.self.now c.args.key.now c.requires.tree (located_apart c.args.self.now.nodes c.args.key.now c.locate-place.result c.in-Apart.field-0 c.requires.tree c.locate-place.ensures c.in-Apart.is))

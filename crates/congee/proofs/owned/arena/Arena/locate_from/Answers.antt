use Rattle.std.proofs.Common.{◌*◌, ◌∙◌}
use Rattle.congee.specs.declared.owned.place.Spot.TheVariants.{Held, Free, Apart}
use Rattle.congee.proofs.lemmas.owned.Appending.{ends_below, ends_own, way_below}
use Rattle.congee.proofs.lemmas.owned.Ways.{depth_falls}
use Rattle.congee.proofs.owned.arena.Arena.locate_from.Goals as goal

pub loop-leaf-smaller : goal.loop-leaf-smaller
loop-leaf-smaller g c = depth_falls c.args.self.now.nodes c.requires.tree c.args.key.now (257 * c.loop-leaf.at) (257 * c.in-Below.below) c.loop-leaf.invariant.stands c.in-Below.ensures.0

pub loop-leaf-preserved : goal.loop-leaf-preserved
loop-leaf-preserved g c = way_below c.args.self.now.nodes c.requires.tree c.args.key.now (257 * c.loop-leaf.at) (257 * c.in-Below.below) c.loop-leaf.invariant c.in-Below.ensures.0 c.in-Below.ensures.1

pub returns-in-Free : goal.returns-in-Free
returns-in-Free g c = ends_own c.args.self.now.nodes c.args.key.now c.ending.result c.loop-leaf.at Free (c.ending.ensures.at ∙ c.of.ensures) c.ending.ensures.spot c.loop-leaf.invariant c.in-Free.ensures

pub returns-in-Held : goal.returns-in-Held
returns-in-Held g c = ends_own c.args.self.now.nodes c.args.key.now c.ending-in-Held.result c.loop-leaf.at Held (c.ending-in-Held.ensures.at ∙ c.of-in-Held.ensures) c.ending-in-Held.ensures.spot c.loop-leaf.invariant (c.in-Held.field-0.now, c.in-Held.ensures)

pub returns-in-FreeBelow : goal.returns-in-FreeBelow
returns-in-FreeBelow g c = ends_below c.args.self.now.nodes c.requires.tree c.args.key.now c.ending-in-FreeBelow.result c.loop-leaf.at c.in-FreeBelow.leaf Free c.ending-in-FreeBelow.ensures.above c.ending-in-FreeBelow.ensures.at c.ending-in-FreeBelow.ensures.spot c.loop-leaf.invariant c.in-FreeBelow.ensures.0.0 c.in-FreeBelow.ensures.0.1 c.in-FreeBelow.ensures.1

pub returns-in-HeldBelow : goal.returns-in-HeldBelow
returns-in-HeldBelow g c = ends_below c.args.self.now.nodes c.requires.tree c.args.key.now c.ending-in-HeldBelow.result c.loop-leaf.at c.in-HeldBelow.leaf Held c.ending-in-HeldBelow.ensures.above c.ending-in-HeldBelow.ensures.at c.ending-in-HeldBelow.ensures.spot c.loop-leaf.invariant c.in-HeldBelow.ensures.0.0 c.in-HeldBelow.ensures.0.1 (c.in-HeldBelow.field-1.now, c.in-HeldBelow.ensures.1)

pub returns-in-Apart : goal.returns-in-Apart
returns-in-Apart g c = ends_own c.args.self.now.nodes c.args.key.now c.ending-in-Apart.result c.loop-leaf.at (Apart c.in-Apart.name) (c.ending-in-Apart.ensures.at ∙ c.of-in-Apart.ensures) c.ending-in-Apart.ensures.spot c.loop-leaf.invariant c.in-Apart.ensures

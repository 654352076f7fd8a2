use Rattle.std.proofs.Common.{◌*◌, ◌∙◌}
use Rattle.congee.specs.declared.owned.place.Spot.TheVariants.{Held, Free, Apart}
use Rattle.congee.proofs.lemmas.owned.Ways.{depth_falls, located_at, root_reached, reached_below}
use Rattle.congee.proofs.owned.arena.Arena.locate.Goals as goal

pub loop-leaf-init : goal.loop-leaf-init
loop-leaf-init g c = (root_reached c.args.self.now.nodes c.args.key.now c.requires, root_reached c.args.self.now.nodes c.args.key.now c.requires)

pub loop-leaf-smaller : goal.loop-leaf-smaller
loop-leaf-smaller g c = depth_falls c.args.self.now.nodes c.requires c.args.key.now (257 * c.loop-leaf.at) (257 * c.in-Below.below) c.loop-leaf.invariant.1.way.stands c.in-Below.ensures.0

pub loop-leaf-preserved : goal.loop-leaf-preserved
loop-leaf-preserved g c = (c.loop-leaf.invariant.1, reached_below c.args.self.now.nodes c.requires c.args.key.now (257 * c.loop-leaf.above) (257 * c.loop-leaf.at) (257 * c.in-Below.below) c.loop-leaf.invariant.1 c.in-Below.ensures.0 c.in-Below.ensures.1)

pub returns-in-Free : goal.returns-in-Free
returns-in-Free g c = located_at c.args.self.now.nodes c.args.key.now c.ending.result (257 * c.loop-leaf.top) (257 * c.loop-leaf.above) (257 * c.loop-leaf.at) Free c.ending.ensures.top c.ending.ensures.above (c.ending.ensures.at ∙ c.of.ensures) c.ending.ensures.spot c.loop-leaf.invariant.0 c.loop-leaf.invariant.1 c.in-Free.ensures

pub returns-in-Held : goal.returns-in-Held
returns-in-Held g c = located_at c.args.self.now.nodes c.args.key.now c.ending-in-Held.result (257 * c.loop-leaf.top) (257 * c.loop-leaf.above) (257 * c.loop-leaf.at) Held c.ending-in-Held.ensures.top c.ending-in-Held.ensures.above (c.ending-in-Held.ensures.at ∙ c.of-in-Held.ensures) c.ending-in-Held.ensures.spot c.loop-leaf.invariant.0 c.loop-leaf.invariant.1 (c.in-Held.field-0.now, c.in-Held.ensures)

pub returns-in-FreeBelow : goal.returns-in-FreeBelow
returns-in-FreeBelow g c = located_at c.args.self.now.nodes c.args.key.now c.ending-in-FreeBelow.result (257 * c.loop-leaf.above) (257 * c.loop-leaf.at) c.in-FreeBelow.leaf Free c.ending-in-FreeBelow.ensures.top c.ending-in-FreeBelow.ensures.above c.ending-in-FreeBelow.ensures.at c.ending-in-FreeBelow.ensures.spot c.loop-leaf.invariant.1 (reached_below c.args.self.now.nodes c.requires c.args.key.now (257 * c.loop-leaf.above) (257 * c.loop-leaf.at) c.in-FreeBelow.leaf c.loop-leaf.invariant.1 c.in-FreeBelow.ensures.0.0 c.in-FreeBelow.ensures.0.1) c.in-FreeBelow.ensures.1

pub returns-in-HeldBelow : goal.returns-in-HeldBelow
returns-in-HeldBelow g c = located_at c.args.self.now.nodes c.args.key.now c.ending-in-HeldBelow.result (257 * c.loop-leaf.above) (257 * c.loop-leaf.at) c.in-HeldBelow.leaf Held c.ending-in-HeldBelow.ensures.top c.ending-in-HeldBelow.ensures.above c.ending-in-HeldBelow.ensures.at c.ending-in-HeldBelow.ensures.spot c.loop-leaf.invariant.1 (reached_below c.args.self.now.nodes c.requires c.args.key.now (257 * c.loop-leaf.above) (257 * c.loop-leaf.at) c.in-HeldBelow.leaf c.loop-leaf.invariant.1 c.in-HeldBelow.ensures.0.0 c.in-HeldBelow.ensures.0.1) (c.in-HeldBelow.field-1.now, c.in-HeldBelow.ensures.1)

pub returns-in-Apart : goal.returns-in-Apart
returns-in-Apart g c = located_at c.args.self.now.nodes c.args.key.now c.ending-in-Apart.result (257 * c.loop-leaf.top) (257 * c.loop-leaf.above) (257 * c.loop-leaf.at) (Apart c.in-Apart.name) c.ending-in-Apart.ensures.top c.ending-in-Apart.ensures.above (c.ending-in-Apart.ensures.at ∙ c.of-in-Apart.ensures) c.ending-in-Apart.ensures.spot c.loop-leaf.invariant.0 c.loop-leaf.invariant.1 c.in-Apart.ensures

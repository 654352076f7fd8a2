use Rattle.std.proofs.Common.{sym, ◌*◌}
use Rattle.congee.specs.owned.Arena.{OnWay}
use Rattle.congee.proofs.lemmas.owned.Answered.{at_held, at_free, at_apart}
use Rattle.congee.proofs.lemmas.owned.Ways.{below_stands, depth_falls, root_reached}
use Rattle.congee.proofs.owned.arena.Arena.get.Goals as goal

pub loop-value-init : goal.loop-value-init
loop-value-init g c = (root_reached c.args.self.now.nodes c.args.key.now c.requires).way

pub loop-value-smaller : goal.loop-value-smaller
loop-value-smaller g c = depth_falls c.args.self.now.nodes c.requires c.args.key.now (257 * c.loop-value.at) (257 * c.in-Below.below) c.loop-value.invariant.stands c.in-Below.ensures.0

pub loop-value-preserved : goal.loop-value-preserved
loop-value-preserved g c = record {
  stands = below_stands c.args.self.now.nodes c.requires (257 * c.loop-value.at) (257 * c.in-Below.below) c.args.key.now c.loop-value.invariant.stands c.in-Below.ensures.0;
  fitted = c.in-Below.ensures.1;
}

pub returns-in-Free : goal.returns-in-Free
returns-in-Free g c = sym (at_free c.args.self.now.nodes c.args.key.now (257 * c.loop-value.at) c.requires c.loop-value.invariant c.in-Free.ensures)

pub returns-in-Held : goal.returns-in-Held
returns-in-Held g c = sym (at_held c.args.self.now.nodes c.args.key.now (257 * c.loop-value.at) c.in-Held.value.now c.requires c.loop-value.invariant c.in-Held.ensures)

pub returns-in-FreeBelow : goal.returns-in-FreeBelow
returns-in-FreeBelow g c =
    let way : OnWay c.args.self.now.nodes c.args.key.now c.in-FreeBelow.field-0 = record {
      stands = below_stands c.args.self.now.nodes c.requires (257 * c.loop-value.at) c.in-FreeBelow.field-0 c.args.key.now c.loop-value.invariant.stands c.in-FreeBelow.ensures.0.0;
      fitted = c.in-FreeBelow.ensures.0.1;
    } in
    sym (at_free c.args.self.now.nodes c.args.key.now c.in-FreeBelow.field-0 c.requires way c.in-FreeBelow.ensures.1)

pub returns-in-HeldBelow : goal.returns-in-HeldBelow
returns-in-HeldBelow g c =
    let way : OnWay c.args.self.now.nodes c.args.key.now c.in-HeldBelow.field-0 = record {
      stands = below_stands c.args.self.now.nodes c.requires (257 * c.loop-value.at) c.in-HeldBelow.field-0 c.args.key.now c.loop-value.invariant.stands c.in-HeldBelow.ensures.0.0;
      fitted = c.in-HeldBelow.ensures.0.1;
    } in
    sym (at_held c.args.self.now.nodes c.args.key.now c.in-HeldBelow.field-0 c.in-HeldBelow.value.now c.requires way c.in-HeldBelow.ensures.1)

pub returns-in-Apart : goal.returns-in-Apart
returns-in-Apart g c = sym (at_apart c.args.self.now.nodes c.args.key.now (257 * c.loop-value.at) c.in-Apart.field-0 c.requires c.loop-value.invariant c.in-Apart.ensures.0 c.in-Apart.ensures.1)

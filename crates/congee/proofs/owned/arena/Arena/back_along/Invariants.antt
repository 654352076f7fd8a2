use Rattle.congee.specs.owned.Walks.{IsWalk, steps_of}
use Rattle.congee.proofs.lemmas.owned.BackWalks.{back_left}
use Rattle.congee.proofs.lemmas.owned.Cursors.{SameAhead}
use Rattle.congee.proofs.owned.arena.Arena.back_along.Given as goal

abbrev pub invariant-steps : goal.invariant-steps
invariant-steps g l = record {
  walk : IsWalk l.self.nodes l.walk;
  same : SameAhead l.self.nodes (steps_of l.fn.walk) (steps_of l.walk);
}

abbrev pub decreases-steps : goal.decreases-steps
decreases-steps g l = back_left l.walk.above.items l.walk.from

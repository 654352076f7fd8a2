use Rattle.std.proofs.Common.{arith}
use Rattle.optimistic.proofs.lemmas.tree.Trails.{known_place, trail_since}
use Rattle.optimistic.proofs.tree.get.Tree.back_look_last.Goals as goal

pub last-at-requires : goal.last-at-requires
last-at-requires c = let t = c.requires.trail in let d = t.deep in let l = t.long in omega (arith, d, l)

pub back_look_run-requires-clause-at : goal.back_look_run-requires-clause-at
back_look_run-requires-clause-at c = known_place c.last-at.result c.args.hand.now.me.0 (c.requires.trail.known c.args.trail.now.depth c.last-at.result c.last-at.ensures)

pub returns-clause-trail : goal.returns-clause-trail
returns-clause-trail c = trail_since c.args.trail.now c.args.hand.now.me.0 c.back_look_run.new.hand.me.0 c.back_look_run.ensures.looks.since c.requires.trail

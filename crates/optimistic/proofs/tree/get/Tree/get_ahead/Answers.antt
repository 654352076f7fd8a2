use Rattle.std.proofs.Common.{arith}
use Rattle.optimistic.proofs.lemmas.tree.Trails.{known_place, ahead_since}
use Rattle.optimistic.proofs.tree.get.Tree.get_ahead.Goals as goal

pub at-at-requires : goal.at-at-requires
at-at-requires g c = let l = c.requires.known.long in let t = c.requires.turn in omega (arith, l, t)

pub get_by-requires-clause-at : goal.get_by-requires-clause-at
get_by-requires-clause-at g c = known_place c.at-at.result c.args.hand.now.me.0 (c.requires.known.known c.args.turn c.at-at.result c.at-at.ensures)

pub returns-clause-known : goal.returns-clause-known
returns-clause-known g c = ahead_since c.args.ahead.now c.args.hand.now.me.0 c.get_by.new.hand.me.0 c.get_by.ensures.since c.requires.known

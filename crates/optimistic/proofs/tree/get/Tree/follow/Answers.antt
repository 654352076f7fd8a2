use Rattle.std.proofs.Common.{arith}
use Rattle.optimistic.proofs.lemmas.tree.Trails.{known_place, place_known, ahead_since}
use Rattle.optimistic.proofs.tree.get.Tree.follow.Goals as goal

pub at-at-requires : goal.at-at-requires
at-at-requires c = let l = c.requires.known.long in let t = c.requires.turn in omega (arith, l, t)

pub put-requires : goal.put-requires
put-requires c = let l = c.requires.known.long in let t = c.requires.turn in omega (arith, l, t)

pub below-below-requires-clause-at : goal.below-below-requires-clause-at
below-below-requires-clause-at c = known_place c.at-at.result c.args.hand.now.me.0 (c.requires.known.known c.args.turn c.at-at.result c.at-at.ensures)

pub returns-clause-known : goal.returns-clause-known
returns-clause-known c =
    let v = c.args.hand.now.me.0 in
    let w = c.below-below.new.hand.me.0 in
    c.put.ensures w.seen (ahead_since c.args.ahead.now v w c.below-below.ensures.looks.since c.requires.known) (place_known c.below-below.result w c.below-below.ensures.place)

use Rattle.std.proofs.Common.{refl, subst, None}
use Rattle.optimistic.specs.declared.tree.place.Place.{Place}
use Rattle.optimistic.specs.tree.Exchanges.{LetsPairGo}
use Rattle.optimistic.proofs.lemmas.words.Moments.{since_trans}
use Rattle.optimistic.proofs.lemmas.tree.Blank.{free_since}
use Rattle.optimistic.proofs.lemmas.tree.Setting.{place_since, set_later}
use Rattle.optimistic.proofs.lemmas.tree.Holding.{pair_back, two_gone}
use Rattle.optimistic.proofs.tree.get.Tree.try_lift.Goals as goal

pub give_old-requires-clause-forms : goal.give_old-requires-clause-forms
give_old-requires-clause-forms c = c.requires.names.forms

pub give_old-requires-clause-old : goal.give_old-requires-clause-old
give_old-requires-clause-old c = (c.requires.old.some, c.requires.old.form)

pub returns-in-Had-clause-names : goal.returns-in-Had-clause-names
returns-in-Had-clause-names c =
    let v = c.args.hand.now.me.0 in
    let w = c.lift_with-set.new.hand.me.0 in
    let s = since_trans v.seen c.lock_both.new.hand.me.0.seen w.seen c.in-Had.ensures.both.2.since c.lift_with-set.ensures.since in
    c.give_old.ensures w (place_since c.args.old v w s c.requires.old).at (free_since c.args.free.now v w c.requires.names s)

pub returns-in-Had-clause-since : goal.returns-in-Had-clause-since
returns-in-Had-clause-since c = since_trans c.args.hand.now.me.0.seen c.lock_both.new.hand.me.0.seen c.lift_with-set.new.hand.me.0.seen c.in-Had.ensures.both.2.since c.lift_with-set.ensures.since

pub returns-in-Had-clause-set : goal.returns-in-Had-clause-set
returns-in-Had-clause-set c =
    set_later c.args.write.key None c.lift_with-set.result c.args.hand.now.me.0 c.lock_both.new.hand.me.0 c.lift_with-set.new.hand.me.0 c.in-Had.ensures.both.2.keeps.0 c.lift_with-set.ensures.set

pub returns-in-Had-clause-no_more : goal.returns-in-Had-clause-no_more
returns-in-Had-clause-no_more c =
    let b = c.in-Had.ensures.both in
    let w = c.lock_both.new.hand.me.0 in
    let z = c.lift_with-set.new.hand.me.0 in
    pair_back c.args.above.node c.args.old.node c.args.hand.now.me.0 w z b.3
    (subst (λ (p : Place × Place). LetsPairGo p.0.node p.1.node w z) (λ i. (b.0 i, b.1 i)) (two_gone c.in-Had.upper.at.node c.in-Had.lower.at.node w w z refl c.lift_with-set.ensures.lets_go))

pub returns-in-Busy-clause-names : goal.returns-in-Busy-clause-names
returns-in-Busy-clause-names c = free_since c.args.free.now c.args.hand.now.me.0 c.lock_both.new.hand.me.0 c.requires.names c.in-Busy.ensures.both.1

pub returns-in-Exhausted-clause-names : goal.returns-in-Exhausted-clause-names
returns-in-Exhausted-clause-names c = free_since c.args.free.now c.args.hand.now.me.0 c.lock_both.new.hand.me.0 c.requires.names c.in-Exhausted.ensures.both.1

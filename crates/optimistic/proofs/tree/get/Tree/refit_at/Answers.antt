use Rattle.optimistic.proofs.lemmas.tree.Blank.{free_since}
use Rattle.optimistic.proofs.lemmas.tree.Setting.{place_since, set_later}
use Rattle.optimistic.proofs.lemmas.tree.Splitting.{outcome_later}
use Rattle.optimistic.proofs.lemmas.tree.Reshaping.{some_place}
use Rattle.optimistic.proofs.tree.get.Tree.refit_at.Goals as goal

pub try_replace-requires-clause-above : goal.try_replace-requires-clause-above
try_replace-requires-clause-above c = place_since c.in-Some.above c.args.hand.now.me.0 c.fit.new.hand.me.0 c.fit.ensures.since (some_place c.args.end.above c.in-Some.above c.args.hand.now.me.0 c.in-Some.is c.requires.above)

pub try_replace-requires-clause-old : goal.try_replace-requires-clause-old
try_replace-requires-clause-old c = place_since c.args.end.at c.args.hand.now.me.0 c.fit.new.hand.me.0 c.fit.ensures.since c.requires.place

pub try_replace-requires-clause-names : goal.try_replace-requires-clause-names
try_replace-requires-clause-names c = free_since c.args.free.now c.args.hand.now.me.0 c.fit.new.hand.me.0 c.requires.names c.fit.ensures.since

pub lift_at-requires-clause-above : goal.lift_at-requires-clause-above
lift_at-requires-clause-above c = place_since c.in-Some.above c.args.hand.now.me.0 c.fit.new.hand.me.0 c.fit.ensures.since (some_place c.args.end.above c.in-Some.above c.args.hand.now.me.0 c.in-Some.is c.requires.above)

pub lift_at-requires-clause-place : goal.lift_at-requires-clause-place
lift_at-requires-clause-place c = place_since c.args.end.at c.args.hand.now.me.0 c.fit.new.hand.me.0 c.fit.ensures.since c.requires.place

pub lift_at-requires-clause-names : goal.lift_at-requires-clause-names
lift_at-requires-clause-names c = free_since c.args.free.now c.args.hand.now.me.0 c.fit.new.hand.me.0 c.requires.names c.fit.ensures.since

pub returns-in-Stays-clause-names : goal.returns-in-Stays-clause-names
returns-in-Stays-clause-names c = free_since c.args.free.now c.args.hand.now.me.0 c.fit.new.hand.me.0 c.requires.names c.fit.ensures.since

pub returns-in-Becomes-clause-set : goal.returns-in-Becomes-clause-set
returns-in-Becomes-clause-set c = let v = c.args.hand.now.me.0 in let u = c.fit.new.hand.me.0 in
    outcome_later c.try_replace.result c.args.write.key c.args.write.value v u c.try_replace.new.hand.me.0 c.fit.ensures.keeps.0 c.try_replace.ensures.set

pub returns-in-Lifts-clause-set : goal.returns-in-Lifts-clause-set
returns-in-Lifts-clause-set c = let v = c.args.hand.now.me.0 in let u = c.fit.new.hand.me.0 in let w = c.lift_at.new.hand.me.0 in
    set_later c.args.write.key c.args.write.value c.lift_at.result v u w c.fit.ensures.keeps.0 c.lift_at.ensures.set

pub lift_at-requires-clause-own : goal.lift_at-requires-clause-own
lift_at-requires-clause-own c = c.fit.ensures.keeps.1

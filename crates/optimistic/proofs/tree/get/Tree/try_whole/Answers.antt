use Rattle.std.proofs.Common.{List, length, take, sym, subst, arith}
use Rattle.std.proofs.lemmas.List.{length-take-le}
use Rattle.optimistic.specs.declared.tree.whole.Mark.{Mark}
use Rattle.optimistic.specs.tree.Trees.{IsTree}
use Rattle.optimistic.specs.tree.Wholes.{AreSeen, IsSteadfast, HasMoved}
use Rattle.optimistic.proofs.lemmas.tree.Anew.{marks_moved}
use Rattle.optimistic.proofs.lemmas.tree.Wholes.{whole_then, looks_went}
use Rattle.optimistic.proofs.lemmas.words.Chains.{looks_keeps}
use Rattle.optimistic.proofs.tree.get.Tree.try_whole.Goals as goal

pub are_still-still-requires-clause-seen : goal.are_still-still-requires-clause-seen
are_still-still-requires-clause-seen c = subst (λ (l : List Mark). AreSeen l c.collect.new.hand.me.0) (sym c.deref.ensures.value) c.in_ok-count.ensures.collected.1.1.seen

pub returns-in_err-count-clause-keeps : goal.returns-in_err-count-clause-keeps
returns-in_err-count-clause-keeps c = looks_keeps IsTree c.args.hand.now.me.0 c.collect.new.hand.me.0 c.collect.ensures.looks

pub returns-then-still-clause-whole : goal.returns-then-still-clause-whole
returns-then-still-clause-whole c =
    let u = c.args.hand.now.me.0 in
    let v = c.collect.new.hand.me.0 in
    let w = c.are_still-still.new.hand.me.0 in
    let e = c.in_ok-count.ensures.collected in
    let out = c.collect.new.out in
    let few = e.0 in
    let same = c.collect.ensures.same in
    let steadfast = subst (λ (l : List Mark). IsSteadfast l v.seen) c.deref.ensures.value (c.are_still-still.ensures.still c.if-still.true) in
    whole_then c.collect.new.marks.items c.args.start e.1.0 c.args.last c.in_ok-count.count (length c.args.out.now) (take c.in_ok-count.count out) u v w c.collect.ensures.looks c.are_still-still.ensures.went.since e.1.1 steadfast
    (length-take-le c.in_ok-count.count out (omega (arith, few, same))) few e.1.2

pub returns-then-still-clause-keeps : goal.returns-then-still-clause-keeps
returns-then-still-clause-keeps c = (looks_went c.args.hand.now.me.0 c.collect.new.hand.me.0 c.are_still-still.new.hand.me.0 c.collect.ensures.looks c.are_still-still.ensures.went).0

pub returns-then-still-clause-mine : goal.returns-then-still-clause-mine
returns-then-still-clause-mine c = (looks_went c.args.hand.now.me.0 c.collect.new.hand.me.0 c.are_still-still.new.hand.me.0 c.collect.ensures.looks c.are_still-still.ensures.went).1

pub returns-then-still-clause-since : goal.returns-then-still-clause-since
returns-then-still-clause-since c = (looks_went c.args.hand.now.me.0 c.collect.new.hand.me.0 c.are_still-still.new.hand.me.0 c.collect.ensures.looks c.are_still-still.ensures.went).2

pub returns-else-still-clause-keeps : goal.returns-else-still-clause-keeps
returns-else-still-clause-keeps c = (looks_went c.args.hand.now.me.0 c.collect.new.hand.me.0 c.are_still-still.new.hand.me.0 c.collect.ensures.looks c.are_still-still.ensures.went).0

pub returns-else-still-clause-mine : goal.returns-else-still-clause-mine
returns-else-still-clause-mine c = (looks_went c.args.hand.now.me.0 c.collect.new.hand.me.0 c.are_still-still.new.hand.me.0 c.collect.ensures.looks c.are_still-still.ensures.went).1

pub returns-else-still-clause-since : goal.returns-else-still-clause-since
returns-else-still-clause-since c = (looks_went c.args.hand.now.me.0 c.collect.new.hand.me.0 c.are_still-still.new.hand.me.0 c.collect.ensures.looks c.are_still-still.ensures.went).2

pub returns-else-still-clause-alone : goal.returns-else-still-clause-alone
returns-else-still-clause-alone c =
    let w = c.are_still-still.new.hand.me.0 in
    marks_moved c.collect.new.marks.items c.args.hand.now.me.0 c.collect.new.hand.me.0 w c.in_ok-count.ensures.dated c.are_still-still.ensures.went.since
    (subst (λ (l : List Mark). HasMoved l w) c.deref.ensures.value (c.are_still-still.ensures.moved c.if-still.false))

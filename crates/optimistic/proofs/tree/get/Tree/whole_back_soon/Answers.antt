use Rattle.std.proofs.Common.{ℕ, ◌+◌, length, take, subst}
use Rattle.optimistic.specs.tree.Sights.{Stood}
use Rattle.optimistic.specs.tree.WholesBack.{IsRangeBack}
use Rattle.optimistic.proofs.lemmas.tree.Sights.{stood_from}
use Rattle.optimistic.proofs.lemmas.words.Moments.{since_trans}
use Rattle.optimistic.proofs.tree.get.Tree.whole_back_soon.Goals as goal

pub returns-in-Ok-clause-whole : goal.returns-in-Ok-clause-whole
returns-in-Ok-clause-whole c =
    let i = c.loop.invariant in
    let pairs = take c.in-Ok.count c.try_whole_back.new.out in
    stood_from (λ log. IsRangeBack log c.args.start (c.args.last + 1) (length c.args.out.now) pairs) c.args.hand.now.me.0 c.loop.hand.me.0 c.try_whole_back.new.hand.me.0 i.3
    (subst (λ (z : ℕ). Stood (λ log. IsRangeBack log c.args.start (c.args.last + 1) z pairs) c.loop.hand.me.0 c.try_whole_back.new.hand.me.0) i.4 c.in-Ok.ensures.whole)

pub returns-in-Ok-clause-since : goal.returns-in-Ok-clause-since
returns-in-Ok-clause-since c = since_trans c.args.hand.now.me.0.seen c.loop.hand.me.0.seen c.try_whole_back.new.hand.me.0.seen c.loop.invariant.3 c.try_whole_back.ensures.since

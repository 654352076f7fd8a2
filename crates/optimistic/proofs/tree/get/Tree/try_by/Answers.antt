use Rattle.std.proofs.Common.{◌∙◌}
use Rattle.optimistic.proofs.lemmas.words.Chains.{later_keeps}
use Rattle.optimistic.proofs.lemmas.words.Moments.{since_trans}
use Rattle.optimistic.proofs.tree.get.Tree.try_by.Goals as goal

pub loop-preserved : goal.loop-preserved
loop-preserved c = (
  c.look-next-in-Down.ensures.of,
  later_keeps c.args.hand.now.me.0 c.loop.hand.me.0 c.look-next-in-Down.new.hand.me.0 c.loop.invariant.1.0 c.look-next-in-Down.ensures.keeps,
  c.look-next-in-Down.ensures.mine ∙ c.loop.invariant.2,
  since_trans c.args.hand.now.me.0.seen c.loop.hand.me.0.seen c.look-next-in-Down.new.hand.me.0.seen c.loop.invariant.3 c.look-next-in-Down.ensures.since,
  c.look-next-in-Down.ensures.look,
)

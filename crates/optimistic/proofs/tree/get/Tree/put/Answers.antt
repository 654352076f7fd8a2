use Rattle.std.proofs.Common.{arith}
use Rattle.optimistic.proofs.lemmas.words.Moments.{width_more}
use Rattle.optimistic.proofs.lemmas.tree.Changing.{put_or}
use Rattle.optimistic.proofs.tree.get.Tree.put.Goals as goal

pub returns-clause-put : goal.returns-clause-put
returns-clause-put c = let m = width_more c.args.at.form c.requires.at.some c.requires.at.form in
    put_or c.put_in.result c.args.at.node c.args.at.form c.args.byte c.args.child.first c.args.child.second c.args.hand.now.me.0 c.put_in.new.hand.me.0 c.requires.at.at (omega arith) c.requires.mine c.put_in.ensures.stays c.put_in.ensures.put

use Rattle.std.proofs.Common.{◌+◌, ◌-◌, arith, rules}
use Rattle.std.proofs.lemmas.Slice.{drop-put_mid}
use Rattle.optimistic.proofs.tree.run.put_all.Goals as goal

pub returns-clause-past : goal.returns-clause-past
returns-clause-past c =
    let r = c.requires.room in
    drop-put_mid c.args.count (c.args.count + c.args.more - c.args.count) c.args.out.now c.copy_from_slice.new.self (c.args.count + c.args.more) (omega arith) (omega (arith, r)) (search rules)

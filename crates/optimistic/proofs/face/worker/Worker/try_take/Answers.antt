use Rattle.std.proofs.Common.{subst}
use Rattle.optimistic.specs.face.Calls.{Known}
use Rattle.optimistic.specs.face.Workers.{known, IsWritten}
use Rattle.optimistic.proofs.lemmas.face.Knowing.{keeps_looked, saw_written}
use Rattle.optimistic.proofs.face.worker.Worker.try_take.Goals as goal

pub returns-in-None-clause-written : goal.returns-in-None-clause-written
returns-in-None-clause-written c = let id = c.self.inside.tree.now.nodes.table.shared.table_id in let v = c.self.inside.hand.me.0 in let u = c.try_take.new.hand.me.0 in
    subst (λ (z : Known). IsWritten c.args.write z c.try_less.new.self c.try_less.result) c.self.view_is
    (saw_written c.args.write (known id v) (known id u) c.try_less.new.self c.try_less.result (keeps_looked id v u c.in-None.ensures.set).0 c.try_less.ensures.written)

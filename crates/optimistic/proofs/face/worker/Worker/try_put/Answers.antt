use Rattle.std.proofs.Common.{subst}
use Rattle.optimistic.specs.face.Calls.{Known}
use Rattle.optimistic.specs.face.Workers.{known, IsWritten}
use Rattle.optimistic.proofs.lemmas.face.Knowing.{keeps_looked, saw_written}
use Rattle.optimistic.proofs.face.worker.Worker.try_put.Goals as goal

pub returns-in-Taken-clause-written : goal.returns-in-Taken-clause-written
returns-in-Taken-clause-written c = let id = c.self.inside.tree.now.nodes.table.shared.table_id in let v = c.self.inside.hand.me.0 in let u = c.try_set.new.hand.me.0 in
    subst (λ (z : Known). IsWritten c.args.write z c.try_reshape.new.self c.try_reshape.result) c.self.view_is
    (saw_written c.args.write (known id v) (known id u) c.try_reshape.new.self c.try_reshape.result (keeps_looked id v u c.in-Taken.ensures.set).0 c.try_reshape.ensures)

pub returns-in-Full-clause-written : goal.returns-in-Full-clause-written
returns-in-Full-clause-written c = let id = c.self.inside.tree.now.nodes.table.shared.table_id in let v = c.self.inside.hand.me.0 in let u = c.try_set.new.hand.me.0 in
    subst (λ (z : Known). IsWritten c.args.write z c.try_reshape-in-Full.new.self c.try_reshape-in-Full.result) c.self.view_is
    (saw_written c.args.write (known id v) (known id u) c.try_reshape-in-Full.new.self c.try_reshape-in-Full.result (keeps_looked id v u c.in-Full.ensures.set).0 c.try_reshape-in-Full.ensures)

pub returns-in-Taken-clause-room : goal.returns-in-Taken-clause-room
returns-in-Taken-clause-room c _ = c.in-Taken.ensures.minds

pub returns-in-Full-clause-room : goal.returns-in-Full-clause-room
returns-in-Full-clause-room c _ = c.in-Full.ensures.minds

use Rattle.std.proofs.Common.{subst}
use Rattle.optimistic.specs.face.Calls.{Known}
use Rattle.optimistic.specs.face.Workers.{known, IsWritten}
use Rattle.optimistic.proofs.lemmas.face.Knowing.{saw_written, refused_saw}
use Rattle.optimistic.proofs.face.worker.Worker.reshape_stocked.Goals as goal

pub returns-in-Err-Full : goal.returns-in-Err-Full
returns-in-Err-Full c =
    let before : Known = known c.self.inside.tree.now.nodes.table.shared.table_id c.self.inside.hand.me.0 in
    let saw = refused_saw c.args.write before c.reshape.new.self c.reshape.result c.in-Err-Full.field-0 c.in-Err-Full.is c.reshape.ensures in
    subst (λ (z : Known). IsWritten c.args.write z c.reshape_again.new.self c.reshape_again.result) c.self.view_is
    (saw_written c.args.write before c.reshape.new.self c.reshape_again.new.self c.reshape_again.result saw c.reshape_again.ensures)

pub returns-in-Err-Again : goal.returns-in-Err-Again
returns-in-Err-Again c =
    let before : Known = known c.self.inside.tree.now.nodes.table.shared.table_id c.self.inside.hand.me.0 in
    let again = c.reshape_again-in-Err-Again in
    let saw = refused_saw c.args.write before c.reshape.new.self c.reshape.result c.in-Err-Again.field-0 c.in-Err-Again.is c.reshape.ensures in
    subst (λ (z : Known). IsWritten c.args.write z again.new.self again.result) c.self.view_is
    (saw_written c.args.write before c.reshape.new.self again.new.self again.result saw again.ensures)

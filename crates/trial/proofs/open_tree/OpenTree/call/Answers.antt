use Rattle.trial.specs.Calling.{GoesOn, Calls}
use Rattle.trial.proofs.Filling.{if_ok}
use Rattle.trial.proofs.open_tree.OpenTree.call.Goals as goal

pub returns-clause-ok : goal.returns-clause-ok
returns-clause-ok c =
    if_ok (λ stands. GoesOn c.args.worker 9999 c.begin-begun.new.self c.begin-begun.result stands c.go_on.new.self)
    (λ stands. Calls c.args.self.now c.args.worker c.args.op c.args.closure stands c.go_on.new.self) c.go_on.result
    (λ stands g. (c.begin-begun.new.self, c.begin-begun.result, c.begin-begun.ensures, g)) c.go_on.ensures.ok

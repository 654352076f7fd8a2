use Rattle.std.proofs.Common.{Option, subst}
use Rattle.optimistic.specs.declared.drain.nexts.Pair.{Pair}
use Rattle.optimistic.specs.face.Scans.{FirstFrom}
use Rattle.optimistic.proofs.lemmas.face.Scanning.{some_there, none_there}
use Rattle.optimistic.proofs.face.worker.Worker.is_empty.Goals as goal

pub returns-in-Some : goal.returns-in-Some
returns-in-Some g c = some_there c.in-Some.field-0 c.args.self.now c.first.new.self (subst (λ (o : Option Pair). FirstFrom 0 o c.args.self.now c.first.new.self) c.in-Some.is c.first.ensures)

pub returns-in-None : goal.returns-in-None
returns-in-None g c = none_there c.args.self.now c.first.new.self (subst (λ (o : Option Pair). FirstFrom 0 o c.args.self.now c.first.new.self) c.in-None.is c.first.ensures)

use Rattle.std.proofs.Common.{refl, subst}
use Rattle.std.specs.Option.{option_map}
use Rattle.joint.specs.threads.Writing.{IsWritingTurn}
use Rattle.joint.proofs.lemmas.threads.Holding.{turn_of_call, turn_worker}
use Rattle.joint.proofs.threads.writes.WritingHoldsTurnsU64.turn.Goals as goal

pub write-report-requires-clause-call : goal.write-report-requires-clause-call
write-report-requires-clause-call g c = turn_of_call c.args.self.now.worker c.args.self.now.op (option_map (λ r. r.value) c.args.self.now.last) c.args.step c.requires

pub returns-clause-gives : goal.returns-clause-gives
returns-clause-gives g c =
    let worker = turn_worker c.args.self.now.worker c.args.self.now.op (option_map (λ r. r.value) c.args.self.now.last) c.args.step c.requires in
    (subst (λ y. IsWritingTurn g.W.Watch.watched y c.args.self.now.op c.args.self.now.call c.args.step c.write-report.result c.write-report.new.call) worker (_, _, c.write-report.ensures.turn), refl, refl)

use Rattle.std.proofs.Common.{refl, subst}
use Rattle.std.specs.Option.{option_map}
use Rattle.joint.proofs.lemmas.threads.Holding.{turn_of_call, turn_worker}
use Rattle.joint.proofs.threads.turns.HoldsTurns.turn.Goals as goal

pub turn-report-requires : goal.turn-report-requires
turn-report-requires g c = turn_of_call c.args.self.now.worker (g.T.Locked.asked c.args.self.now.call) (option_map (λ r. r.value) c.args.self.now.last) c.args.step c.requires

pub returns-clause-gives : goal.returns-clause-gives
returns-clause-gives g c =
    let worker = turn_worker c.args.self.now.worker (g.T.Locked.asked c.args.self.now.call) (option_map (λ r. r.value) c.args.self.now.last) c.args.step c.requires in
    (subst (λ y. g.T.Locked.holds y (g.T.Locked.asked c.args.self.now.call) c.args.step c.turn-report.result) worker c.turn-report.ensures.holds, refl, refl)

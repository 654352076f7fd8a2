use Rattle.trial.proofs.Ending.{ended_by, all_written, partly_written, ran_so}
use Rattle.trial.proofs.run.Program.finish.Goals as goal

pub returns-in-Ok : goal.returns-in-Ok
returns-in-Ok g c = λ had left held h.
    all_written had left held _ _ c.args.self.now.script.output c.args.end (ended_by had left held _ c.args.self.now c.args.end c.in_default.not-Writing h) c.in-Ok.ensures.ok

pub returns-in-Err : goal.returns-in-Err
returns-in-Err g c = λ had left held h.
    let e = c.in-Err.ensures.err in
    let not = c.in_default.not-Writing in
    ran_so _ _ _ _ _ e.0 (partly_written had left held _ _ c.args.self.now.script.output e.1 c.args.end not (ended_by had left held _ c.args.self.now c.args.end not h) e.2)

use Rattle.std.proofs.Common.{arith, refl}
use Rattle.trial.proofs.Ending.{few_lines, going_partly, ran_so, going_written}
use Rattle.trial.proofs.run.Program.run.Goals as goal

pub read_once-requires-clause-lines : goal.read_once-requires-clause-lines
read_once-requires-clause-lines g c = few_lines _ _ _ _ _ c.loop-end.invariant.0

pub returns-in-Some : goal.returns-in-Some
returns-in-Some g c = c.finish.ensures _ _ _ (c.in-Some.ensures.ends _ _ c.loop-end.invariant.0)

pub returns-in-Err : goal.returns-in-Err
returns-in-Err g c =
    let e = c.in-Err.ensures.err in
    ran_so _ _ _ _ _ e.0 (going_partly _ _ _ _ _ e.1 c.read_once.new.self (c.in_default.ensures.goes refl _ _ c.loop-end.invariant.0) e.2)

pub loop-end-preserved : goal.loop-end-preserved
loop-end-preserved g c =
    let i = c.loop-end.invariant in
    (going_written _ _ _ _ _ _ _ (c.in_default.ensures.goes refl _ _ i.0) (record { session = refl; lines = refl; output = c.in_default-flush.ensures.empty; unread = refl; taken = refl }) c.in_default-flush.ensures.ok, omega (arith, c.read_once.ensures.room, i.1))

use Rattle.trial.specs.declared.end.End.TheVariants.{Memory}
use Rattle.trial.proofs.Ending.{ran_nothing}
use Rattle.trial.proofs.OfMap.{ran_of_map}
use Rattle.trial.proofs.run.run.Goals as goal

pub returns-in-Ok-clause-map : goal.returns-in-Ok-clause-map
returns-in-Ok-clause-map g c = (
  c.run.result,
  c.status.ensures,
  ran_of_map (record {
    plays = c.calls_map.ensures.plays;
    scan = c.calls_map.ensures.scan;
    registers = c.calls_map.ensures.registers;
    fresh = c.calls_map.ensures.fresh;
  }) _ _ _ _ _ c.run.ensures,
)

pub returns-in-Err-clause-replies : goal.returns-in-Err-clause-replies
returns-in-Err-clause-replies g c = (Memory, c.status-in-Err.ensures, ran_nothing _ _)

pub returns-in-Err-clause-map : goal.returns-in-Err-clause-map
returns-in-Err-clause-map g c =
    let had = g.R.Read.remaining c.args.reader.now in
    let held = g.W.Write.contents c.args.writer.now in (
      Memory,
      c.status-in-Err.ensures,
      ran_of_map (record {
        plays = c.calls_map.ensures.plays;
        scan = c.calls_map.ensures.scan;
        registers = c.calls_map.ensures.registers;
        fresh = c.calls_map.ensures.fresh;
      }) had had held held Memory (ran_nothing had held),
    )

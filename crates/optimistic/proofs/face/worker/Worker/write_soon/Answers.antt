use Rattle.optimistic.proofs.lemmas.face.Knowing.{saw_written}
use Rattle.optimistic.proofs.face.worker.Worker.write_soon.Goals as goal

pub returns-clause-written : goal.returns-clause-written
returns-clause-written c = saw_written c.args.write c.args.self.now c.loop.self c.try_write-2.new.self c.try_write-2.result c.loop.invariant c.try_write-2.ensures.written

use Rattle.std.proofs.Common.{arith}
use Rattle.optimistic.proofs.lemmas.drain.Keys.{reaches}
use Rattle.optimistic.proofs.tree.run.lone_bit.Goals as goal

pub returns-clause-bit : goal.returns-clause-bit
returns-clause-bit c form log low makes = c.lone_pair.ensures form log low makes

pub returns-clause-knows : goal.returns-clause-knows
returns-clause-knows c w = let is = c.requires.byte in reaches c.args.from c.args.level c.args.byte c.last_key-end.result c.requires.level c.last_key-end.ensures (omega (arith, is))

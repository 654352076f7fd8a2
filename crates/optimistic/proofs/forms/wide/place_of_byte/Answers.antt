use Rattle.std.proofs.Common.{arith}
use Rattle.optimistic.proofs.lemmas.forms.FormLemmas.{wide_finds, wide_put, wide_take, values_finds}
use Rattle.optimistic.proofs.forms.wide.place_of_byte.Goals as goal

pub returns-clause-finds : goal.returns-clause-finds
returns-clause-finds c w = wide_finds w c.args.byte (omega arith)

pub returns-clause-values : goal.returns-clause-values
returns-clause-values c w = values_finds w c.args.byte (omega arith)

pub returns-clause-put : goal.returns-clause-put
returns-clause-put c w w' x y n some same = wide_put w w' c.args.byte x y n (omega arith) some same

pub returns-clause-take : goal.returns-clause-take
returns-clause-take c w w' n some same = wide_take w w' c.args.byte n (omega arith) some same

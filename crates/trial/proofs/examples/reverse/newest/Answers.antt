use Rattle.std.proofs.Common.{◌^◌, take, arith}
use Rattle.optimistic.proofs.Laws.{rest_is_lower}
use Rattle.trial.proofs.examples.reverse.newest.Goals as goal

pub returns : goal.returns
returns g c =
    let once = c.in-Ok.ensures.range in
    (once.log, once.holds.told.descending, λ key value low is. rest_is_lower once.log 0 (2 ^ 64) 4 (take c.in-Ok.count c.range_rev_inclusive_at_once.new.out) once.holds key value (omega arith) low is)

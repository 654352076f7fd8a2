use Rattle.std.proofs.Common.{codes}
use Rattle.std.proofs.lemmas.Result.{err_from_is_err_and}
use Rattle.trial.proofs.Passing.{breaks_first, puts_last, stops_last}
use Rattle.trial.proofs.printing.put_spaced.Goals as goal

pub returns-in_err-put-clause-err : goal.returns-in_err-put-clause-err
returns-in_err-put-clause-err g c =
    let p = err_from_is_err_and c.from_residual.result c.from_residual.ensures.1 in
    let b = c.in_err-put.ensures.err in
    rw (p.1, p.2) (b.0, breaks_first _ _ _ (codes " ") _ b.1)

pub returns-clause-ok : goal.returns-clause-ok
returns-clause-ok g c = puts_last _ _ _ _ _ _ _ _ _ c.in_ok-put.ensures.ok c.put_number.ensures.ok

pub returns-clause-err : goal.returns-clause-err
returns-clause-err g c = stops_last _ _ _ _ _ _ _ _ c.in_ok-put.ensures.ok c.put_number.ensures.err

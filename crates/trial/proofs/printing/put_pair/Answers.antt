use Rattle.std.proofs.Common.{◌++◌, codes, decimal}
use Rattle.std.proofs.lemmas.Result.{err_from_is_err_and}
use Rattle.trial.proofs.Passing.{passes_both, breaks_first, breaks_between, puts_last, stops_last}
use Rattle.trial.proofs.printing.put_pair.Goals as goal

pub returns-in_err-put-clause-err : goal.returns-in_err-put-clause-err
returns-in_err-put-clause-err g c =
    let p = err_from_is_err_and c.from_residual.result c.from_residual.ensures.1 in
    let b = c.in_err-put.ensures.err in
    rw (p.1, p.2) (b.0, breaks_first _ _ _ (codes " " ++ decimal c.args.key ++ codes ":") _ (breaks_first _ _ _ (codes " " ++ decimal c.args.key) _ (breaks_first _ _ _ (codes " ") _ b.1)))

pub returns-in_err-put_number-clause-err : goal.returns-in_err-put_number-clause-err
returns-in_err-put_number-clause-err g c =
    let p = err_from_is_err_and c.from_residual-in_err-put_number.result c.from_residual-in_err-put_number.ensures.1 in
    let b = c.in_err-put_number.ensures.err in
    rw (p.1, p.2) (b.0, breaks_first _ _ _ (codes " " ++ decimal c.args.key ++ codes ":") _ (breaks_between _ _ _ _ _ (codes " ") _ _ c.in_ok-put.ensures.ok b.1))

pub returns-in_err-put-2-clause-err : goal.returns-in_err-put-2-clause-err
returns-in_err-put-2-clause-err g c =
    let p = err_from_is_err_and c.from_residual-in_err-put-2.result c.from_residual-in_err-put-2.ensures.1 in
    let b = c.in_err-put-2.ensures.err in
    let q = passes_both _ _ _ _ _ _ _ _ c.in_ok-put.ensures.ok c.in_ok-put_number.ensures.ok in
    rw (p.1, p.2) (b.0, breaks_between _ _ _ _ _ _ _ _ q b.1)

pub returns-clause-ok : goal.returns-clause-ok
returns-clause-ok g c =
    let q = passes_both _ _ _ _ _ _ _ _ (passes_both _ _ _ _ _ _ _ _ c.in_ok-put.ensures.ok c.in_ok-put_number.ensures.ok) c.in_ok-put-2.ensures.ok in
    puts_last _ _ _ _ _ _ _ _ _ q c.put_number-2.ensures.ok

pub returns-clause-err : goal.returns-clause-err
returns-clause-err g c =
    let q = passes_both _ _ _ _ _ _ _ _ (passes_both _ _ _ _ _ _ _ _ c.in_ok-put.ensures.ok c.in_ok-put_number.ensures.ok) c.in_ok-put-2.ensures.ok in
    stops_last _ _ _ _ _ _ _ _ q c.put_number-2.ensures.err

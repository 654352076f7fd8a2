use Rattle.std.proofs.Common.{◌++◌, ◌∷◌, [], codes, decimal}
use Rattle.std.proofs.lemmas.Result.{err_from_is_err_and}
use Rattle.trial.proofs.Passing.{passes_both, breaks_first, breaks_between, puts_last, stops_last}
use Rattle.trial.proofs.printing.put_value.Goals as goal

pub returns-in_err-put-clause-err : goal.returns-in_err-put-clause-err
returns-in_err-put-clause-err g c =
    let p = err_from_is_err_and c.from_residual.result c.from_residual.ensures.1 in
    let b = c.in_err-put.ensures.err in
    rw (p.1, p.2) (b.0, breaks_first _ _ _ (codes "some " ++ decimal c.args.value) _ (breaks_first _ _ _ (codes "some ") _ b.1))

pub returns-in_err-put_number-clause-err : goal.returns-in_err-put_number-clause-err
returns-in_err-put_number-clause-err g c =
    let p = err_from_is_err_and c.from_residual-in_err-put_number.result c.from_residual-in_err-put_number.ensures.1 in
    let b = c.in_err-put_number.ensures.err in
    rw (p.1, p.2) (b.0, breaks_between _ _ _ _ _ (codes "some ") (decimal c.args.value) (10 ∷ []) c.in_ok-put.ensures.ok b.1)

pub returns-clause-ok : goal.returns-clause-ok
returns-clause-ok g c =
    let q = passes_both _ _ _ _ _ _ (codes "some ") (decimal c.args.value) c.in_ok-put.ensures.ok c.in_ok-put_number.ensures.ok in
    puts_last _ _ _ _ _ _ _ _ (10 ∷ []) q c.put-2.ensures.ok

pub returns-clause-err : goal.returns-clause-err
returns-clause-err g c =
    let q = passes_both _ _ _ _ _ _ (codes "some ") (decimal c.args.value) c.in_ok-put.ensures.ok c.in_ok-put_number.ensures.ok in
    stops_last _ _ _ _ _ _ _ (10 ∷ []) q c.put-2.ensures.err

use Rattle.std.proofs.Common.{◌++◌, ◌∷◌, [], codes}
use Rattle.std.proofs.lemmas.Result.{err_from_is_err_and}
use Rattle.trial.specs.Texts.{spaced}
use Rattle.trial.proofs.Passing.{passes_both, breaks_first, breaks_between, puts_last, stops_last}
use Rattle.trial.proofs.printing.put_drained.Goals as goal

pub returns-in_err-put-clause-err : goal.returns-in_err-put-clause-err
returns-in_err-put-clause-err g c =
    let p = err_from_is_err_and c.from_residual.result c.from_residual.ensures.1 in
    let b = c.in_err-put.ensures.err in
    rw (p.1, p.2) (b.0, breaks_first _ _ _ (codes "drain" ++ spaced c.args.key ++ spaced c.args.value) _ (breaks_first _ _ _ (codes "drain" ++ spaced c.args.key) _ (breaks_first _ _ _ (codes "drain") _ b.1)))

pub returns-in_err-put_spaced-clause-err : goal.returns-in_err-put_spaced-clause-err
returns-in_err-put_spaced-clause-err g c =
    let p = err_from_is_err_and c.from_residual-in_err-put_spaced.result c.from_residual-in_err-put_spaced.ensures.1 in
    let b = c.in_err-put_spaced.ensures.err in
    rw (p.1, p.2) (b.0, breaks_first _ _ _ (codes "drain" ++ spaced c.args.key ++ spaced c.args.value) _ (breaks_between _ _ _ _ _ (codes "drain") _ _ c.in_ok-put.ensures.ok b.1))

pub returns-in_err-put_spaced-2-clause-err : goal.returns-in_err-put_spaced-2-clause-err
returns-in_err-put_spaced-2-clause-err g c =
    let p = err_from_is_err_and c.from_residual-in_err-put_spaced-2.result c.from_residual-in_err-put_spaced-2.ensures.1 in
    let b = c.in_err-put_spaced-2.ensures.err in
    let q = passes_both _ _ _ _ _ _ _ _ c.in_ok-put.ensures.ok c.in_ok-put_spaced.ensures.ok in
    rw (p.1, p.2) (b.0, breaks_between _ _ _ _ _ _ _ (10 ∷ []) q b.1)

pub returns-clause-ok : goal.returns-clause-ok
returns-clause-ok g c =
    let q = passes_both _ _ _ _ _ _ _ _ (passes_both _ _ _ _ _ _ _ _ c.in_ok-put.ensures.ok c.in_ok-put_spaced.ensures.ok) c.in_ok-put_spaced-2.ensures.ok in
    (puts_last _ _ _ _ _ _ _ _ (10 ∷ []) q c.put-2.ensures.ok)

pub returns-clause-err : goal.returns-clause-err
returns-clause-err g c =
    let q = passes_both _ _ _ _ _ _ _ _ (passes_both _ _ _ _ _ _ _ _ c.in_ok-put.ensures.ok c.in_ok-put_spaced.ensures.ok) c.in_ok-put_spaced-2.ensures.ok in
    (stops_last _ _ _ _ _ _ _ (10 ∷ []) q c.put-2.ensures.err)

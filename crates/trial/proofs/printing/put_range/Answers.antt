use Rattle.std.proofs.Common.{◌++◌, ◌∷◌, [], codes, decimal, length}
use Rattle.std.proofs.lemmas.Result.{err_from_is_err_and}
use Rattle.trial.specs.Texts.{pairs_text}
use Rattle.trial.proofs.Passing.{passes_both, breaks_first, breaks_between, puts_last, stops_last}
use Rattle.trial.proofs.printing.put_range.Goals as goal

pub returns-in_err-put-clause-err : goal.returns-in_err-put-clause-err
returns-in_err-put-clause-err g c =
    let p = err_from_is_err_and c.from_residual.result c.from_residual.ensures.1 in
    let b = c.in_err-put.ensures.err in
    let n = decimal (length c.args.places.now) in
    rw (p.1, p.2) (b.0, breaks_first _ _ _ (codes "range " ++ n ++ pairs_text c.args.places.now) _ (breaks_first _ _ _ (codes "range " ++ n) _ (breaks_first _ _ _ (codes "range ") _ b.1)))

pub returns-in_err-put_number-clause-err : goal.returns-in_err-put_number-clause-err
returns-in_err-put_number-clause-err g c =
    let p = err_from_is_err_and c.from_residual-in_err-put_number.result c.from_residual-in_err-put_number.ensures.1 in
    let b = c.in_err-put_number.ensures.err in
    let places = c.args.places.now in
    let n = decimal c.len.result in
    rw (p.1, p.2, ← c.len.ensures)
    (b.0, breaks_first _ _ _ (codes "range " ++ n ++ pairs_text places) _ (breaks_between _ _ _ _ _ (codes "range ") n (pairs_text places) c.in_ok-put.ensures.ok b.1))

pub returns-in_err-put_pairs-clause-err : goal.returns-in_err-put_pairs-clause-err
returns-in_err-put_pairs-clause-err g c =
    let p = err_from_is_err_and c.from_residual-in_err-put_pairs.result c.from_residual-in_err-put_pairs.ensures.1 in
    let b = c.in_err-put_pairs.ensures.err in
    let q = passes_both _ _ _ _ _ _ (codes "range ") (decimal c.len.result) c.in_ok-put.ensures.ok c.in_ok-put_number.ensures.ok in
    rw (p.1, p.2, ← c.len.ensures, ← c.as_slice.ensures) (b.0, breaks_between _ _ _ _ _ _ _ (10 ∷ []) q b.1)

pub returns-clause-ok : goal.returns-clause-ok
returns-clause-ok g c =
    let q = passes_both _ _ _ _ _ _ (codes "range ") (decimal c.len.result) c.in_ok-put.ensures.ok c.in_ok-put_number.ensures.ok in
    rw (← c.len.ensures, ← c.as_slice.ensures) (puts_last _ _ _ _ _ _ _ _ (10 ∷ []) (passes_both _ _ _ _ _ _ _ _ q c.in_ok-put_pairs.ensures.ok) c.put-2.ensures.ok)

pub returns-clause-err : goal.returns-clause-err
returns-clause-err g c =
    let q = passes_both _ _ _ _ _ _ (codes "range ") (decimal c.len.result) c.in_ok-put.ensures.ok c.in_ok-put_number.ensures.ok in
    rw (← c.len.ensures, ← c.as_slice.ensures) (stops_last _ _ _ _ _ _ _ (10 ∷ []) (passes_both _ _ _ _ _ _ _ _ q c.in_ok-put_pairs.ensures.ok) c.put-2.ensures.err)

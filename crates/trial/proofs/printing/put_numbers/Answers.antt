use Rattle.std.proofs.Common.{List, ℕ, sym, subst}
use Rattle.std.proofs.lemmas.Result.{err_from_is_err_and}
use Rattle.trial.specs.Output.{Passes, Breaks}
use Rattle.trial.specs.Texts.{spaced}
use Rattle.trial.proofs.Passing.{passes_both, breaks_between, texts_more, texts_around}
use Rattle.trial.proofs.printing.put_numbers.Goals as goal

pub returns-in_err-put_spaced-clause-err : goal.returns-in_err-put_spaced-clause-err
returns-in_err-put_spaced-clause-err g c =
    let p = err_from_is_err_and c.from_residual.result c.from_residual.ensures.1 in
    let b = c.in_err-put_spaced.ensures.err in
    let P : List ℕ → Type 0 = Breaks (g.W.Write.contents c.args.writer.now) c.args.output.now (g.W.Write.contents c.put_spaced.new.writer) in
    let whole = texts_around spaced c.args.numbers.now c.loop-n.n-index 0 c.loop-n-test.true in
    rw (p.1, p.2) (b.0, subst P (sym whole) (breaks_between _ _ _ _ _ _ _ _ c.loop-n.invariant b.1))

pub loop-n-preserved : goal.loop-n-preserved
loop-n-preserved g c =
    let P : List ℕ → Type 0 = Passes (g.W.Write.contents c.args.writer.now) c.args.output.now (g.W.Write.contents c.put_spaced.new.writer) c.put_spaced.new.output in
    subst P (sym (texts_more spaced c.args.numbers.now c.loop-n.n-index 0 c.loop-n-test.true))
    (passes_both _ _ _ _ _ _ _ _ c.loop-n.invariant c.in_ok-put_spaced.ensures.ok)

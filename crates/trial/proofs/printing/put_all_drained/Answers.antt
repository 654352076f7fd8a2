use Rattle.std.proofs.Common.{List, ℕ, sym, subst}
use Rattle.std.proofs.lemmas.Result.{err_from_is_err_and}
use Rattle.trial.specs.Output.{Passes, Breaks}
use Rattle.trial.specs.Texts.{drained_text}
use Rattle.trial.proofs.Passing.{passes_both, breaks_between, texts_more, texts_around}
use Rattle.trial.proofs.printing.put_all_drained.Goals as goal

pub returns-in_err-put_drained-clause-err : goal.returns-in_err-put_drained-clause-err
returns-in_err-put_drained-clause-err g c =
    let p = err_from_is_err_and c.from_residual.result c.from_residual.ensures.1 in
    let b = c.in_err-put_drained.ensures.err in
    let P : List ℕ → Type 0 = Breaks (g.W.Write.contents c.args.writer.now) c.args.output.now (g.W.Write.contents c.put_drained.new.writer) in
    let whole = texts_around drained_text c.args.pairs.now c.loop-key.key-index (0, 0) c.loop-key-test.true in
    rw (p.1, p.2) (b.0, subst P (sym whole) (breaks_between _ _ _ _ _ _ _ _ c.loop-key.invariant b.1))

pub loop-key-preserved : goal.loop-key-preserved
loop-key-preserved g c =
    let P : List ℕ → Type 0 = Passes (g.W.Write.contents c.args.writer.now) c.args.output.now (g.W.Write.contents c.put_drained.new.writer) c.put_drained.new.output in
    subst P (sym (texts_more drained_text c.args.pairs.now c.loop-key.key-index (0, 0) c.loop-key-test.true))
    (passes_both _ _ _ _ _ _ _ _ c.loop-key.invariant c.in_ok-put_drained.ensures.ok)

use Rattle.std.proofs.Common.{arith, length-drop, ap}
use Rattle.std.proofs.lemmas.Result.{err_from_is_err_and}
use Rattle.trial.proofs.Feeding.{at_feed, at_byte, stops_at, stops_long, long_is_bad, rest_plain, reached_so}
use Rattle.trial.proofs.script.Script.lines.Goals as goal
use Rattle.trial.proofs.script.Script.lines.Goals.{then-byte-eq10+in_ok-line, else-byte-eq10}

pub line-requires : goal.line-requires
line-requires g c = omega (arith, c.loop-i.invariant.few, c.loop-i.invariant.below)

pub returns-in_err-line-clause-err : goal.returns-in_err-line-clause-err
returns-in_err-line-clause-err g c =
    let p = err_from_is_err_and c.from_residual.result c.from_residual.ensures.1 in
    rw (p.1, p.2) (stops_at _ _ _ _ _ _ _ _ _ _ c.loop-i.invariant c.loop-i-test.true c.if-byte-eq10.true c.in_err-line.ensures.err)

pub overflow_add-self : goal.overflow_add-self
overflow_add-self g c = omega (arith, c.in_ok-line.ensures.ok.lines, c.loop-i.invariant.few, c.loop-i.invariant.below)

pub loop-i-preserved : goal.loop-i-preserved
loop-i-preserved g c = elim c.if-byte-eq10.branch [
  | then-byte-eq10+in_ok-line w ↦ reached_so _ _ _ _ _ _ _ _ _ _ w.start-is w.self-is (ap g.W.Write.contents w.writer-is)
      (at_feed _ _ _ _ _ _ _ _ _ c.loop-i.invariant c.loop-i-test.true w.if-byte-eq10.true w.in_ok-line.ensures.ok)
  | else-byte-eq10 w ↦ reached_so _ _ _ _ _ _ _ _ _ _ w.start-is w.self-is (ap g.W.Write.contents w.writer-is)
      (at_byte _ _ _ _ _ _ _ c.loop-i.invariant w.if-byte-eq10.false)
]

pub bad_line-requires : goal.bad_line-requires
bad_line-requires g c = omega (arith, c.loop-i.invariant.few, c.loop-i.invariant.below, c.loop-i.auto.i-end)

pub returns-then-bytes-start-gt-LINE_MAX-clause-err : goal.returns-then-bytes-start-gt-LINE_MAX-clause-err
returns-then-bytes-start-gt-LINE_MAX-clause-err g c =
    stops_long _ _ _ _ _ _ _ _ _ _ c.loop-i.invariant c.loop-i-test.false c.if-bytes-start-gt-LINE_MAX.true
    (c.bad_line.ensures _ (long_is_bad _ (omega (arith, length-drop c.loop-i.start c.args.bytes.now, c.if-bytes-start-gt-LINE_MAX.true))))

pub returns-clause-ok : goal.returns-clause-ok
returns-clause-ok g c = (
  c.loop-i.invariant.goes,
  rest_plain _ _ _ c.loop-i-test.false c.loop-i.invariant.plain,
  omega (arith, length-drop c.loop-i.start c.args.bytes.now, c.if-bytes-start-gt-LINE_MAX.false),
)

pub returns-clause-within : goal.returns-clause-within
returns-clause-within g c = omega (arith, c.loop-i.invariant.below, c.loop-i.auto.i-end)

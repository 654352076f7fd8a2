use Rattle.std.proofs.Common.{refl}
use Rattle.std.proofs.Output.{has_written_of_eq, has_written_append}
use Rattle.congee.proofs.lemmas.owned.StatsTexts.{lines_more, lines_all}
use Rattle.congee.proofs.owned.stats.NodeStatsDisplay.fmt.Goals as goal

pub loop-number-preserved : goal.loop-number-preserved
loop-number-preserved g c = λ plain.
    let so_far = c.loop-number.invariant plain in
    let line = c.in_ok-write.ensures.writes so_far.plain refl in
    has_written_of_eq _ _ _ _ _ (lines_more _ _ _ c.loop-number-test.true)
    (has_written_append _ _ _ _ _ _ so_far line)

pub returns-clause-writes : goal.returns-clause-writes
returns-clause-writes g c = λ plain ok.
    let so_far = c.loop-number.invariant plain in
    let whole = (rw c.total.ensures at c.write-2.ensures.writes) so_far.plain ok in
    let all = lines_all c.deref-level-items.result.now c.loop-number.number c.loop-number-test.false in
    has_written_of_eq _ _ _ _ _ (rw c.deref-level-items.ensures.value refl) (has_written_append _ _ _ _ _ _ (has_written_of_eq _ _ _ _ _ all so_far) whole)

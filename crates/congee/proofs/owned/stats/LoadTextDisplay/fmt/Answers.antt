use Rattle.std.proofs.Common.{◌≡◌, [], cond, nat_lt, codes, ap, arith}
use Rattle.std.proofs.Output.{has_written_of_eq}
use Rattle.std.proofs.lemmas.Bool.{lt-ltb, le-ltb}
use Rattle.congee.proofs.lemmas.owned.StatsTexts.{load_written}
use Rattle.congee.proofs.owned.stats.LoadTextDisplay.fmt.Goals as goal
use Rattle.congee.proofs.owned.stats.LoadTextDisplay.fmt.Goals.{then-load-lt50, else-load-lt50}

pub returns-clause-writes : goal.returns-clause-writes
returns-clause-writes g c = λ plain ok.
    let remark : c.if-load-lt50.remark.now ≡ cond (nat_lt c.load-load.result 50) (codes " (too low)") [] = elim c.if-load-lt50.branch [
      | then-load-lt50 w ↦ rw (lt-ltb _ _ w.if-load-lt50.true) (ap (λ r. r.now) w.remark-is)
      | else-load-lt50 w ↦ rw (le-ltb c.load-load.result 50 (omega (arith, w.if-load-lt50.false))) (ap (λ r. r.now) w.remark-is)
    ] in
    has_written_of_eq _ _ _ _ _ (load_written _ _ _ _ (rw (← c.filled.ensures.sum, ← c.node_count.ensures.sum) c.load-load.ensures) remark)
    ((rw c.laid_out.ensures at c.write.ensures.writes) plain ok)

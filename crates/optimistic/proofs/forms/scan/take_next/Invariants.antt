use Rattle.std.specs.Prelude.{ℕ, ◌-◌}
use Rattle.optimistic.specs.forms.Wide.{IsRest}
use Rattle.optimistic.proofs.forms.scan.take_next.Given as goal

abbrev pub invariant-loop-rest : goal.invariant-loop-rest
invariant-loop-rest l = ((from : ℕ) × IsRest l.masks from l.rest) × ((from : ℕ) → IsRest l.masks from l.initial.rest → IsRest l.masks from l.rest)

abbrev pub decreases-loop-rest : goal.decreases-loop-rest
decreases-loop-rest l = 4 - l.rest.word

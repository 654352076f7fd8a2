use Rattle.std.proofs.Common.{◌≡◌, true, false, arith, refl}
use Rattle.optimistic.proofs.lemmas.forms.Maps.{child_there, child_none}
use Rattle.optimistic.proofs.forms.wide.has_child.Goals as goal

pub returns-then-word-eq0 : goal.returns-then-word-eq0
returns-then-word-eq0 c = (λ (t : false ≡ true). absurd (cc), λ e. let z = child_none (λ i. c.args.word) 0 c.if-word-eq0.true in absurd (omega (arith, z, e)))

pub returns-else-word-eq0 : goal.returns-else-word-eq0
returns-else-word-eq0 c = (λ t. child_there (λ i. c.args.word) 0 c.if-word-eq0.false, λ e. refl)

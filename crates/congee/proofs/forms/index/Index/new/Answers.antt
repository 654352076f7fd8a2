use Rattle.std.proofs.Common.{refl, arith, ◌∙◌, ◌+◌}
use Rattle.std.proofs.lemmas.List.{get_or-replicate, length-set}
use Rattle.congee.proofs.lemmas.forms.ChainLemmas.{all_free, one_more_linked}
use Rattle.congee.proofs.forms.index.Index.new.Goals as goal

pub loop-place-preserved : goal.loop-place-preserved
loop-place-preserved c =
    (length-set c.loop-place.next c.loop-place.place (c.loop-place.place + 1) ∙ c.loop-place.invariant.0, one_more_linked c.loop-place.next c.loop-place.place (omega (arith, c.loop-place.invariant.0, c.loop-place-test.true)) c.loop-place.invariant.1)

pub returns-clause-ok : goal.returns-clause-ok
returns-clause-ok c = all_free _ refl refl refl c.loop-place.invariant.0 (λ b l. get_or-replicate 256 b 48 0 l) (λ j l. c.loop-place.invariant.1 j (omega (arith, c.loop-place-test.false)))

pub returns-clause-none : goal.returns-clause-none
returns-clause-none c = λ b l. get_or-replicate 256 b 48 0 l

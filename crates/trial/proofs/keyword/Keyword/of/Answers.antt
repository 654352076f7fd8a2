use Rattle.std.proofs.Common.{◌≡◌, ap, sym, ◌∙◌, below_more, get_or, arith}
use Rattle.std.proofs.lemmas.Bool.{true≢false}
use Rattle.std.proofs.lemmas.Bool.Decides.{Decides-eqb}
use Rattle.std.proofs.lemmas.Slice.Eq.{slice_eq-Decides}
use Rattle.trial.specs.declared.keyword.Keyword.TheVariants.{New}
use Rattle.trial.specs.Words.{text_of}
use Rattle.trial.proofs.Keywords.{at_place, place_below, place_of, all}
use Rattle.trial.proofs.keyword.Keyword.of.Goals as goal

pub loop-key-preserved : goal.loop-key-preserved
loop-key-preserved c =
    below_more (λ i. c.args.word.now ≡ text_of (get_or all i New) → ⊥) c.loop-key.key-index c.loop-key.invariant
    (λ e. let same : c.text.result.now ≡ text_of (get_or all c.loop-key.key-index New) = c.text.ensures in
    true≢false (sym ((slice_eq-Decides Decides-eqb _ _ _ c.eq.ensures).1 (same ∙ sym e)) ∙ c.if-eq.false))

pub returns-clause-none : goal.returns-clause-none
returns-clause-none c = λ k e. c.loop-key.invariant (place_of k) (omega (arith, place_below k)) (e ∙ ap text_of (sym (at_place k New)))

use Rattle.joint.proofs.lemmas.calls.PlainAgain.{runs_again}
use Rattle.joint.proofs.lemmas.calls.PlainStart.{opens_plain}
use Rattle.joint.proofs.lemmas.calls.PlainSteps.{run_follows}
use Rattle.joint.proofs.calls.laws.runs_plain.Goals as goal

pub returns-clause-follows : goal.returns-clause-follows
returns-clause-follows g c = λ s s' steps reports order p. run_follows _ _ (λ f. record {
  steps = c.numbered.ensures.steps f;
  others = c.numbered.ensures.others;
  spared = c.numbered.ensures.spared;
  begins = c.numbered.ensures.begins;
}) s s' steps reports order p

pub returns-clause-alike : goal.returns-clause-alike
returns-clause-alike g c = λ most p a b q r. runs_again _ most p a b q r

pub returns-clause-opens : goal.returns-clause-opens
returns-clause-opens g c = λ limits charge limit s. opens_plain limits charge limit s

use Rattle.std.proofs.Common.{false}
use Rattle.congee.proofs.lemmas.protocol.FillingCalls.{filled_opens, filled_begins, filled_branch, filled_step, filled_spared}
use Rattle.congee.proofs.protocol.machine.Machine.filled.Goals as goal

pub returns-clause-opens : goal.returns-clause-opens
returns-clause-opens g c = λ by_form h ms. filled_opens by_form _ h ms

pub returns-clause-begins : goal.returns-clause-begins
returns-clause-begins g c = λ by_form h ms i new. filled_begins by_form _ h ms i new

pub returns-clause-steps : goal.returns-clause-steps
returns-clause-steps g c = λ by_form s i a h h' ms m m' d fail answer. filled_step by_form _ _ _ _ _ i a h h' ms m m' d fail answer

pub returns-clause-spared : goal.returns-clause-spared
returns-clause-spared g c = λ by_form a h h' ms. filled_spared by_form _ _ _ a h h' ms

pub returns-clause-branch : goal.returns-clause-branch
returns-clause-branch g c = λ h ms f. filled_branch false h f.tree

use Rattle.congee.proofs.lemmas.protocol.Unlinking.{linked_in}
use Rattle.congee.proofs.lemmas.protocol.Handing.{leads_linked}
use Rattle.congee.proofs.lemmas.protocol.Wants.{holds_alike}
use Rattle.congee.proofs.protocol.machine.Machine.tree.Goals as goal

pub returns-clause-linked : goal.returns-clause-linked
returns-clause-linked g c = λ a h n. linked_in a h n

pub returns-clause-leads : goal.returns-clause-leads
returns-clause-leads g c = λ a h. leads_linked a h

pub returns-clause-alike : goal.returns-clause-alike
returns-clause-alike g c = λ a h. holds_alike a h

use Rattle.joint.proofs.lemmas.nodes.Copying.{names_first, values_first}
use Rattle.joint.proofs.nodes.slot.holds_names.Goals as goal

pub returns-in-Some-default-Node-clause-names : goal.returns-in-Some-default-Node-clause-names
returns-in-Some-default-Node-clause-names g c = λ e. names_first c.args.node.now c.in-Some-default-Node.field-0-0 c.in-Some-default-Node.field-0-1.now c.in-Some-default-Node.field-0-1-0 c.requires.alike c.in-Some-default-Node.ensures c.in-Some-default-Node.field-0-1-is

pub returns-in-Some-default-Value-clause-values : goal.returns-in-Some-default-Value-clause-values
returns-in-Some-default-Value-clause-values g c = λ e. values_first c.args.node.now c.in-Some-default-Value.field-0-0 c.in-Some-default-Value.field-0-1.now c.in-Some-default-Value.field-0-1-0 c.requires.alike c.in-Some-default-Value.ensures c.in-Some-default-Value.field-0-1-is

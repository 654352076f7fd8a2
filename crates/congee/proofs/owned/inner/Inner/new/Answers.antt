use Rattle.std.proofs.Common.{refl}
use Rattle.congee.specs.owned.Entries.{node_by}
use Rattle.congee.proofs.lemmas.owned.Entering.{bare_by}
use Rattle.congee.proofs.owned.inner.Inner.new.Goals as goal

pub returns-clause-children : goal.returns-clause-children
returns-clause-children g c = bare_by c.new.result c.in_ok-new.field-0 (node_by c.new.result c.in_ok-new.field-0) refl c.in_ok-new.ensures.entries

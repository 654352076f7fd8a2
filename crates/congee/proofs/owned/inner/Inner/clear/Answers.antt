use Rattle.std.proofs.Common.{refl}
use Rattle.congee.specs.owned.Entries.{node_by}
use Rattle.congee.proofs.lemmas.owned.Entering.{cleared}
use Rattle.congee.proofs.owned.inner.Inner.clear.Goals as goal

pub returns : goal.returns
returns g c = cleared c.self.inside.prefix c.self.inside.places c.args.self.now c.self.view_is c.clear.new.self (node_by c.self.inside.prefix c.clear.new.self) refl c.clear.ensures

use Rattle.std.proofs.Common.{◌∙◌}
use Rattle.congee.proofs.lemmas.owned.Entering.{full_by}
use Rattle.congee.proofs.owned.inner.Inner.is_full.Goals as goal

pub returns : goal.returns
returns g c = c.is_full.ensures ∙ full_by c.self.inside.prefix c.self.inside.places c.args.self.now c.self.view_is

use Rattle.std.proofs.Common.{subst}
use Rattle.congee.specs.forms.Bytes.{Lists}
use Rattle.congee.proofs.forms.sorted.Sorted.children_from.Goals as goal

pub returns : goal.returns
returns g c = subst (λ m. Lists m c.args.from c.children_from.result.now) c.self.view_is c.children_from.ensures

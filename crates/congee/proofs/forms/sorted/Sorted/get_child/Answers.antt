use Rattle.std.proofs.Common.{ap, ◌∙◌}
use Rattle.std.specs.FinMap as map
use Rattle.congee.proofs.forms.sorted.Sorted.get_child.Goals as goal

pub returns : goal.returns
returns g c = c.get_child.ensures ∙ ap (λ m. map.get m c.args.byte) c.self.view_is

use Rattle.std.proofs.Common.{subst}
use Rattle.congee.specs.forms.Bytes.{IsLastBelow}
use Rattle.congee.proofs.lemmas.forms.LastBytes.{indexed_last}
use Rattle.congee.proofs.forms.indexed.Indexed.last_below.Goals as goal

pub returns : goal.returns
returns g c = subst (λ m. IsLastBelow m c.args.end c.last_below.result) c.self.view_is (indexed_last c.self.invariant c.args.end c.requires c.last_below.result c.last_below.ensures)

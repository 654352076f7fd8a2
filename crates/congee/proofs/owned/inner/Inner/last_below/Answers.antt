use Rattle.std.proofs.Common.{subst}
use Rattle.congee.specs.forms.Bytes.{IsLastBelow}
use Rattle.congee.specs.owned.Entries.{child_by, entries_in}
use Rattle.congee.proofs.lemmas.forms.LastBytes.{last_mapped}
use Rattle.congee.proofs.lemmas.owned.Entering.{children_at}
use Rattle.congee.proofs.owned.inner.Inner.last_below.Goals as goal

pub returns : goal.returns
returns g c =
    let f = child_by c.self.inside.prefix in
    let m = entries_in c.self.inside.places in
    subst (λ k. IsLastBelow k c.args.end c.last_below.result)
    (children_at c.self.inside.prefix c.self.inside.places c.args.self.now c.self.view_is) (last_mapped f m c.args.end c.last_below.result c.last_below.ensures)

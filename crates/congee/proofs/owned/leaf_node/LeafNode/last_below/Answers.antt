use Rattle.std.proofs.Common.{subst}
use Rattle.congee.specs.forms.Bytes.{IsLastBelow}
use Rattle.congee.specs.owned.Values.{child_kept, form_in, kept_in}
use Rattle.congee.proofs.lemmas.forms.LaidLemmas.{children_at}
use Rattle.congee.proofs.lemmas.forms.LastBytes.{last_mapped}
use Rattle.congee.proofs.owned.leaf_node.LeafNode.last_below.Goals as goal

pub returns : goal.returns
returns g c =
    let f = child_kept g.P.Stored.value_in in
    let m = kept_in c.self.inside.values in
    subst (λ k. IsLastBelow k c.args.end c.last_below.result)
    (children_at f (form_in c.self.inside.values) c.self.inside.prefix m c.args.self.now c.self.view_is) (last_mapped f m c.args.end c.last_below.result c.last_below.ensures)

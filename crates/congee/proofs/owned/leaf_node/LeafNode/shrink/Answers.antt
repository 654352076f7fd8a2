use Rattle.std.proofs.Common.{◌≡◌, ap, arith}
use Rattle.congee.specs.forms.Forms.{capacity_of, form_of}
use Rattle.congee.specs.owned.ValueRoom.{values_fits}
use Rattle.congee.specs.owned.Values.{form_in}
use Rattle.congee.specs.protocol.Steps.{form_below}
use Rattle.congee.proofs.lemmas.owned.Keeping.{form_at, len_at}
use Rattle.congee.proofs.owned.leaf_node.LeafNode.shrink.Goals as goal

pub shrink-requires : goal.shrink-requires
shrink-requires g c =
    let l = len_at g.P.Stored.value_in c.self.inside.prefix c.self.inside.values c.args.self.now c.self.view_is in
    let f : capacity_of (form_below (form_of c.args.self.now)) ≡ capacity_of (form_below (form_in c.self.inside.values)) = ap (λ t. capacity_of (form_below t)) (form_at g.P.Stored.value_in c.self.inside.prefix c.self.inside.values c.args.self.now c.self.view_is) in
    let r = c.requires.room in
    (values_fits g.row.P-Kept g.met.P.Kept.Small.small, omega (arith, l, f, r))

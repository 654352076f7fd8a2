use Rattle.std.proofs.Common.{◌≡◌, ap, arith}
use Rattle.congee.specs.forms.Forms.{capacity_of, form_of}
use Rattle.congee.specs.owned.EntryRoom.{places_fits}
use Rattle.congee.specs.owned.Entries.{form_in}
use Rattle.congee.specs.protocol.Steps.{form_below}
use Rattle.congee.proofs.lemmas.owned.Entering.{form_at, len_at}
use Rattle.congee.proofs.owned.inner.Inner.shrink.Goals as goal

pub shrink-requires : goal.shrink-requires
shrink-requires g c =
    let l = len_at c.self.inside.prefix c.self.inside.places c.args.self.now c.self.view_is in
    let f : capacity_of (form_below (form_of c.args.self.now)) ≡ capacity_of (form_below (form_in c.self.inside.places)) = ap (λ t. capacity_of (form_below t)) (form_at c.self.inside.prefix c.self.inside.places c.args.self.now c.self.view_is) in
    let r = c.requires.room in
    (places_fits g.row.P g.met.P.Small.small, omega (arith, l, f, r))

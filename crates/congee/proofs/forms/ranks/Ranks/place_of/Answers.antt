use Rattle.std.proofs.Common.{◌≡◌, length, ap, arith, rules}
use Rattle.congee.proofs.lemmas.forms.Ranks.{row_length, row_ordered, row_within, row_below, row_at}
use Rattle.congee.proofs.forms.ranks.Ranks.place_of.Goals as goal

pub place_in-requires : goal.place_in-requires
place_in-requires g c =
    let size : length c.self.inside.bytes ≡ g.row.N = search rules in
    let ordered = row_ordered g.row.N c.self.inside.bytes c.self.inside.len c.self.invariant size (rw c.self.view_is c.requires) in
    (search rules, (c.self.invariant.narrow, ordered))

pub returns-clause-fits : goal.returns-clause-fits
returns-clause-fits g c =
    let size : length c.self.inside.bytes ≡ g.row.N = search rules in
    omega (arith, ap length c.self.view_is, row_length _ _ _ c.self.invariant size, c.self.invariant.fits)

pub returns-clause-within : goal.returns-clause-within
returns-clause-within g c =
    let size : length c.self.inside.bytes ≡ g.row.N = search rules in
    rw (← c.self.view_is) (row_within _ _ _ c.self.invariant size c.args.byte _ (search rules) c.place_in.ensures.within c.place_in.ensures.below)

pub returns-clause-below : goal.returns-clause-below
returns-clause-below g c =
    let size : length c.self.inside.bytes ≡ g.row.N = search rules in
    rw (← c.self.view_is) (row_below _ _ _ c.self.invariant size c.args.byte _ (search rules) c.place_in.ensures.within c.place_in.ensures.below)

pub returns-clause-at : goal.returns-clause-at
returns-clause-at g c =
    let size : length c.self.inside.bytes ≡ g.row.N = search rules in
    rw (← c.self.view_is) (row_at _ _ _ c.self.invariant size c.args.byte _ (search rules) c.place_in.ensures.within c.place_in.ensures.below c.place_in.ensures.at)

use Rattle.std.proofs.Common.{◌≡◌, length, ap, arith, rules}
use Rattle.congee.proofs.lemmas.forms.Ranks.{row_length}
use Rattle.congee.proofs.forms.ranks.Ranks.len.Goals as goal

pub returns-clause-count : goal.returns-clause-count
returns-clause-count g c =
    let size : length c.self.inside.bytes ≡ g.row.N = search rules in
    let long = row_length g.row.N c.self.inside.bytes c.self.inside.len c.self.invariant size in
    let whole = ap length c.self.view_is in
    omega (arith, long, whole)

pub returns-clause-fits : goal.returns-clause-fits
returns-clause-fits g c = c.self.invariant.fits

use Rattle.std.proofs.Common.{ℕ, List, ◌≡◌, length, refl, ap, ◌∙◌, arith, rules}
use Rattle.std.specs.List.{remove}
use Rattle.congee.proofs.lemmas.forms.Ranks.{row_length, remove_row, remove_list}
use Rattle.congee.proofs.forms.ranks.Ranks.remove.Goals as goal

pub copy_within-requires-clause-start_le_end : goal.copy_within-requires-clause-start_le_end
copy_within-requires-clause-start_le_end g c =
    let size : length c.self.inside.bytes ≡ g.row.N = search rules in
    let long = row_length g.row.N c.self.inside.bytes c.self.inside.len c.self.invariant size in
    let whole = ap length c.self.view_is in
    omega (arith, long, whole, c.requires)

pub copy_within-requires-clause-in_bounds : goal.copy_within-requires-clause-in_bounds
copy_within-requires-clause-in_bounds g c =
    let size : length c.self.inside.bytes ≡ g.row.N = search rules in
    omega (arith, size, c.self.invariant.fits)

pub copy_within-requires-clause-dest_in_bounds : goal.copy_within-requires-clause-dest_in_bounds
copy_within-requires-clause-dest_in_bounds g c =
    let size : length c.self.inside.bytes ≡ g.row.N = search rules in
    let long = row_length g.row.N c.self.inside.bytes c.self.inside.len c.self.invariant size in
    let whole = ap length c.self.view_is in
    omega (arith, size, long, whole, c.requires, c.self.invariant.fits)

pub invariant_of-self : goal.invariant_of-self
invariant_of-self g c =
    let size : length c.self.inside.bytes ≡ g.row.N = search rules in
    let long = row_length g.row.N c.self.inside.bytes c.self.inside.len c.self.invariant size in
    let whole = ap length c.self.view_is in
    let by = c.copy_within.ensures.by_index in
    remove_row g.row.N c.self.inside.bytes _ c.self.inside.len c.args.place 255 c.self.invariant size c.copy_within.ensures.len (omega arith) (omega (arith, long, whole, c.requires)) by.0 by.1 by.2 refl

pub returns : goal.returns
returns g c =
    let size : length c.self.inside.bytes ≡ g.row.N = search rules in
    let long = row_length g.row.N c.self.inside.bytes c.self.inside.len c.self.invariant size in
    let whole = ap length c.self.view_is in
    let by = c.copy_within.ensures.by_index in
    remove_list g.row.N c.self.inside.bytes _ c.self.inside.len c.args.place 255 c.self.invariant size c.copy_within.ensures.len (omega arith) (omega (arith, long, whole, c.requires)) by.0 by.1 by.2 ∙ ap (λ (l : List ℕ). remove l c.args.place) c.self.view_is

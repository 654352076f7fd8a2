use Rattle.std.proofs.Common.{ℕ, List, ◌≡◌, length, get_or, sym, ap, ◌∙◌, arith, rules}
use Rattle.std.proofs.lemmas.List.{get_or-take}
use Rattle.congee.proofs.lemmas.forms.Ranks.{row_length}
use Rattle.congee.proofs.forms.ranks.Ranks.at.Goals as goal

pub returns : goal.returns
returns g c =
    let size : length c.self.inside.bytes ≡ g.row.N = search rules in
    let long = row_length g.row.N c.self.inside.bytes c.self.inside.len c.self.invariant size in
    let whole = ap length c.self.view_is in
    sym (get_or-take c.self.inside.len c.self.inside.bytes c.args.place 0 (omega (arith, long, whole, c.requires))) ∙ ap (λ (l : List ℕ). get_or l c.args.place 0) c.self.view_is

use Rattle.std.proofs.Common.{ℕ, ◌≡◌, ◌≤◌, MatchOption, None, subst}
use Rattle.std.specs.FinMap as map
use Rattle.congee.specs.forms.Bytes.{IsFirst}
use Rattle.congee.specs.forms.Places.{sorted_map}
use Rattle.congee.proofs.owned.places.Ranked.first_from.Goals as goal

pub returns : goal.returns
returns g c =
    let e : sorted_map c.self.inside.bytes c.deref.result.now.list.items ≡ c.args.self.now = cc (c.deref.ensures, c.self.view_is) in
    subst (λ m. MatchOption c.first_from.result ((b : ℕ) → c.args.from ≤ b → map.get m b ≡ None) (λ r. IsFirst m c.args.from r.0 r.1.now)) e c.first_from.ensures

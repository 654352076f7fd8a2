use Rattle.std.proofs.Common.{◌≡◌, subst}
use Rattle.congee.specs.forms.Bytes.{Lists}
use Rattle.congee.specs.forms.Places.{sorted_map}
use Rattle.congee.proofs.owned.places.Ranked.children_from.Goals as goal

pub returns : goal.returns
returns g c =
    let e : sorted_map c.self.inside.bytes c.deref.result.now.list.items ≡ c.args.self.now = cc (c.deref.ensures, c.self.view_is) in
    subst (λ m. Lists m c.args.from c.children_from.result.now) e c.children_from.ensures

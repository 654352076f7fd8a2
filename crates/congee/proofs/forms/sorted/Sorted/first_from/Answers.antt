use Rattle.std.proofs.Common.{ℕ, ◌≡◌, ◌≤◌, MatchOption, None, subst}
use Rattle.std.specs.FinMap as map
use Rattle.congee.specs.forms.Bytes.{IsFirst}
use Rattle.congee.proofs.forms.sorted.Sorted.first_from.Goals as goal

pub returns : goal.returns
returns g c = subst (λ m. MatchOption c.first_from.result ((b : ℕ) → c.args.from ≤ b → map.get m b ≡ None) (λ r. IsFirst m c.args.from r.0 r.1.now)) c.self.view_is c.first_from.ensures

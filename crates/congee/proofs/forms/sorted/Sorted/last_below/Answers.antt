use Rattle.std.proofs.Common.{rules, subst}
use Rattle.congee.specs.forms.Bytes.{IsLastBelow}
use Rattle.congee.proofs.lemmas.forms.LastBytes.{bytes_low, sorted_last}
use Rattle.congee.proofs.lemmas.forms.Ranks.{rising_of}
use Rattle.congee.proofs.forms.sorted.Sorted.last_below.Goals as goal

pub last_below-requires : goal.last_below-requires
last_below-requires g c = (search rules, (rising_of _ _ c.self.invariant.same c.self.invariant.rises, bytes_low _ _ c.self.invariant))

pub returns : goal.returns
returns g c = subst (λ m. IsLastBelow m c.args.end c.last_below.result) c.self.view_is (sorted_last c.self.invariant c.args.end c.last_below.result c.last_below.ensures)

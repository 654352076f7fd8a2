use Rattle.std.proofs.Common.{ap, subst}
use Rattle.congee.specs.owned.Iterating.{IsFirstIn, IsLastBefore, first_in, first_past}
use Rattle.congee.proofs.owned.congee.Congee.last_in.Goals as goal

pub returns : goal.returns
returns g c = λ h.
    let w = g.K.Word64.word in
    let ea = ap (first_in w) (c.start_bound.ensures h) in
    let eb = ap (first_past w) (c.end_bound.ensures h) in
    let both = c.last_between.ensures _ _ (subst (IsFirstIn c.first_word-from.result) ea c.first_word-from.ensures) (subst (IsLastBefore c.last_word-last.result) eb c.last_word-last.ensures) in
    rw (← c.self.view_is) (c.last_between.result, c.pair_of.ensures, both)

use Rattle.std.proofs.Common.{map, ap, subst}
use Rattle.congee.specs.owned.Iterating.{IsFirstIn, IsLastBefore, first_in, first_past}
use Rattle.congee.specs.owned.OwnerCalls.{shared_by}
use Rattle.congee.proofs.owned.congee_arc.CongeeArc.range_iter.Goals as goal

pub returns : goal.returns
returns g c = λ h.
    let w = g.K.Word64.word in
    let ea = ap (first_in w) (c.start_bound.ensures h) in
    let eb = ap (first_past w) (c.end_bound.ensures h) in
    let both = c.bounded_run.ensures _ _ (subst (IsFirstIn c.first_word-from.result) ea c.first_word-from.ensures) (subst (IsLastBefore c.last_word-last.result) eb c.last_word-last.ensures) in
    rw (← c.self.view_is) (ap (map (shared_by g.K.Word64.of_word)) both)

use Rattle.std.proofs.Common.{◌<◌, ◌+◌, inr, refl, sym, subst}
use Rattle.std.proofs.lemmas.Result.{err_from_is_err_and}
use Rattle.congee.specs.owned.Nearest.{IsLeast, IsLeastPair}
use Rattle.congee.proofs.lemmas.owned.Building.{copied_all, copied_bare, copied_more, copy_short, over_first, over_then}
use Rattle.congee.proofs.lemmas.owned.Several.{lacks_old, left_from, left_less, small_key}
use Rattle.congee.proofs.owned.congee.Congee.try_clone.Goals as goal

pub loop-next-init : goal.loop-next-init
loop-next-init g c =
    let new = c.in_ok-copy.ensures in
    ((0, c.numbers_from-next.ensures.least 0 refl, copied_bare _ _ new.bare.pairs), over_first _ _ _ _ new.bare new.base new.charged new.limit)

pub loop-next-preserved : goal.loop-next-preserved
loop-next-preserved g c =
    let at = c.loop-next in
    let n = at.invariant.0.0 in
    let whole = c.args.self.now.pairs in
    let least : IsLeastPair whole n c.in-Some.key c.in-Some.value = subst (λ o. IsLeast whole n o) c.in-Some.is at.invariant.0.1 in (
      (
        c.in-Some.key + 1,
        c.numbers_from-next-in-Some.ensures.least (c.in-Some.key + 1) c.number_after.ensures,
        copied_more whole at.copy.pairs c.insert_number_near.new.self.pairs n c.in-Some.key c.in-Some.value c.in_ok-near.ensures.pairs at.invariant.0.2 least,
      ),
      over_then _ _ _ _ _ at.invariant.1 c.in_ok-near.ensures.keeps c.in_ok-near.ensures.base,
    )

pub loop-next-smaller : goal.loop-next-smaller
loop-next-smaller g c =
    let at = c.loop-next in
    let whole = c.args.self.now.pairs in
    let here : IsLeastPair whole at.invariant.0.0 c.in-Some.key c.in-Some.value = subst (λ o. IsLeast whole at.invariant.0.0 o) c.in-Some.is at.invariant.0.1 in
    let small = small_key whole at.invariant.0.0 c.in-Some.key c.in-Some.value c.numbers_from-next.ensures.beyond here in
    let least = c.numbers_from-next-in-Some.ensures.least (c.in-Some.key + 1) c.number_after.ensures in
    subst (λ o. left_from c.numbers_from-next-in-Some.result < left_from o) (sym c.in-Some.is) (left_less c.args.self.now.pairs c.in-Some.key c.in-Some.value c.numbers_from-next-in-Some.result least small)

pub returns-in_err-near-clause-refused : goal.returns-in_err-near-clause-refused
returns-in_err-near-clause-refused g c =
    let p = err_from_is_err_and c.from_residual-in_err-near.result c.from_residual-in_err-near.ensures.1 in
    let at = c.loop-next in
    let n = at.invariant.0.0 in
    let whole = c.args.self.now in
    let least : IsLeastPair whole.pairs n c.in-Some.key c.in-Some.value = subst (λ o. IsLeast whole.pairs n o) c.in-Some.is at.invariant.0.1 in
    let short = copy_short _ _ _ whole at.copy n c.in-Some.key c.in-Some.value _ at.invariant.0.2 least at.invariant.1 (lacks_old _ _ _ _ _ _ c.in_err-near.ensures.refused) in
    rw (p.1, p.2) (inr (at.copy, c.in-Some.key, short.0, short.1, short.2))

pub returns-clause-same : goal.returns-clause-same
returns-clause-same g c =
    let at = c.loop-next in
    let n = at.invariant.0.0 in
    let none = subst (λ o. IsLeast c.args.self.now.pairs n o) c.in_default.is at.invariant.0.1 in
    copied_all c.args.self.now.pairs at.copy.pairs n at.invariant.0.2 none

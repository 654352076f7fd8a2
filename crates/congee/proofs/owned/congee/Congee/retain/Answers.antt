use denote.Param.Always.{mut_next}
use Rattle.std.proofs.Common.{◌<◌, ◌+◌, refl, sym, subst, ◌∙◌}
use Rattle.std.specs.FinMap as map
use Rattle.congee.specs.owned.Nearest.{IsLeast, IsLeastPair}
use Rattle.congee.proofs.lemmas.owned.Several.{goes_first, goes_on, goes_last, left_from, left_less, lightens_same, lightens_then, small_key}
use Rattle.congee.proofs.owned.congee.Congee.retain.Given as given
use Rattle.congee.proofs.owned.congee.Congee.retain.Goals as goal

pub loop-next-init : goal.loop-next-init
loop-next-init g c = (
  c.requires,
  (0, c.numbers_from-next.ensures.least 0 refl, goes_first (given.F-step g) g.K.Word64.of_word g.V.Word64.of_word c.args.f c.args.self.now.pairs c.numbers_from-next.ensures.beyond),
  lightens_same _ _ _,
  refl,
  c.numbers_from-next.ensures.beyond,
)

pub loop-next-preserved : goal.loop-next-preserved
loop-next-preserved g c =
    let at = c.loop-next in
    let n = at.invariant.1.0 in
    let least : IsLeastPair at.self.pairs n c.in-Some.key c.in-Some.value = subst (λ o. IsLeast at.self.pairs n o) c.in-Some.is at.invariant.1.1 in
    let small = small_key at.self.pairs n c.in-Some.key c.in-Some.value at.invariant.4 least in (
      mut_next g.F.FnMut _ _ _ _ _ c.f-keep.ensures refl at.invariant.0,
      (
        c.in-Some.key + 1,
        c.numbers_from-next-in-Some.ensures.least (c.in-Some.key + 1) c.number_after.ensures,
        goes_on (given.F-step g) g.K.Word64.of_word g.V.Word64.of_word at.self.pairs n c.in-Some.key c.in-Some.value least small c.args.f at.f c.f-keep.new.self (map.entries c.args.self.now.pairs) c.f-keep.result
            c.remove_unless.new.self.pairs c.remove_unless.ensures.pairs (rw (← c.from_word.ensures, ← c.from_word-in-Some.ensures) c.f-keep.ensures) at.invariant.1.2,
      ),
      lightens_then _ _ _ _ _ at.invariant.2 c.remove_unless.ensures.lightens,
      c.remove_unless.ensures.base ∙ at.invariant.3,
      c.numbers_from-next-in-Some.ensures.beyond,
    )

pub loop-next-smaller : goal.loop-next-smaller
loop-next-smaller g c =
    let at = c.loop-next in
    let here : IsLeastPair at.self.pairs at.invariant.1.0 c.in-Some.key c.in-Some.value = subst (λ o. IsLeast at.self.pairs at.invariant.1.0 o) c.in-Some.is at.invariant.1.1 in
    let small = small_key at.self.pairs at.invariant.1.0 c.in-Some.key c.in-Some.value at.invariant.4 here in
    let least = c.numbers_from-next-in-Some.ensures.least (c.in-Some.key + 1) c.number_after.ensures in
    subst (λ o. left_from c.numbers_from-next-in-Some.result < left_from o) (sym c.in-Some.is) (left_less c.remove_unless.new.self.pairs c.in-Some.key c.in-Some.value c.numbers_from-next-in-Some.result least small)

pub returns-clause-kept : goal.returns-clause-kept
returns-clause-kept g c =
    let at = c.loop-next in
    let n = at.invariant.1.0 in
    let none = subst (λ o. IsLeast at.self.pairs n o) c.in_default.is at.invariant.1.1 in
    (at.f, goes_last (given.F-step g) g.K.Word64.of_word g.V.Word64.of_word c.args.f at.f (map.entries c.args.self.now.pairs) at.self.pairs n none at.invariant.1.2)

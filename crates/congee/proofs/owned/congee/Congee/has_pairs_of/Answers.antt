use Rattle.std.proofs.Common.{rules, ◌≡◌, ◌<◌, ◌+◌, refl, sym, subst, ◌∙◌, arith}
use Rattle.congee.specs.owned.Nearest.{IsLeast, IsLeastPair}
use Rattle.congee.proofs.lemmas.owned.Building.{end_same, same_on}
use Rattle.congee.proofs.lemmas.owned.Several.{left_from, left_less, small_key}
use Rattle.congee.proofs.owned.congee.Congee.has_pairs_of.Goals as goal

pub loop-left-init : goal.loop-left-init
loop-left-init g c = (0, c.numbers_from-left.ensures.least 0 refl, c.numbers_from-right.ensures.least 0 refl, λ q l. absurd (omega (arith, l)))

pub loop-left-preserved : goal.loop-left-preserved
loop-left-preserved g c =
    let at = c.loop-left in
    let n = at.invariant.0 in
    let m = c.args.self.now.pairs in
    let least : IsLeastPair m n c.in-Some.key c.in-Some.field-0-1 = subst (λ o. IsLeast m n o) c.in-Some.is at.invariant.1 in
    let same : at.left ≡ at.right = search rules in (
      c.in-Some.key + 1,
      c.numbers_from-left-in-Some.ensures.least (c.in-Some.key + 1) c.number_after.ensures,
      c.numbers_from-right-in-Some.ensures.least (c.in-Some.key + 1) c.number_after-in-Some.ensures,
      same_on m c.args.other.now.pairs n c.in-Some.key c.in-Some.field-0-1 at.right at.invariant.3 least at.invariant.2 (sym c.in-Some.is ∙ same),
    )

pub loop-left-smaller : goal.loop-left-smaller
loop-left-smaller g c =
    let at = c.loop-left in
    let m = c.args.self.now.pairs in
    let here : IsLeastPair m at.invariant.0 c.in-Some.key c.in-Some.field-0-1 = subst (λ o. IsLeast m at.invariant.0 o) c.in-Some.is at.invariant.1 in
    let small = small_key m at.invariant.0 c.in-Some.key c.in-Some.field-0-1 c.numbers_from-left.ensures.beyond here in
    let least = c.numbers_from-left-in-Some.ensures.least (c.in-Some.key + 1) c.number_after.ensures in
    subst (λ o. left_from c.numbers_from-left-in-Some.result < left_from o) (sym c.in-Some.is) (left_less c.args.self.now.pairs c.in-Some.key c.in-Some.field-0-1 c.numbers_from-left-in-Some.result least small)

pub returns : goal.returns
returns g c =
    let at = c.loop-left in
    let n = at.invariant.0 in
    let none = subst (λ o. IsLeast c.args.self.now.pairs n o) c.in_default.is at.invariant.1 in
    let told = end_same c.args.self.now.pairs c.args.other.now.pairs n at.right at.invariant.3 none at.invariant.2 in
    (λ t. told.0 (search rules), λ e. (let z = told.1 e in search (rules, z)))

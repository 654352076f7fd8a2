use Rattle.std.proofs.Common.{ℕ, ◌<◌, ◌-◌, ◌*◌, ◌/◌, ◌%◌, ◌^◌, ◌≡◌, get_or, subst, le_refl, arith}
use Rattle.optimistic.specs.declared.forms.scan.Rest.{Rest}
use Rattle.optimistic.specs.forms.Wide.{IsRest}
use Rattle.optimistic.proofs.lemmas.forms.Scans.{rest_in}
use Rattle.optimistic.proofs.forms.scan.rest_of.Goals as goal

pub returns : goal.returns
returns c masks is =
    let from : ℕ = c.args.from in
    let mask : ℕ = c.args.mask in
    let word : ℕ = from / 64 in
    let e : from - word * 64 ≡ from % 64 = omega arith in
    let small : get_or masks word 0 < 2 ^ 64 = let fits = c.ranges.mask in omega (arith, is, fits) in
    subst (λ (r : Rest). IsRest masks from r) (λ i. record { word = word; at = from; bits = is i / 2 ^ (e i) })
    (rest_in masks word from from (omega arith) (omega arith) (omega arith) (le_refl from) small (λ k l g. absurd (omega (arith, l, g))))

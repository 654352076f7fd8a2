use Rattle.std.proofs.Common.{◌≡◌, ◌+◌, ◌<◌, ℕ, false, subst, arith}
use Rattle.optimistic.specs.declared.drain.nexts.Next.{Next}
use Rattle.optimistic.specs.declared.drain.nexts.Next.TheVariants.{Here}
use Rattle.optimistic.specs.forms.Children.{is_inner, put_first}
use Rattle.optimistic.specs.tree.Nexts.{IsNext}
use Rattle.optimistic.specs.tree.Sights.{IsBack}
use Rattle.optimistic.proofs.lemmas.tree.Runs.{makes_here, value_gives}
use Rattle.optimistic.proofs.lemmas.tree.RunsBack.{back_after}
use Rattle.optimistic.proofs.lemmas.tree.Sights.{down_place}
use Rattle.optimistic.proofs.tree.run_back.back_bit_of.Goals as goal

high_values : (form : ℕ) → 4 < form → is_inner form ≡ false
high_values form high = grind (arith, high)

pub returns-then-at-gt4-clause-bit : goal.returns-then-at-gt4-clause-bit
returns-then-at-gt4-clause-bit c log makes = value_gives c.args.at.form c.args.at.level c.args.child.first c.args.child.second c.args.from log (high_values c.args.at.form c.if-at-gt4.true) makes

pub returns-then-child-eq9-clause-bit : goal.returns-then-child-eq9-clause-bit
returns-then-child-eq9-clause-bit c log makes = let low = c.if-at-gt4.false in c.back_lone.ensures.bit c.args.at.form log (omega (arith, low)) makes

pub returns-in-Here-clause-bit : goal.returns-in-Here-clause-bit
returns-in-Here-clause-bit c log makes =
    let form : ℕ = c.args.at.form in
    let first : ℕ = c.args.child.first in
    let second : ℕ = c.args.child.second in
    let from : ℕ = c.args.from in
    let b = c.back_of_item-back.result in
    let e = c.back_of_item-back.ensures in
    let is = c.in-Here.is in
    let same : b.from ≡ from = (subst (λ (n : Next). IsBack from b.from n) is e.back).1 in
    let n : IsNext (c.args.at.level + 1) (λ k. put_first form first k) (λ k. second) from (Here c.in-Here.value) =
    subst (λ (z : ℕ × Next). IsNext (c.args.at.level + 1) (λ k. put_first form first k) (λ k. second) z.0 z.1) (λ i. (same i, is i)) e.next in
    makes_here (c.args.at.level + 1) (λ k. put_first form first k) (λ k. second) from c.in-Here.value log makes n

pub returns-in-After-clause-bit : goal.returns-in-After-clause-bit
returns-in-After-clause-bit c log makes =
    let form : ℕ = c.args.at.form in
    let first : ℕ = c.args.child.first in
    let second : ℕ = c.args.child.second in
    let b = c.back_of_item-back.result in
    let e = c.back_of_item-back.ensures in
    let is = c.in-After.is in
    let back = subst (λ (n : Next). IsBack c.args.from b.from n) is e.back in
    back_after form c.args.at.level first second c.args.from b.from c.in-After.field-0 log makes e.near back.0 back.1
    (subst (λ (n : Next). IsNext (c.args.at.level + 1) (λ k. put_first form first k) (λ k. second) b.from n) is e.next)

pub returns-in-After-clause-knows : goal.returns-in-After-clause-knows
returns-in-After-clause-knows c w tells = c.back_of_item-back.ensures.back.0

pub returns-in-Down-clause-knows : goal.returns-in-Down-clause-knows
returns-in-Down-clause-knows c w tells =
    let form : ℕ = c.args.at.form in
    let first : ℕ = c.args.child.first in
    let second : ℕ = c.args.child.second in
    let b = c.back_of_item-back.result in
    let n = subst (λ (n : Next). IsNext (c.args.at.level + 1) (λ k. put_first form first k) (λ k. second) b.from n) c.in-Down.is c.back_of_item-back.ensures.next in
    down_place form first second b.from c.in-Down.place w tells n.0 n.1 n.2 n.3

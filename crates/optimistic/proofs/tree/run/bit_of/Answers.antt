use Rattle.std.proofs.Common.{◌+◌, ◌≡◌, ◌<◌, ℕ, false, arith}
use Rattle.optimistic.specs.forms.Children.{is_inner, put_first}
use Rattle.optimistic.proofs.lemmas.tree.Runs.{makes_here, makes_after, value_gives}
use Rattle.optimistic.proofs.lemmas.tree.Sights.{down_place}
use Rattle.optimistic.proofs.tree.run.bit_of.Goals as goal

high_values : (form : ℕ) → 4 < form → is_inner form ≡ false
high_values form high = grind (arith, high)

pub returns-then-at-gt4-clause-bit : goal.returns-then-at-gt4-clause-bit
returns-then-at-gt4-clause-bit c log makes = value_gives c.args.at.form c.args.at.level c.args.child.first c.args.child.second c.args.from log (high_values c.args.at.form c.if-at-gt4.true) makes

pub returns-then-child-eq9-clause-bit : goal.returns-then-child-eq9-clause-bit
returns-then-child-eq9-clause-bit c log makes = let low = c.if-at-gt4.false in c.lone_bit.ensures.bit c.args.at.form log (omega (arith, low)) makes

pub returns-in-Here-clause-bit : goal.returns-in-Here-clause-bit
returns-in-Here-clause-bit c log makes = makes_here (c.args.at.level + 1) (λ k. put_first c.args.at.form c.args.child.first k) (λ k. c.args.child.second) c.args.from c.in-Here.value log makes c.in-Here.ensures.next

pub returns-in-After-clause-bit : goal.returns-in-After-clause-bit
returns-in-After-clause-bit c log makes = makes_after (c.args.at.level + 1) (λ k. put_first c.args.at.form c.args.child.first k) (λ k. c.args.child.second) c.args.from c.in-After.end log makes c.in-After.ensures.next

pub returns-in-Down-clause-knows : goal.returns-in-Down-clause-knows
returns-in-Down-clause-knows c w tells =
    let n = c.in-Down.ensures.next in
    down_place c.args.at.form c.args.child.first c.args.child.second c.args.from c.in-Down.place w tells n.0 n.1 n.2 n.3

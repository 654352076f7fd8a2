use Rattle.std.proofs.Common.{◌≡◌, ℕ, ◌+◌, ◌-◌, ◌*◌, ◌^◌, subst, arith}
use Rattle.optimistic.specs.Layout.{prefix_of}
use Rattle.optimistic.specs.tree.Reads.{Found}
use Rattle.optimistic.proofs.lemmas.drain.Keys.{reaches}
use Rattle.optimistic.proofs.lemmas.tree.Runs.{bit_zero, bit_child}
use Rattle.optimistic.proofs.lemmas.tree.Setting.{place_since}
use Rattle.optimistic.proofs.tree.get.Tree.bit_wide.Goals as goal

pub returns-then-child-eq0-clause-knows : goal.returns-then-child-eq0-clause-knows
returns-then-child-eq0-clause-knows c = let e = c.requires.byte in reaches c.args.from c.args.at.level c.args.byte c.last_key.result c.requires.at.level c.last_key.ensures (omega (arith, e))

pub returns-then-child-eq0-clause-shows : goal.returns-then-child-eq0-clause-shows
returns-then-child-eq0-clause-shows c =
    let e = c.requires.byte in
    let v = c.args.hand.now.me.0 in
    let w = c.child_there-child.new.hand.me.0 in
    let first : ℕ = c.child_there-child.result.first in
    let second : ℕ = c.child_there-child.result.second in
    bit_zero c.args.at c.args.from v w c.requires.at.level first second
    (subst (λ (z : ℕ). Found c.args.at.node c.args.at.form first second c.args.from z v w) e c.child_there-child.ensures.found) c.last_key.result c.if-child-eq0.true
    (subst (λ (z : ℕ). c.last_key.result + 1 ≡ (prefix_of c.args.from c.args.at.level * 256 + z + 1) * 2 ^ (56 - 8 * c.args.at.level)) e c.last_key.ensures)

pub returns-clause-shows : goal.returns-clause-shows
returns-clause-shows c =
    let e = c.requires.byte in
    let v = c.args.hand.now.me.0 in
    let w = c.child_there-child.new.hand.me.0 in
    let first : ℕ = c.child_there-child.result.first in
    let second : ℕ = c.child_there-child.result.second in
    bit_child c.args.at c.args.from v w c.requires.at.level first second
    (subst (λ (z : ℕ). Found c.args.at.node c.args.at.form first second c.args.from z v w) e c.child_there-child.ensures.found) c.bit_of.result c.if-child-eq0.false c.bit_of.ensures.bit

pub returns-then-child-eq0-clause-place : goal.returns-then-child-eq0-clause-place
returns-then-child-eq0-clause-place c = place_since c.args.at c.args.hand.now.me.0 c.child_there-child.new.hand.me.0 c.child_there-child.ensures.looks.since c.requires.at

pub returns-clause-place : goal.returns-clause-place
returns-clause-place c = place_since c.args.at c.args.hand.now.me.0 c.child_there-child.new.hand.me.0 c.child_there-child.ensures.looks.since c.requires.at

use Rattle.std.proofs.Common.{◌≡◌, ℕ, ◌+◌, ◌-◌, ◌*◌, ◌^◌, ◌<◌, ◌≤◌, ap, ◌∙◌, subst, arith}
use Rattle.optimistic.specs.Layout.{prefix_of, byte_at}
use Rattle.optimistic.specs.tree.Reads.{Found}
use Rattle.optimistic.proofs.lemmas.drain.Keys.{precedes}
use Rattle.optimistic.proofs.lemmas.tree.RunsBack.{back_zero, back_child}
use Rattle.optimistic.proofs.lemmas.tree.Setting.{place_since}
use Rattle.optimistic.proofs.tree.get.Tree.back_bit_wide.Goals as goal

-- the first key with the byte isn't behind the key
before : (from level byte first : ℕ) → level < 8 → byte ≡ byte_at from level → first ≡ (prefix_of from level * 256 + byte) * 2 ^ (56 - 8 * level) → first ≤ from
before from level byte first l is start = precedes from level byte first l (omega (arith, is)) start (omega (arith, is))

pub returns-then-child-eq0-clause-knows : goal.returns-then-child-eq0-clause-knows
returns-then-child-eq0-clause-knows c = before c.args.from c.args.at.level c.args.byte c.first_key.result c.requires.at.level c.requires.byte c.first_key.ensures

pub returns-then-child-eq0-clause-shows : goal.returns-then-child-eq0-clause-shows
returns-then-child-eq0-clause-shows c =
    let e = c.requires.byte in
    let at = c.args.at in
    let v = c.args.hand.now.me.0 in
    let w = c.child_there-child.new.hand.me.0 in
    let first : ℕ = c.child_there-child.result.first in
    let second : ℕ = c.child_there-child.result.second in
    back_zero at c.args.from v w c.requires.at.level first second
    (subst (λ (z : ℕ). Found at.node at.form first second c.args.from z v w) e c.child_there-child.ensures.found) c.first_key.result c.if-child-eq0.true
    (before c.args.from at.level c.args.byte c.first_key.result c.requires.at.level e c.first_key.ensures)
    (c.first_key.ensures ∙ ap (λ (z : ℕ). (prefix_of c.args.from at.level * 256 + z) * 2 ^ (56 - 8 * at.level)) e)

pub returns-clause-shows : goal.returns-clause-shows
returns-clause-shows c =
    let e = c.requires.byte in
    let v = c.args.hand.now.me.0 in
    let w = c.child_there-child.new.hand.me.0 in
    let first : ℕ = c.child_there-child.result.first in
    let second : ℕ = c.child_there-child.result.second in
    back_child c.args.at c.args.from v w c.requires.at.level first second
    (subst (λ (z : ℕ). Found c.args.at.node c.args.at.form first second c.args.from z v w) e c.child_there-child.ensures.found) c.back_bit_of.result c.if-child-eq0.false c.back_bit_of.ensures.bit

pub returns-then-child-eq0-clause-place : goal.returns-then-child-eq0-clause-place
returns-then-child-eq0-clause-place c = place_since c.args.at c.args.hand.now.me.0 c.child_there-child.new.hand.me.0 c.child_there-child.ensures.looks.since c.requires.at

pub returns-clause-place : goal.returns-clause-place
returns-clause-place c = place_since c.args.at c.args.hand.now.me.0 c.child_there-child.new.hand.me.0 c.child_there-child.ensures.looks.since c.requires.at

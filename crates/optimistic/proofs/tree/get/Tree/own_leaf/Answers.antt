use Rattle.std.proofs.Common.{◌≢◌, ℕ, rules, refl, ◌∙◌, subst}
use Rattle.optimistic.specs.Layout.{byte_at}
use Rattle.optimistic.specs.tree.Reads.{Found}
use Rattle.optimistic.proofs.lemmas.tree.Holding.{locked_shape, found_now}
use Rattle.optimistic.proofs.tree.get.Tree.own_leaf.Goals as goal

pub returns-then-child-eq0-clause-owns : goal.returns-then-child-eq0-clause-owns
returns-then-child-eq0-clause-owns c =
    let v = c.args.hand.now.me.0 in
    let w = c.child-child.new.hand.me.0 in
    let n = c.args.old in
    let key : ℕ = c.args.key in
    let b : ℕ = byte_at key n.at.level in
    let found : Found n.at.node n.at.form c.child-child.result.first c.child-child.result.second key b v w =
    subst (λ (z : ℕ). Found n.at.node n.at.form c.child-child.result.first c.child-child.result.second key z v w) c.key_byte-byte.ensures.byte c.child-child.ensures.found in
    let there = found_now n key b c.child-child.result.first c.child-child.result.second v w c.requires.old (locked_shape n key v w c.requires.old c.child-child.ensures.looks c.requires.covers) found in
    record { leaves = c.has_leaves-leaves.ensures c.if-not-leaves.false; first = there.0 ∙ c.if-child-eq0.true; second = λ ne. absurd (ne refl) }

pub returns-then-child-leaf-clause-owns : goal.returns-then-child-leaf-clause-owns
returns-then-child-leaf-clause-owns c =
    let v = c.args.hand.now.me.0 in
    let w = c.child-child.new.hand.me.0 in
    let n = c.args.old in
    let key : ℕ = c.args.key in
    let b : ℕ = byte_at key n.at.level in
    let found : Found n.at.node n.at.form c.child-child.result.first c.child-child.result.second key b v w =
    subst (λ (z : ℕ). Found n.at.node n.at.form c.child-child.result.first c.child-child.result.second key z v w) c.key_byte-byte.ensures.byte c.child-child.ensures.found in
    let there = found_now n key b c.child-child.result.first c.child-child.result.second v w c.requires.old (locked_shape n key v w c.requires.old c.child-child.ensures.looks c.requires.covers) found in
    let ne : c.child-child.result.first ≢ 0 = search rules in
    record { leaves = c.has_leaves-leaves.ensures c.if-not-leaves.false; first = there.0 ∙ (c.if-child-leaf.true ∙ c.leaf_word-leaf.ensures.word); second = λ _. there.1 ne }

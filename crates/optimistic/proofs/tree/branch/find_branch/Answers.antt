use Rattle.std.proofs.Common.{inl, inr}
use Rattle.optimistic.proofs.lemmas.tree.Branching.{branch_there, no_branch, nothing_begins}
use Rattle.optimistic.proofs.tree.branch.find_branch.Goals as goal

pub returns-in_default : goal.returns-in_default
returns-in_default c = nothing_begins c.args.child.first c.args.child.second c.args.key c.args.level c.in_default.ensures

pub returns-then-depth-level : goal.returns-then-depth-level
returns-then-depth-level c =
    let p = c.in-Some.prefix in
    let d = c.common_prefix-depth in
    no_branch c.args.child.first c.args.child.second p.key p.len c.args.key c.args.level d.result c.requires c.in-Some.ensures d.ensures.bound d.ensures.same d.ensures.apart (inl c.if-depth-level.true)

pub returns-then-depth-prefix : goal.returns-then-depth-prefix
returns-then-depth-prefix c =
    let p = c.in-Some.prefix in
    let d = c.common_prefix-depth in
    no_branch c.args.child.first c.args.child.second p.key p.len c.args.key c.args.level d.result c.requires c.in-Some.ensures d.ensures.bound d.ensures.same d.ensures.apart (inr c.if-depth-prefix.true)

pub returns : goal.returns
returns c =
    let p = c.in-Some.prefix in
    let d = c.common_prefix-depth in
    branch_there c.args.child.first c.args.child.second p.key p.len c.args.key c.args.level c.branch_form.result d.result c.key_byte.result c.in-Some.ensures d.ensures.same d.ensures.apart c.if-depth-level.false c.if-depth-prefix.false
    c.key_byte.ensures.byte c.branch_form.ensures

use Rattle.std.proofs.Common.{arith}
use Rattle.optimistic.proofs.lemmas.tree.Apart.{apart_ends}
use Rattle.optimistic.proofs.lemmas.tree.Reading.{tag_ends}
use Rattle.optimistic.proofs.tree.names.may_go_on.Goals as goal

pub returns-then-tag-eq0-clause-off : goal.returns-then-tag-eq0-clause-off
returns-then-tag-eq0-clause-off c = λ _. tag_ends c.args.child.first c.args.child.second c.args.key (λ some low. let e = c.child_tag-tag.ensures.tag in let z = c.if-tag-eq0.true in omega arith)

pub returns-then-tag-gt8-clause-off : goal.returns-then-tag-gt8-clause-off
returns-then-tag-gt8-clause-off c = λ _. tag_ends c.args.child.first c.args.child.second c.args.key (λ some low. let e = c.child_tag-tag.ensures.tag in let z = c.if-tag-gt8.true in omega arith)

pub returns-then-apart-ne0-clause-off : goal.returns-then-apart-ne0-clause-off
returns-then-apart-ne0-clause-off c = let e = c.child_tag-tag.ensures.tag in λ _.
    apart_ends c.args.child.first c.args.child.second c.args.key c.child_level.result (let z = c.if-tag-eq0.false in omega arith) (let z = c.if-tag-gt8.false in omega arith) c.child_level.ensures.level c.if-apart-ne0.true

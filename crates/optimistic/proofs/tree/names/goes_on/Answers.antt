use Rattle.std.proofs.Common.{ℕ, sym, ap, ◌∙◌, arith, nat_eq}
use Rattle.optimistic.specs.Layout.{where_of}
use Rattle.optimistic.proofs.lemmas.tree.Reading.{goes_where, tag_ends}
use Rattle.optimistic.proofs.tree.names.goes_on.Goals as goal

pub returns-then-tag-eq0-clause-on : goal.returns-then-tag-eq0-clause-on
returns-then-tag-eq0-clause-on c = sym (tag_ends c.args.child.first c.args.child.second c.args.key (λ some low. let e = c.child_tag-tag.ensures.tag in let z = c.if-tag-eq0.true in omega arith))

pub returns-then-tag-gt8-clause-on : goal.returns-then-tag-gt8-clause-on
returns-then-tag-gt8-clause-on c = sym (tag_ends c.args.child.first c.args.child.second c.args.key (λ some low. let e = c.child_tag-tag.ensures.tag in let z = c.if-tag-gt8.true in omega arith))

pub returns-clause-on : goal.returns-clause-on
returns-clause-on c = let e = c.child_tag-tag.ensures.tag in let l = c.child_level.ensures.level in
    ap (λ (z : ℕ). nat_eq c.args.child.second z) (c.where_word-word.ensures.word ∙ (λ i. where_of (e i) (l i) c.args.key))
    ∙ goes_where c.args.child.first c.args.child.second c.args.key (let z = c.if-tag-eq0.false in omega arith) (let z = c.if-tag-gt8.false in omega arith)

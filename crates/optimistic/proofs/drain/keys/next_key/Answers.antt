use Rattle.std.proofs.Common.{arith}
use Rattle.optimistic.proofs.lemmas.drain.Keys.{silent_node, silent_leaf}
use Rattle.optimistic.proofs.drain.keys.next_key.Goals as goal

pub returns-then-tag-eq0 : goal.returns-then-tag-eq0
returns-then-tag-eq0 c off none k later near side = silent_leaf _ _ _ k later off none (λ some low. let e = c.child_tag-tag.ensures.tag in let z = c.if-tag-eq0.true in omega arith) near _ c.same_first_byte.ensures side

pub returns-then-tag-lt9 : goal.returns-then-tag-lt9
returns-then-tag-lt9 c off none k later near side =
    let e = c.child_tag-tag.ensures.tag in
    let z = c.if-tag-eq0.false in
    let l = c.if-tag-lt9.true in
    silent_node _ _ _ k later off none (omega arith) (omega arith) side

pub returns-else-tag-lt9 : goal.returns-else-tag-lt9
returns-else-tag-lt9 c off none k later near side = silent_leaf _ _ _ k later off none (λ some low. let e = c.child_tag-tag.ensures.tag in let z = c.if-tag-lt9.false in omega arith) near _ c.same_first_byte-else-tag-lt9.ensures side

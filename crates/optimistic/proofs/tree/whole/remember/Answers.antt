use Rattle.std.proofs.Common.{◌-◌, ◌<◌, List, length, sym, subst, arith}
use Rattle.std.specs.List.{Contains}
use Rattle.optimistic.specs.declared.tree.whole.Mark.{Mark}
use Rattle.optimistic.specs.tree.Wholes.{HasMore}
use Rattle.optimistic.proofs.lemmas.tree.Wholes.{more_same, more_one}
use Rattle.optimistic.proofs.tree.whole.remember.Goals as goal

pub returns-then-same-clause-more : goal.returns-then-same-clause-more
returns-then-same-clause-more c =
    let marks = c.args.marks.now.items in
    let low : c.len-count.result - 1 < length marks = omega arith in
    more_same marks c.args.mark (subst (λ (m : Mark). Contains marks m) (c.are_same-same.ensures c.if-same.true) (c.len-count.result - 1, low, sym c.index.ensures))

pub returns-in-Ok-clause-more : goal.returns-in-Ok-clause-more
returns-in-Ok-clause-more c = subst (λ (l : List Mark). HasMore c.args.marks.now.items c.args.mark l) (sym c.in-Ok.ensures.items) (more_one c.args.marks.now.items c.args.mark)

use Rattle.std.proofs.Common.{subst, arith}
use Rattle.std.specs.Prelude.{Option}
use Rattle.optimistic.specs.declared.moves.Item.{Item}
use Rattle.optimistic.specs.forms.Least.{IsLeast}
use Rattle.optimistic.proofs.lemmas.drain.Leasts.{least_low, least_here, least_there}
use Rattle.optimistic.proofs.drain.items.lower_of_two.Goals as goal

pub returns-then-item-from : goal.returns-then-item-from
returns-then-item-from c form w i l item h = least_low form w c.args.from i c.args.item item c.args.least c.if-item-from.true h

pub returns-then-other-item : goal.returns-then-other-item
returns-then-other-item c form w i l item h =
    let m = c.if-other-item.true in
    least_there form w c.args.from i c.args.item item c.in-Some.other (omega arith) (subst (λ (o : Option Item). IsLeast form w c.args.from i o) c.in-Some.is h)

pub returns-else-other-item : goal.returns-else-other-item
returns-else-other-item c form w i l item h =
    let old = subst (λ (o : Option Item). IsLeast form w c.args.from i o) c.in-Some.is h in
    let m = c.if-other-item.false in
    least_here form w c.args.from i c.args.item item l c.if-item-from.false (λ j k t a. omega (arith, old.least j k t a, m))

pub returns-in-None : goal.returns-in-None
returns-in-None c form w i l item h =
    let old = subst (λ (o : Option Item). IsLeast form w c.args.from i o) c.in-None.is h in
    least_here form w c.args.from i c.args.item item l c.if-item-from.false (λ j k t a. absurd (omega (arith, old j k t, a)))

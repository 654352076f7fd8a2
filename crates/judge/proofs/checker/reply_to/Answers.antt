use Rattle.std.proofs.Common.{◌≡◌, false, None, Some, nat_eq, refl, sym, rules}
use Rattle.std.specs.FinMap.{get}
use Rattle.judge.proofs.Maps.{set_at-standing}
use Rattle.judge.proofs.checker.reply_to.Goals as goal

pub returns-in-Get-clause-next : goal.returns-in-Get-clause-next
returns-in-Get-clause-next c = rw c.in-Get.is (sym (set_at-standing c.args.standing.now c.in-Get.key _ refl))

pub returns-in-None-clause-next : goal.returns-in-None-clause-next
returns-in-None-clause-next c =
    let absent : get c.args.standing.now c.in-ComputePresent.key ≡ None = search rules in
    rw (c.in-ComputePresent.is, absent) (sym (set_at-standing c.args.standing.now c.in-ComputePresent.key None absent))

pub returns-in_default-clause-next : goal.returns-in_default-clause-next
returns-in_default-clause-next c =
    let held : get c.args.standing.now c.in-Exchange.key ≡ Some c.in-Some-get.found = search rules in
    let other : nat_eq c.in-Some-get.found c.in-Exchange.old ≡ false = search rules in
    rw (c.in-Exchange.is, held, other) (sym (set_at-standing c.args.standing.now c.in-Exchange.key (Some c.in-Some-get.found) held))

pub returns-in_default-2-clause-next : goal.returns-in_default-2-clause-next
returns-in_default-2-clause-next c =
    let absent : get c.args.standing.now c.in-Exchange.key ≡ None = search rules in
    rw (c.in-Exchange.is, absent) (sym (set_at-standing c.args.standing.now c.in-Exchange.key None absent))

use Rattle.std.proofs.Common.{◌+◌, Option, subst, arith}
use Rattle.optimistic.specs.declared.drain.nexts.Pair.{Pair}
use Rattle.optimistic.specs.face.Scans.{LastBelow}
use Rattle.optimistic.proofs.lemmas.face.Scanning.{last_none, last_past, last_there}
use Rattle.optimistic.proofs.face.worker.Worker.last_in.Goals as goal

pub returns-in_default : goal.returns-in_default
returns-in_default g c =
    let v = c.args.self.now in
    let w = c.at_or_before.new.self in
    last_none c.args.start (c.args.last + 1) v w (subst (λ (o : Option Pair). LastBelow (c.args.last + 1) o v w) c.in_default.is c.at_or_before.ensures)

pub returns-then-pair-start : goal.returns-then-pair-start
returns-then-pair-start g c =
    let p = c.in-Some.pair in
    let v = c.args.self.now in
    let w = c.at_or_before.new.self in
    last_past c.args.start (c.args.last + 1) p v w c.if-pair-start.true (subst (λ (o : Option Pair). LastBelow (c.args.last + 1) o v w) c.in-Some.is c.at_or_before.ensures)

pub returns : goal.returns
returns g c =
    let p = c.in-Some.pair in
    let v = c.args.self.now in
    let w = c.at_or_before.new.self in
    let above = c.if-pair-start.false in
    last_there c.args.start (c.args.last + 1) p v w (omega (arith, above)) (subst (λ (o : Option Pair). LastBelow (c.args.last + 1) o v w) c.in-Some.is c.at_or_before.ensures)

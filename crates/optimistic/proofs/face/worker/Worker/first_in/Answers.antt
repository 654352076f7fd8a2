use Rattle.std.proofs.Common.{ℕ, ◌<◌, ◌^◌, Option, subst, arith}
use Rattle.optimistic.specs.declared.drain.nexts.Pair.{Pair}
use Rattle.optimistic.specs.face.Scans.{FirstFrom}
use Rattle.optimistic.proofs.lemmas.face.Scanning.{walk_none, walk_past, first_there}
use Rattle.optimistic.proofs.face.worker.Worker.first_in.Goals as goal

pub returns-in_default : goal.returns-in_default
returns-in_default g c =
    let last : ℕ = c.args.last in
    let v = c.args.self.now in
    let w = c.at_or_after.new.self in
    let small : last < 2 ^ 64 = omega arith in
    let first = subst (λ (o : Option Pair). FirstFrom c.args.start o v w) c.in_default.is c.at_or_after.ensures in
    (first.0, walk_none c.args.start last v w small first)

pub returns-then-pair-last : goal.returns-then-pair-last
returns-then-pair-last g c =
    let p = c.in-Some.pair in
    let v = c.args.self.now in
    let w = c.at_or_after.new.self in
    let first = subst (λ (o : Option Pair). FirstFrom c.args.start o v w) c.in-Some.is c.at_or_after.ensures in
    (first.0, walk_past c.args.start c.args.last p v w c.if-pair-last.true first)

pub returns : goal.returns
returns g c =
    let p = c.in-Some.pair in
    let v = c.args.self.now in
    let w = c.at_or_after.new.self in
    let below = c.if-pair-last.false in
    let first = subst (λ (o : Option Pair). FirstFrom c.args.start o v w) c.in-Some.is c.at_or_after.ensures in
    first_there c.args.start c.args.last p v w (omega (arith, below)) first

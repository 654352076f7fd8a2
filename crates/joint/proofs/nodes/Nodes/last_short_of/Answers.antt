use Rattle.std.proofs.Common.{rules, ◌≡◌, ◌≤◌, ◌<◌, ◌-◌, suc, arith}
use Rattle.joint.proofs.nodes.Nodes.last_short_of.Goals as goal

pub returns-in-Some : goal.returns-in-Some
returns-in-Some g c m st =
    let less : c.in-Some.last ≡ c.args.key - 1 = search rules in
    let one : 1 ≤ c.args.key = search rules in
    let e : suc c.in-Some.last ≡ c.args.key = omega (arith, less, one) in
    rw e at (c.last_to.ensures m st)

pub returns-in-None : goal.returns-in-None
returns-in-None g c m st =
    let e : c.args.key < 1 = search rules in
    λ q l. absurd (omega (arith, l, e))

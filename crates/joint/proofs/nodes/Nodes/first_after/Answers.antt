use Rattle.std.proofs.Common.{rules, ◌≡◌, ◌≤◌, ◌+◌, ◌^◌, suc, arith}
use Rattle.joint.proofs.nodes.Nodes.first_after.Goals as goal

pub returns-in-Some : goal.returns-in-Some
returns-in-Some g c m st =
    let one : c.in-Some.from ≡ c.args.key + 1 = search rules in
    let e : c.in-Some.from ≡ suc c.args.key = omega (arith, one) in
    rw e at (c.first_from.ensures m st)

pub returns-in-None : goal.returns-in-None
returns-in-None g c m st =
    let e : 2 ^ 64 ≤ c.args.key + 1 = search rules in
    λ q l. st.none_beyond q (omega (arith, l, e))

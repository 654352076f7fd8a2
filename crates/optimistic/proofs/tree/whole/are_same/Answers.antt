use Rattle.std.proofs.Common.{◌≡◌, rules}
use Rattle.std.proofs.lemmas.Bool.{eqb-true}
use Rattle.optimistic.proofs.tree.whole.are_same.Goals as goal

pub returns : goal.returns
returns c e =
    let node : c.args.a.node ≡ c.args.b.node = search rules in
    let form : c.args.a.form ≡ c.args.b.form = search rules in
    let version : c.args.a.version ≡ c.args.b.version = eqb-true c.args.a.version c.args.b.version e in
    λ i. record { node = node i; form = form i; version = version i }

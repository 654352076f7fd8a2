use Rattle.std.proofs.Common.{◌≡◌, None, arith, rules}
use Rattle.trial.proofs.RowVersions.{at_none, bare_rows, lists_past}
use Rattle.trial.proofs.examples.versions.store.Store.scan.Goals as goal

pub loop-row-preserved : goal.loop-row-preserved
loop-row-preserved g c =
    let at = c.in-Some.ensures.some in
    let inv = c.loop-row.invariant in
    (c.in_ok-put_row.ensures c.args.start (omega (arith, at.0, inv.1)) (lists_past _ _ c.args.start c.loop-row.from c.in-Some.row _ at.0 (bare_rows _ c.loop-row.from c.in-Some.row _ (search rules) at.2) inv.0), omega (arith, at.0, inv.1), omega (arith, at.1))

pub returns : goal.returns
returns g c =
    let last : c.row_within.result ≡ None = search rules in
    let inv = c.loop-row.invariant in
    lists_past _ _ c.args.start c.loop-row.from c.args.end _ inv.2 (bare_rows _ c.loop-row.from c.args.end _ (search rules) (at_none _ _ c.row_within.ensures.none last)) inv.0

use Rattle.std.proofs.Common.{rules, ◌≡◌, ◌≤◌, ◌+◌, ◌^◌, subst, arith}
use Rattle.congee.specs.owned.Cursor.{IsAt}
use Rattle.congee.specs.owned.Walks.{steps_of}
use Rattle.congee.proofs.owned.arena.Arena.seek_past.Goals as goal

pub returns-in-Some-clause-at : goal.returns-in-Some-clause-at
returns-in-Some-clause-at g c =
    let e : c.in-Some.end ≡ c.args.last + 1 = search rules in
    subst (IsAt c.args.self.now.nodes (steps_of c.seek.result)) e c.seek.ensures.at

pub returns-in-None-clause-at : goal.returns-in-None-clause-at
returns-in-None-clause-at g c =
    let e : 2 ^ 64 ≤ c.args.last + 1 = search rules in
    let same : 2 ^ 64 ≡ c.args.last + 1 = omega (arith, e) in
    subst (IsAt c.args.self.now.nodes (steps_of c.ending.result)) same c.ending.ensures.at

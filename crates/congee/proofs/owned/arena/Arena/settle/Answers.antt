use Rattle.std.proofs.Common.{rules, ◌≡◌, ◌+◌, ◌<◌, ◌^◌, arith}
use Rattle.std.specs.Prelude.{Some}
use Rattle.std.specs.FinMap as map
use Rattle.congee.specs.owned.Counted.{one_if}
use Rattle.congee.specs.owned.OwnedSteps.{settled}
use Rattle.congee.specs.owned.Table.{pairs_of}
use Rattle.congee.proofs.lemmas.owned.Counted.{len_changes, frees_with, settled_one}
use Rattle.congee.proofs.owned.arena.Arena.settle.Goals as goal

pub returns-clause-frees : goal.returns-clause-frees
returns-clause-frees g c = rw c.in-Some.is (frees_with g.A.Allocator.charged_of g.A.Allocator.limit_of c.args.self.now c.change-before.new.self c.args.self.now.pairs c.args.key.now c.change-before.result _ _ c.change-before.ensures)

pub returns-clause-counted : goal.returns-clause-counted
returns-clause-counted g c =
    let small : c.key_of_bytes-number.result < 2 ^ 64 = search rules in
    let same = settled_one c.change-before.result c.in-Some.value in
    let changes : map.len (pairs_of c.change-before.new.self.nodes) + one_if c.change-before.result ≡ map.len (pairs_of c.args.self.now.nodes) + one_if (settled c.change-before.result (Some c.in-Some.value)) = len_changes c.args.self.now.nodes c.change-before.new.self.nodes c.key_of_bytes-number.result c.args.key.now small c.key_of_bytes-number.ensures c.change-before.result (settled c.change-before.result (Some c.in-Some.value)) c.change-before.ensures.edits.change in
    omega (arith, changes, same, c.requires.counted)

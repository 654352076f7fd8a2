use Rattle.std.proofs.Common.{rules, ◌≡◌, ◌+◌, ◌<◌, ◌^◌, arith}
use Rattle.std.specs.Prelude.{None}
use Rattle.std.specs.FinMap as map
use Rattle.congee.specs.owned.Counted.{one_if}
use Rattle.congee.specs.owned.Table.{pairs_of}
use Rattle.congee.proofs.lemmas.owned.Counted.{len_changes, frees_with}
use Rattle.congee.proofs.owned.arena.Arena.remove.Goals as goal

pub counted_out-self-requires : goal.counted_out-self-requires
counted_out-self-requires g c =
    let small : c.key_of_bytes-number.result < 2 ^ 64 = search rules in
    let changes : map.len (pairs_of c.pull-before.new.self.nodes) + one_if c.pull-before.result ≡ map.len (pairs_of c.args.self.now.nodes) + 0 = len_changes c.args.self.now.nodes c.pull-before.new.self.nodes c.key_of_bytes-number.result c.args.key.now small c.key_of_bytes-number.ensures c.pull-before.result None c.pull-before.ensures.edits.change in
    omega (arith, changes, c.requires.counted)

pub returns-clause-frees : goal.returns-clause-frees
returns-clause-frees g c = frees_with g.A.Allocator.charged_of g.A.Allocator.limit_of c.args.self.now c.pull-before.new.self c.counted_out-self.result c.args.key.now c.pull-before.result None _ c.pull-before.ensures

pub returns-clause-counted : goal.returns-clause-counted
returns-clause-counted g c =
    let small : c.key_of_bytes-number.result < 2 ^ 64 = search rules in
    let changes : map.len (pairs_of c.pull-before.new.self.nodes) + one_if c.pull-before.result ≡ map.len (pairs_of c.args.self.now.nodes) + 0 = len_changes c.args.self.now.nodes c.pull-before.new.self.nodes c.key_of_bytes-number.result c.args.key.now small c.key_of_bytes-number.ensures c.pull-before.result None c.pull-before.ensures.edits.change in
    omega (arith, changes, c.counted_out-self.ensures, c.requires.counted)

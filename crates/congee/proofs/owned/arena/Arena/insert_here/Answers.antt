use Rattle.std.proofs.Common.{rules, ◌≡◌, ◌+◌, ◌<◌, ◌^◌, None, Some, arith}
use Rattle.std.specs.FinMap as map
use Rattle.congee.specs.owned.Counted.{one_if}
use Rattle.congee.specs.owned.Table.{pairs_of}
use Rattle.congee.proofs.lemmas.owned.Counted.{few_pairs, len_changes, adds_with}
use Rattle.congee.proofs.owned.arena.Arena.insert_here.Goals as goal

pub counted_in-pairs-requires : goal.counted_in-pairs-requires
counted_in-pairs-requires g c = let few = few_pairs c.args.self.now.nodes in omega (arith, few, c.requires.counted)

pub returns-clause-adds : goal.returns-clause-adds
returns-clause-adds g c = adds_with g.A.Allocator.charged_of g.A.Allocator.limit_of c.args.self.now c.add_here.new.self c.counted_in-pairs.result c.args.key.now None c.args.value _ c.add_here.ensures

pub returns-clause-counted : goal.returns-clause-counted
returns-clause-counted g c =
    let small : c.key_of_bytes-number.result < 2 ^ 64 = search rules in
    let changes : map.len (pairs_of c.add_here.new.self.nodes) + 0 ≡ map.len (pairs_of c.args.self.now.nodes) + 1 = len_changes c.args.self.now.nodes c.add_here.new.self.nodes c.key_of_bytes-number.result c.args.key.now small c.key_of_bytes-number.ensures None (Some c.args.value) c.add_here.ensures.edits.change in
    omega (arith, changes, c.counted_in-pairs.ensures, c.requires.counted)

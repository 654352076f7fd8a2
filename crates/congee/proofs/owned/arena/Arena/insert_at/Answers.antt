use Rattle.std.proofs.Common.{rules, ◌≡◌, ◌+◌, ◌<◌, ◌^◌, ap, sym, ◌∙◌, arith}
use Rattle.std.specs.Prelude.{Some}
use Rattle.std.specs.FinMap as map
use Rattle.congee.specs.owned.Counted.{one_if}
use Rattle.congee.specs.owned.Table.{pairs_of}
use Rattle.congee.proofs.lemmas.owned.Counted.{few_pairs, len_changes, adds_with, denies_with}
use Rattle.congee.proofs.lemmas.owned.Tables.{same_pairs}
use Rattle.congee.proofs.owned.arena.Arena.insert_at.Goals as goal

pub counted_in-self-requires : goal.counted_in-self-requires
counted_in-self-requires g c = let few = few_pairs c.args.self.now.nodes in omega (arith, few, c.requires.counted)

pub returns-in-Ok-clause-adds : goal.returns-in-Ok-clause-adds
returns-in-Ok-clause-adds g c = adds_with g.A.Allocator.charged_of g.A.Allocator.limit_of c.args.self.now c.put.new.self c.counted_in-self.result c.args.key.now c.in-Ok.before c.args.value _ c.in-Ok.ensures.adds

pub returns-in-Ok-clause-counted : goal.returns-in-Ok-clause-counted
returns-in-Ok-clause-counted g c =
    let small : c.key_of_bytes-number.result < 2 ^ 64 = search rules in
    let changes : map.len (pairs_of c.put.new.self.nodes) + one_if c.in-Ok.before ≡ map.len (pairs_of c.args.self.now.nodes) + 1 = len_changes c.args.self.now.nodes c.put.new.self.nodes c.key_of_bytes-number.result c.args.key.now small c.key_of_bytes-number.ensures c.in-Ok.before (Some c.args.value) c.in-Ok.ensures.adds.edits.change in
    omega (arith, changes, c.counted_in-self.ensures, c.requires.counted)

pub returns-in-Err-clause-refused : goal.returns-in-Err-clause-refused
returns-in-Err-clause-refused g c = denies_with g.A.Allocator.charged_of g.A.Allocator.limit_of c.args.self.now c.put.new.self c.args.self.now.pairs c.args.key.now c.args.value _ c.in-Err.refused c.in-Err.ensures.refused

pub returns-in-Err-clause-counted : goal.returns-in-Err-clause-counted
returns-in-Err-clause-counted g c = c.requires.counted ∙ sym (ap map.len (same_pairs c.args.self.now.nodes c.put.new.self.nodes c.in-Err.ensures.refused.same))

use Rattle.std.proofs.Common.{false, sym, Some, arith}
use Rattle.congee.proofs.lemmas.owned.Contents.{inserts, refuses, found_at, denied_tree, denied_bytes, denied_branch}
use Rattle.congee.proofs.lemmas.owned.Keying.{denied_keyed, keyed_change}
use Rattle.congee.proofs.owned.congee.Congee.insert.Goals as goal

pub returns-in-Ok-clause-inserts : goal.returns-in-Ok-clause-inserts
returns-in-Ok-clause-inserts g c =
    let told = inserts g.A.Allocator.charged_of g.A.Allocator.limit_of c.self.inside.drainer c.self.inside.arena c.insert.new.self (g.K.Word64.word c.args.key) c.bytes_of_key-bytes.ensures.small c.bytes_of_key-bytes.result c.bytes_of_key-bytes.ensures.bytes c.in-Ok.before c.to_word.result c.in-Ok.ensures.adds in
    (c.in-Ok.before, c.word_of.ensures, rw (← c.self.view_is, ← c.to_word.ensures.number) told)

pub returns-in-Ok-clause-put : goal.returns-in-Ok-clause-put
returns-in-Ok-clause-put g c = rw (← c.to_word.ensures.number) (sym (found_at c.insert.new.self (g.K.Word64.word c.args.key) c.bytes_of_key-bytes.ensures.small c.bytes_of_key-bytes.result c.bytes_of_key-bytes.ensures.bytes (Some c.to_word.result) (sym c.in-Ok.ensures.adds.edits.change.now)))

pub invariant_of-self : goal.invariant_of-self
invariant_of-self g c =
    let adds = c.in-Ok.ensures.adds in
    (adds.edits.tree, omega (arith, adds.edits.balance, c.self.invariant.1), adds.filled false c.self.invariant.2, keyed_change _ _ _ c.bytes_of_key-bytes.ensures.small _ c.bytes_of_key-bytes.ensures.bytes _ _ adds.edits.change c.self.invariant.3, c.insert.ensures.counted)

pub invariant_of-self-2 : goal.invariant_of-self-2
invariant_of-self-2 g c = (
  denied_tree _ _ _ _ _ _ _ _ c.self.invariant.0 c.in-Err.ensures.refused,
  omega (arith, denied_bytes _ _ _ _ _ _ _ _ c.in-Err.ensures.refused, c.in-Err.ensures.refused.balance, c.self.invariant.1),
  denied_branch _ _ _ _ _ _ _ _ c.in-Err.ensures.refused c.self.invariant.2,
  denied_keyed _ _ _ _ _ _ _ _ c.in-Err.ensures.refused c.self.invariant.3,
  c.insert.ensures.counted,
)

pub returns-clause-refused : goal.returns-clause-refused
returns-clause-refused g c = rw (← c.self.view_is) (refuses g.A.Allocator.charged_of g.A.Allocator.limit_of c.self.inside.drainer c.self.inside.arena c.insert.new.self (g.K.Word64.word c.args.key) c.bytes_of_key-bytes.ensures.small c.bytes_of_key-bytes.result c.bytes_of_key-bytes.ensures.bytes c.to_word.result (c.in-Err.e, c.in-Err.field-0-1) c.in-Err.ensures.refused)

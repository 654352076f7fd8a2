use Rattle.std.proofs.Common.{false, ap, sym, arith}
use Rattle.congee.proofs.lemmas.owned.Contents.{inserts, refuses, denied_tree, denied_bytes, denied_branch}
use Rattle.congee.proofs.lemmas.owned.Keying.{denied_keyed, keyed_change}
use Rattle.congee.proofs.owned.congee.Congee.insert_number_near.Goals as goal
use Rattle.congee.proofs.owned.congee.Congee.insert_number_near.Goals.{in-Ok, in-Err}

pub invariant_of-self : goal.invariant_of-self
invariant_of-self g c = elim c.match-insert_near.branch [
  | in-Ok w ↦ (let adds = w.in-Ok.ensures.adds.1 in (adds.edits.tree, omega (arith, adds.edits.balance, c.self.invariant.1), adds.filled false c.self.invariant.2, keyed_change _ _ _ c.bytes_of_key-bytes.ensures.small _ c.bytes_of_key-bytes.ensures.bytes _ _ adds.edits.change c.self.invariant.3, c.insert_near.ensures.counted))
  | in-Err w ↦ (
    denied_tree _ _ _ _ _ _ _ _ c.self.invariant.0 w.in-Err.ensures.refused,
    omega (arith, denied_bytes _ _ _ _ _ _ _ _ w.in-Err.ensures.refused, w.in-Err.ensures.refused.balance, c.self.invariant.1),
    denied_branch _ _ _ _ _ _ _ _ w.in-Err.ensures.refused c.self.invariant.2,
    denied_keyed _ _ _ _ _ _ _ _ w.in-Err.ensures.refused c.self.invariant.3,
    c.insert_near.ensures.counted,
  )
]

pub returns-clause-pairs : goal.returns-clause-pairs
returns-clause-pairs g c = elim c.match-insert_near.branch [
  | in-Ok w ↦ (
      let told = inserts g.A.Allocator.charged_of g.A.Allocator.limit_of c.self.inside.drainer c.self.inside.arena c.insert_near.new.self c.args.key c.bytes_of_key-bytes.ensures.small c.bytes_of_key-bytes.result c.bytes_of_key-bytes.ensures.bytes _ c.args.value w.in-Ok.ensures.adds.1 in
      rw (w.result-is, ← c.self.view_is) (sym (ap (λ p. p.1) told.answers)))
  | in-Err w ↦ rw w.result-is tt
]

pub returns-clause-keeps : goal.returns-clause-keeps
returns-clause-keeps g c = elim c.match-insert_near.branch [
  | in-Ok w ↦ (
      let told = inserts g.A.Allocator.charged_of g.A.Allocator.limit_of c.self.inside.drainer c.self.inside.arena c.insert_near.new.self c.args.key c.bytes_of_key-bytes.ensures.small c.bytes_of_key-bytes.result c.bytes_of_key-bytes.ensures.bytes _ c.args.value w.in-Ok.ensures.adds.1 in
      rw (← c.self.view_is) told.keeps)
  | in-Err w ↦ (
      let told = refuses g.A.Allocator.charged_of g.A.Allocator.limit_of c.self.inside.drainer c.self.inside.arena c.insert_near.new.self c.args.key c.bytes_of_key-bytes.ensures.small c.bytes_of_key-bytes.result c.bytes_of_key-bytes.ensures.bytes c.args.value (w.in-Err.e, w.in-Err.field-0-1) w.in-Err.ensures.refused in
      rw (← c.self.view_is) told.keeps)
]

pub returns-clause-refused : goal.returns-clause-refused
returns-clause-refused g c = elim c.match-insert_near.branch [
  | in-Ok w ↦ rw w.result-is tt
  | in-Err w ↦ rw (w.result-is, ← c.self.view_is) (refuses g.A.Allocator.charged_of g.A.Allocator.limit_of c.self.inside.drainer c.self.inside.arena c.insert_near.new.self c.args.key c.bytes_of_key-bytes.ensures.small c.bytes_of_key-bytes.result c.bytes_of_key-bytes.ensures.bytes c.args.value (w.in-Err.e, w.in-Err.field-0-1) w.in-Err.ensures.refused)
]

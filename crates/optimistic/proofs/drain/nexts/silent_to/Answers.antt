use Rattle.std.proofs.Common.{inl, inr, arith}
use Rattle.optimistic.proofs.lemmas.drain.Keys.{near_first, near_to, reaches}
use Rattle.optimistic.proofs.drain.nexts.silent_to.Goals as goal

pub returns-then-next-last : goal.returns-then-next-last
returns-then-next-last c off none =
    let a = c.if-next-from.true in
    let b = c.if-next-last.true in (
      omega arith,
      λ k above below.
          let near = near_to c.args.from c.args.level c.key_byte.result c.last_key-last.result k c.requires c.key_byte.ensures.byte c.last_key-last.ensures above (omega arith) in
          (near, c.next_key-next.ensures off none k above (near_first c.args.level c.args.from k c.requires near) (inl (omega arith))),
    )

pub returns-else-next-last : goal.returns-else-next-last
returns-else-next-last c off none =
    let a = c.if-next-from.true in
    let b = c.if-next-last.false in
    let e = c.key_byte.ensures.byte in (
      reaches c.args.from c.args.level c.key_byte.result c.last_key-last.result c.requires c.last_key-last.ensures (omega arith),
      λ k above below.
          let near = near_to c.args.from c.args.level c.key_byte.result c.last_key-last.result k c.requires e c.last_key-last.ensures above below in
          (near, c.next_key-next.ensures off none k above (near_first c.args.level c.args.from k c.requires near) (inl (omega arith))),
    )

pub returns-else-next-from : goal.returns-else-next-from
returns-else-next-from c off none =
    let e = c.key_byte.ensures.byte in (
      reaches c.args.from c.args.level c.key_byte.result c.last_key-last.result c.requires c.last_key-last.ensures (omega arith),
      λ k above below.
          let near = near_to c.args.from c.args.level c.key_byte.result c.last_key-last.result k c.requires e c.last_key-last.ensures above below in
          (near, c.next_key-next.ensures off none k above (near_first c.args.level c.args.from k c.requires near) (inr c.if-next-from.false)),
    )

use Rattle.std.proofs.Common.{sym, subst}
use Rattle.atomic_table.specs.Seated.{TableId}
use Rattle.optimistic.specs.face.Workers.{HasNames}
use Rattle.optimistic.proofs.lemmas.face.Knowing.{has_names}
use Rattle.optimistic.proofs.face.pool.Pool.new.Goals as goal

pub new-requires-2 : goal.new-requires-2
new-requires-2 c = subst (λ (id : TableId). HasNames id c.in_ok-free.free c.note-names.result) (sym c.note-names.ensures.of.0)
    (has_names c.args.tree.now.nodes.table.shared.table_id c.hand-hand.result.me.0.seen c.in_ok-free.free c.note-names.result c.note-names.ensures.note c.hand-hand.ensures.of.2 (c.in_ok-free.ensures _))

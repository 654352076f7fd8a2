use Rattle.std.specs.Prelude.{◌≡◌, length}
use Rattle.optimistic.specs.words.Calls.{Later}
use Rattle.optimistic.specs.words.Kept.{Since}
use Rattle.optimistic.specs.words.Told.{IsOf}
use Rattle.optimistic.specs.tree.Trails.{IsTrail}
use Rattle.optimistic.proofs.tree.get.Tree.back_run_soon.Given as goal

abbrev pub invariant-loop : goal.invariant-loop
invariant-loop l =
    IsOf l.fn.self.nodes.table.shared.table_id l.hand × Later l.initial.hand.me.0 l.hand.me.0 × (l.hand.me.0.mine ≡ l.initial.hand.me.0.mine) × Since l.initial.hand.me.0.seen l.hand.me.0.seen × IsTrail l.trail l.hand.me.0.seen
    × (length l.out ≡ length l.initial.out)

use Rattle.std.specs.Prelude.{◌≡◌, ◌<◌, length}
use Rattle.optimistic.specs.words.Calls.{Later}
use Rattle.optimistic.specs.words.Kept.{Since}
use Rattle.optimistic.specs.words.Told.{IsOf}
use Rattle.optimistic.specs.tree.Alone.{IsDisturbedFrom}
use Rattle.optimistic.proofs.tree.get.Tree.whole_soon.Given as goal

abbrev pub invariant-loop-attempt : goal.invariant-loop-attempt
invariant-loop-attempt l =
    IsOf l.fn.self.nodes.table.shared.table_id l.hand × Later l.fn.hand.me.0 l.hand.me.0 × (l.hand.me.0.mine ≡ l.fn.hand.me.0.mine) × Since l.fn.hand.me.0.seen l.hand.me.0.seen × (length l.out ≡ length l.fn.out)
    × (0 < l._attempt → IsDisturbedFrom l.fn.hand.me.0 l.hand.me.0)

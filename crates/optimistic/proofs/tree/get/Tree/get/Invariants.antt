use Rattle.std.specs.Prelude.{◌≡◌}
use Rattle.optimistic.specs.words.Calls.{Later}
use Rattle.optimistic.specs.words.Kept.{Since}
use Rattle.optimistic.specs.words.Told.{IsOf}
use Rattle.optimistic.proofs.tree.get.Tree.get.Given as goal

abbrev pub invariant-loop : goal.invariant-loop
invariant-loop g l = IsOf l.fn.self.nodes.table.shared.table_id l.hand × Later l.initial.hand.me.0 l.hand.me.0 × (l.hand.me.0.mine ≡ l.initial.hand.me.0.mine) × Since l.initial.hand.me.0.seen l.hand.me.0.seen

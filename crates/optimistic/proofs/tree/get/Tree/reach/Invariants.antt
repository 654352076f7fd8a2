use Rattle.std.specs.Prelude.{◌≡◌, IfSome}
use Rattle.optimistic.specs.words.Calls.{Keeps}
use Rattle.optimistic.specs.words.Kept.{Since}
use Rattle.optimistic.specs.words.Told.{IsOf}
use Rattle.optimistic.specs.tree.Alone.{IsFollowed}
use Rattle.optimistic.specs.tree.Reads.{IsPlace, IsLook}
use Rattle.optimistic.proofs.tree.get.Tree.reach.Given as goal

abbrev pub invariant-loop-depth : goal.invariant-loop-depth
invariant-loop-depth l =
    IsOf l.fn.self.nodes.table.shared.table_id l.hand × Keeps l.fn.hand.me.0 l.hand.me.0 × (l.hand.me.0.mine ≡ l.fn.hand.me.0.mine) × IfSome l.above (λ p. IsPlace p l.hand.me.0) × IsPlace l.at l.hand.me.0 × IsLook l.fn.key l.next l.hand.me.0 × Since l.fn.hand.me.0.seen l.hand.me.0.seen
    × IsFollowed l.fn.key l._depth l.next l.fn.hand.me.0 l.hand.me.0

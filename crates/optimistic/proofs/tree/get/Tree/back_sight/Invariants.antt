use Rattle.std.specs.Prelude.{IfSome}
use Rattle.optimistic.specs.words.Told.{IsOf, Looks}
use Rattle.optimistic.specs.tree.Asked.{IsTraced, sight_in}
use Rattle.optimistic.specs.tree.Sights.{IsBackSight}
use Rattle.optimistic.specs.tree.Trees.{IsTree}
use Rattle.optimistic.proofs.tree.get.Tree.back_sight.Given as goal

abbrev pub invariant-loop-depth : goal.invariant-loop-depth
invariant-loop-depth l =
    IsOf l.fn.self.nodes.table.shared.table_id l.hand × Looks IsTree l.fn.hand.me.0 l.hand.me.0 × IfSome l.back (λ b. IsBackSight l.fn.to b l.hand.me.0) × IsTraced l.fn.to l._depth (sight_in l.back) l.fn.hand.me.0 l.hand.me.0

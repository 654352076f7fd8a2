use Rattle.std.specs.Prelude.{IfSome}
use Rattle.optimistic.specs.words.Told.{IsOf, Looks}
use Rattle.optimistic.specs.tree.Alone.{IsDated}
use Rattle.optimistic.specs.tree.Asked.{IsTraced}
use Rattle.optimistic.specs.tree.Sights.{IsSight}
use Rattle.optimistic.specs.tree.Trees.{IsTree}
use Rattle.optimistic.proofs.tree.get.Tree.sight.Given as goal

abbrev pub invariant-loop-depth : goal.invariant-loop-depth
invariant-loop-depth l =
    IsOf l.fn.self.nodes.table.shared.table_id l.hand × Looks IsTree l.fn.hand.me.0 l.hand.me.0 × IfSome l.sight (λ s. IsSight s l.fn.from l.hand.me.0) × IsTraced l.fn.from l._depth l.sight l.fn.hand.me.0 l.hand.me.0
    × IfSome l.sight (λ s. IsDated s.at.node s.version l.fn.hand.me.0.seen l.hand.me.0.seen)

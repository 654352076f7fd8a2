use Rattle.std.specs.Prelude.{◌≡◌, ◌-◌, ◌+◌, ◌≤◌, length, take, IfSome}
use Rattle.optimistic.specs.words.Told.{IsOf, Looks}
use Rattle.optimistic.specs.tree.RunsBack.{lowest}
use Rattle.optimistic.specs.tree.Trails.{IsTrail}
use Rattle.optimistic.specs.tree.Trees.{IsTree}
use Rattle.optimistic.specs.tree.WholesBack.{IsCollectedBack}
use Rattle.optimistic.proofs.tree.get.Tree.back_collect.Given as goal

abbrev pub invariant-loop-reached : goal.invariant-loop-reached
invariant-loop-reached l =
    IsOf l.fn.self.nodes.table.shared.table_id l.hand × Looks IsTree l.fn.hand.me.0 l.hand.me.0 × IfSome l.reached.next (λ k. l.fn.start ≤ k) × (l.reached.count ≤ length l.out) × (length l.out ≡ length l.fn.out)
    × IsCollectedBack l.marks.items (lowest l.fn.start l.reached.next) (l.fn.last + 1) (take l.reached.count l.out) l.hand.me.0 × IsTrail l.trail l.hand.me.0.seen

abbrev pub decreases-loop-reached : goal.decreases-loop-reached
decreases-loop-reached l = lowest l.fn.start l.reached.next - l.fn.start

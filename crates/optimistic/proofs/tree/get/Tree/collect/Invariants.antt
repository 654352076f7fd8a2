use Rattle.std.specs.Prelude.{◌≡◌, ◌<◌, ◌-◌, ◌+◌, ◌≤◌, length, take, IfSome}
use Rattle.optimistic.specs.words.Told.{IsOf, Looks}
use Rattle.optimistic.specs.tree.Runs.{behind}
use Rattle.optimistic.specs.tree.Trails.{IsTrail}
use Rattle.optimistic.specs.tree.Trees.{IsTree}
use Rattle.optimistic.specs.tree.Wholes.{AreDated, IsCollected}
use Rattle.optimistic.proofs.tree.get.Tree.collect.Given as goal

abbrev pub invariant-loop-reached : goal.invariant-loop-reached
invariant-loop-reached l =
    IsOf l.fn.self.nodes.table.shared.table_id l.hand × Looks IsTree l.fn.hand.me.0 l.hand.me.0 × IfSome l.reached.next (λ k. k ≤ l.fn.last) × (l.reached.count ≤ length l.out) × (length l.out ≡ length l.fn.out)
    × IsCollected l.marks.items l.fn.start (behind l.fn.last l.reached.next) (take l.reached.count l.out) l.hand.me.0 × IsTrail l.trail l.hand.me.0.seen
    × (0 < length l.pairs) × AreDated l.marks.items l.fn.hand.me.0 l.hand.me.0

abbrev pub decreases-loop-reached : goal.decreases-loop-reached
decreases-loop-reached l = l.fn.last + 1 - behind l.fn.last l.reached.next

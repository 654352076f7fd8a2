use Rattle.std.specs.Prelude.{◌≡◌, length, take, IfSome}
use Rattle.optimistic.specs.words.Told.{IsOf, Looks}
use Rattle.optimistic.specs.tree.Alone.{IsDated}
use Rattle.optimistic.specs.tree.Runs.{IsRun}
use Rattle.optimistic.specs.tree.Trails.{IsTrail}
use Rattle.optimistic.specs.tree.Trees.{IsTree}
use Rattle.optimistic.proofs.tree.get.Tree.look_by.Given as goal

abbrev pub invariant-loop : goal.invariant-loop
invariant-loop l =
    IsOf l.fn.self.nodes.table.shared.table_id l.hand × Looks IsTree l.fn.hand.me.0 l.hand.me.0 × IsTrail l.trail l.hand.me.0.seen × (length l.out ≡ length l.fn.out)
    × IfSome l.looked (λ r. IsRun r l.fn.from l.fn.last l.fn.places (take r.count l.out) l.hand.me.0)
    × IfSome l.looked (λ r. IsDated r.at.node r.version l.fn.hand.me.0.seen l.hand.me.0.seen)

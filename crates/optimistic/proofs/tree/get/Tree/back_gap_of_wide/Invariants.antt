use Rattle.std.specs.Prelude.{◌≡◌, ℕ, ◌+◌, ◌-◌, ◌*◌, ◌<◌, ◌≤◌}
use Rattle.optimistic.specs.words.Told.{IsOf, HasForm, Looks}
use Rattle.optimistic.specs.tree.Reads.{Agrees}
use Rattle.optimistic.specs.tree.Trees.{IsTree}
use Rattle.optimistic.proofs.tree.get.Tree.back_gap_of_wide.Given as goal

abbrev pub invariant-loop-end : goal.invariant-loop-end
invariant-loop-end l =
    IsOf l.fn.self.nodes.table.shared.table_id l.hand × HasForm l.fn.node 4 l.hand.me.0 × (l.end ≤ l.fn.to + 1) × (l.fn.to + 1 - l.end ≡ 0 → l.hand.me.0 ≡ l.initial.hand.me.0) × (0 < l.fn.to + 1 - l.end → Looks IsTree l.initial.hand.me.0 l.hand.me.0)
    × ((f : ℕ → ℕ) → Agrees l.fn.node 4 l.initial.hand.me.0 l.hand.me.0 f → (b : ℕ) → 0 ≤ b → b < l.fn.to + 1 - l.end → f (8 + 2 * (l.fn.to - b)) ≡ 0)

abbrev pub decreases-loop-end : goal.decreases-loop-end
decreases-loop-end l = l.end

use Rattle.std.specs.Prelude.{◌≡◌, ℕ, ◌+◌, ◌*◌, ◌<◌, ◌≤◌}
use Rattle.optimistic.specs.words.Told.{IsOf, HasForm, Looks}
use Rattle.optimistic.specs.tree.Reads.{Agrees}
use Rattle.optimistic.specs.tree.Trees.{IsTree}
use Rattle.optimistic.proofs.tree.get.Tree.gap_of_wide.Given as goal

abbrev pub invariant-loop-byte : goal.invariant-loop-byte
invariant-loop-byte l =
    IsOf l.fn.self.nodes.table.shared.table_id l.hand × HasForm l.fn.node 4 l.hand.me.0 × (l.fn.from ≤ l.byte) × (l.byte ≡ l.fn.from → l.hand.me.0 ≡ l.fn.hand.me.0) × (l.fn.from < l.byte → Looks IsTree l.fn.hand.me.0 l.hand.me.0)
    × ((f : ℕ → ℕ) → Agrees l.fn.node 4 l.fn.hand.me.0 l.hand.me.0 f → (b : ℕ) → l.fn.from ≤ b → b < l.byte → f (8 + 2 * b) ≡ 0)

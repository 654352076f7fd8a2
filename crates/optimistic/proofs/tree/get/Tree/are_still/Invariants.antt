use Rattle.std.specs.Prelude.{◌≡◌, ℕ, ◌<◌, get_or}
use Rattle.optimistic.specs.declared.tree.whole.Mark.{Mark}
use Rattle.optimistic.specs.words.Kept.{word_at}
use Rattle.optimistic.specs.words.Told.{IsOf}
use Rattle.optimistic.specs.tree.Wholes.{Went}
use Rattle.optimistic.proofs.tree.get.Tree.are_still.Given as goal

abbrev pub invariant-loop-i : goal.invariant-loop-i
invariant-loop-i l =
    IsOf l.fn.self.nodes.table.shared.table_id l.hand × Went l.initial.hand.me.0 l.hand.me.0
    × ((k : ℕ) (d : Mark) → k < l.i → word_at l.initial.hand.me.0.seen.words (get_or l.marks k d).node 0 ≡ (get_or l.marks k d).version)

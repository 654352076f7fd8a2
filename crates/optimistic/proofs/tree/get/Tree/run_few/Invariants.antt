use Rattle.std.specs.Prelude.{◌≡◌, ◌-◌, ◌≤◌, length, take}
use Rattle.optimistic.specs.Layout.{byte_at}
use Rattle.optimistic.specs.declared.words.rule.View.{View}
use Rattle.optimistic.specs.forms.Wide.{IsRest}
use Rattle.optimistic.specs.words.Kept.{Since}
use Rattle.optimistic.specs.words.Told.{IsOf, Looks}
use Rattle.optimistic.specs.tree.Reads.{IsPlace}
use Rattle.optimistic.specs.tree.Runs.{HasBytes, ShowsRun}
use Rattle.optimistic.specs.tree.Trees.{IsTree}
use Rattle.optimistic.proofs.tree.get.Tree.run_few.Given as goal

abbrev pub invariant-loop-count : goal.invariant-loop-count
invariant-loop-count l =
    IsOf l.fn.self.nodes.table.shared.table_id l.hand × IsPlace l.fn.at l.hand.me.0 × ((a : View) → Looks IsTree a l.fn.hand.me.0 → Looks IsTree a l.hand.me.0) × Since l.fn.hand.me.0.seen l.hand.me.0.seen
    × (l.fn.start ≤ l.from) × (l.from ≤ l.fn.stop) × (l.count ≤ l.fn.most) × (length l.out ≡ length l.fn.out) × (l.low ≡ byte_at l.from l.fn.at.level) × IsRest l.fn.bytes l.low l.rest
    × ((a : View) → Looks IsTree a l.fn.hand.me.0 → HasBytes l.fn.at l.fn.bytes l.fn.places a l.fn.hand.me.0 → ShowsRun l.fn.at l.fn.start l.from (take l.count l.out) a l.hand.me.0)

abbrev pub decreases-loop-count : goal.decreases-loop-count
decreases-loop-count l = l.fn.stop - l.from

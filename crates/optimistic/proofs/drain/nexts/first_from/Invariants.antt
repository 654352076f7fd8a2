use Rattle.std.specs.Prelude.{List, ◌-◌, ◌^◌, ◌<◌, ◌≤◌}
use Rattle.optimistic.specs.declared.words.rule.Block.{Block}
use Rattle.optimistic.specs.declared.words.rule.Entry.{Entry}
use Rattle.optimistic.specs.declared.words.rule.Plot.{Plot}
use Rattle.optimistic.specs.words.Last.{words_in}
use Rattle.optimistic.specs.tree.Nexts.{IsEnd, HasNone}
use Rattle.optimistic.proofs.drain.nexts.first_from.Given as goal

abbrev pub invariant-loop-next : goal.invariant-loop-next
invariant-loop-next l = (l.from ≤ l.key) × (l.key < 2 ^ 64) × ((plots : List Plot) (calm : List Block) (log : List Entry) → IsEnd (words_in l.words) plots calm log → HasNone log l.from l.key)

abbrev pub decreases-loop-next : goal.decreases-loop-next
decreases-loop-next l = 2 ^ 64 - l.key

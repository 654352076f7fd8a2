use Rattle.std.specs.Prelude.{List, ◌<◌, ◌≤◌}
use Rattle.optimistic.specs.declared.words.rule.Block.{Block}
use Rattle.optimistic.specs.declared.words.rule.Entry.{Entry}
use Rattle.optimistic.specs.declared.words.rule.Plot.{Plot}
use Rattle.optimistic.specs.words.Last.{words_in}
use Rattle.optimistic.specs.tree.Nexts.{IsEnd, Leads}
use Rattle.optimistic.proofs.drain.nexts.descend.Given as goal

abbrev pub invariant-loop-depth : goal.invariant-loop-depth
invariant-loop-depth l = (0 < l.at.form) × (l.at.form < 9) × (l.at.level < 8)
    × ((plots : List Plot) (calm : List Block) (log : List Entry) → IsEnd (words_in l.words) plots calm log → (l._depth ≤ l.at.level) × Leads plots calm l.at l.from)

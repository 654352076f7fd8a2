use Rattle.std.proofs.Common.{refl}
use Rattle.std.proofs.Output.{has_written_of_eq}
use Rattle.std.proofs.lemmas.Grind.{put_four}
use Rattle.congee.proofs.lemmas.owned.StatsTexts.{count_written, load_line_written, memory_written, whole_written}
use Rattle.congee.proofs.owned.stats.WholeTextDisplay.fmt.Goals as goal

pub returns-clause-writes : goal.returns-clause-writes
returns-clause-writes g c = λ plain ok.
    let all = c.args.self.now.total in
    let count = (rw (c.node_count-nodes.ensures.sum, c.value_count-entries.ensures) at c.in_ok-writeln.ensures.writes) plain refl in
    let load = c.in_ok-writeln-2.ensures.writes count.plain refl in
    let memory = (rw c.memory_size.ensures at c.in_ok-writeln-3.ensures.writes) load.plain refl in
    let pairs = c.writeln-4.ensures.writes memory.plain ok in
    put_four _ _ _ _ _ _ _ _ _ _ _ (has_written_of_eq _ _ _ _ _ (count_written all) count) (has_written_of_eq _ _ _ _ _ (load_line_written all) load)
    (has_written_of_eq _ _ _ _ _ (memory_written all) memory) pairs (whole_written all _)

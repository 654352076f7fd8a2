use Rattle.congee.proofs.lemmas.owned.Tables.{pairs_empty}
use Rattle.congee.proofs.owned.congee.Congee.new_with_drainer.Goals as goal

pub returns-clause-bare : goal.returns-clause-bare
returns-clause-bare g c =
    let arena = c.in_ok-arena.ensures in
    record { pairs = pairs_empty c.in_ok-arena.arena.nodes arena.empty; nodes = arena.nodes; wants = arena.wants; bytes = arena.bytes; filled = arena.filled }

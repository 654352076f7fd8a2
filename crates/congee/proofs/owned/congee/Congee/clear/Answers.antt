use Rattle.congee.proofs.lemmas.owned.Tables.{pairs_empty}
use Rattle.congee.proofs.owned.congee.Congee.clear.Goals as goal

pub returns-clause-bare : goal.returns-clause-bare
returns-clause-bare g c =
    record { pairs = pairs_empty c.clear.new.self.nodes c.clear.ensures.empty; nodes = c.clear.ensures.nodes; wants = c.clear.ensures.wants; bytes = c.clear.ensures.bytes; filled = c.clear.ensures.filled }

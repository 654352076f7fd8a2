use Rattle.congee.proofs.lemmas.owned.Tables.{pairs_empty}
use Rattle.congee.proofs.owned.congee_arc.CongeeArc.new.Goals as goal

pub returns-clause-empty : goal.returns-clause-empty
returns-clause-empty g c = pairs_empty c.in_ok-arena.arena.nodes c.in_ok-arena.ensures.empty

use Rattle.congee.proofs.lemmas.owned.Running.{owners_filled}
use Rattle.congee.proofs.owned.congee_arc.CongeeArc.nodes_filled.Goals as goal

pub returns-clause-filled : goal.returns-clause-filled
returns-clause-filled g c = rw (← c.self.view_is) c.nodes_filled.ensures

pub returns-clause-run : goal.returns-clause-run
returns-clause-run g c = rw (← c.self.view_is) (owners_filled _ c.nodes_filled.ensures)

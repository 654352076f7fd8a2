use Rattle.congee.specs.owned.Table.{pairs_of}
use Rattle.congee.proofs.lemmas.owned.Counted.{len_told}
use Rattle.congee.proofs.owned.congee_arc.CongeeArc.is_empty.Goals as goal

pub returns : goal.returns
returns g c = rw (← c.self.view_is) (len_told (pairs_of c.self.inside.arena.nodes) c.is_empty.result c.is_empty.ensures)

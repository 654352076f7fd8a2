use Rattle.std.specs.Prelude.{nat_eq}
use Rattle.congee.proofs.lemmas.owned.Contents.{content}
use Rattle.congee.proofs.lemmas.owned.Running.{run_filled}
use Rattle.congee.proofs.owned.congee.Congee.nodes_filled.Goals as goal

pub returns-clause-filled : goal.returns-clause-filled
returns-clause-filled g c = rw (← c.self.view_is) c.nodes_filled.ensures

pub returns-clause-run : goal.returns-clause-run
returns-clause-run g c =
    rw (← c.self.view_is) (run_filled nat_eq g.A.Allocator.charged_of g.A.Allocator.limit_of (content g.A.Allocator.charged_of c.self.inside.drainer c.self.inside.arena) c.nodes_filled.ensures)

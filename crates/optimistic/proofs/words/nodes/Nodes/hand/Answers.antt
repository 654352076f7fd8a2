use Rattle.std.proofs.Common.{rules}
use Rattle.optimistic.proofs.lemmas.words.Steps.{arrives, root_is, first_wide}
use Rattle.optimistic.proofs.words.nodes.Nodes.hand.Goals as goal

pub load_new_seat-requires : goal.load_new_seat-requires
load_new_seat-requires g c = (search rules, arrives _ _ _)

pub returns-clause-of : goal.returns-clause-of
returns-clause-of g c = (c.load_new_seat.ensures.0, c.load_new_seat.ensures.1, search (rules, first_wide, c.load_new_seat.ensures.2.1), root_is _ _ c.load_new_seat.ensures.2.2.0, c.load_new_seat.ensures.2.3)

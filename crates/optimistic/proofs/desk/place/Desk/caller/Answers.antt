use Rattle.std.proofs.Common.{rules}
use Rattle.optimistic.proofs.lemmas.desk.Steps.{enters}
use Rattle.optimistic.proofs.desk.place.Desk.caller.Goals as goal

pub load_new_seat-requires : goal.load_new_seat-requires
load_new_seat-requires g c = (search rules, enters _ _ _ _)

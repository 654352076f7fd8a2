use Rattle.std.proofs.Common.{rules}
use Rattle.optimistic.proofs.lemmas.desk.Steps.{gives_it}
use Rattle.optimistic.proofs.desk.place.Desk.give.Goals as goal

pub store-requires : goal.store-requires
store-requires g c = (search rules, search rules, gives_it _ _ _ _ _ c.args.value (search rules) (search rules) c.requires.tells)

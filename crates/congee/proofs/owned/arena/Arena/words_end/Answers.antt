use Rattle.congee.proofs.lemmas.owned.Tables.{pairs_stand}
use Rattle.congee.proofs.owned.arena.Arena.words_end.Goals as goal

pub returns : goal.returns
returns g c = λ q l. (pairs_stand c.args.self.now.nodes).none_beyond q l

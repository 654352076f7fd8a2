use Rattle.std.proofs.Common.{rules, ◌≡◌, None, arith}
use Rattle.congee.proofs.lemmas.owned.Tables.{pairs_stand}
use Rattle.congee.proofs.owned.congee.Congee.numbers_from.Goals as goal

pub returns-in-Some-clause-beyond : goal.returns-in-Some-clause-beyond
returns-in-Some-clause-beyond g c = rw (← c.self.view_is) (λ q l. (pairs_stand c.self.inside.arena.nodes).none_beyond q l)

pub returns-in-None-clause-least : goal.returns-in-None-clause-least
returns-in-None-clause-least g c =
    let e : c.args.from ≡ None = search rules in
    rw (← c.self.view_is, e) (λ n h q l. (pairs_stand c.self.inside.arena.nodes).none_beyond q (omega (arith, h, l)))

pub returns-in-None-clause-beyond : goal.returns-in-None-clause-beyond
returns-in-None-clause-beyond g c = rw (← c.self.view_is) (λ q l. (pairs_stand c.self.inside.arena.nodes).none_beyond q l)

use Rattle.std.proofs.Common.{refl}
use Rattle.congee.proofs.lemmas.owned.Iterated.{at_end, first_of, nothing_left, past_end}
use Rattle.congee.proofs.owned.into_iter.Rest.step.Goals as goal

pub returns-in_default : goal.returns-in_default
returns-in_default g c =
    let m = c.self.inside.tree.pairs in
    (nothing_left m c.self.inside.over c.self.inside.from c.self.inside.last _ c.self.view_is c.if-self.false (c.in_default.ensures.least c.self.inside.from refl), refl)

pub returns-then-key-last : goal.returns-then-key-last
returns-then-key-last g c =
    let m = c.self.inside.tree.pairs in
    first_of m c.self.inside.over c.self.inside.from c.self.inside.last _ c.self.view_is c.if-self.false c.in-Some.key c.in-Some.value (c.in-Some.ensures.least c.self.inside.from refl) c.if-key-last.true

pub returns-then-key-last-2 : goal.returns-then-key-last-2
returns-then-key-last-2 g c =
    let m = c.self.inside.tree.pairs in
    (past_end m c.self.inside.over c.self.inside.from c.self.inside.last _ c.self.view_is c.if-self.false c.in-Some.key c.in-Some.value (c.in-Some.ensures.least c.self.inside.from refl) c.if-key-last-2.true, refl)

pub returns : goal.returns
returns g c =
    let m = c.self.inside.tree.pairs in
    at_end m c.self.inside.over c.self.inside.from c.self.inside.last _ c.self.view_is c.if-self.false c.in-Some.key c.in-Some.value (c.in-Some.ensures.least c.self.inside.from refl) c.if-key-last-2.false c.if-key-last.false

use Rattle.std.proofs.Common.{refl}
use Rattle.congee.proofs.lemmas.owned.Iterated.{at_start, before_start, last_of, nothing_behind}
use Rattle.congee.proofs.owned.into_iter.Rest.step_back.Goals as goal

pub returns-in_default : goal.returns-in_default
returns-in_default g c =
    let m = c.self.inside.tree.pairs in
    (nothing_behind m c.self.inside.over c.self.inside.from c.self.inside.last _ c.self.view_is c.if-self.false c.in_default.ensures, refl)

pub returns-then-key-from : goal.returns-then-key-from
returns-then-key-from g c =
    let m = c.self.inside.tree.pairs in
    last_of m c.self.inside.over c.self.inside.from c.self.inside.last _ c.self.view_is c.if-self.false c.in-Some.key c.in-Some.value c.in-Some.ensures c.if-key-from.true

pub returns-then-key-from-2 : goal.returns-then-key-from-2
returns-then-key-from-2 g c =
    let m = c.self.inside.tree.pairs in
    (before_start m c.self.inside.over c.self.inside.from c.self.inside.last _ c.self.view_is c.if-self.false c.in-Some.key c.in-Some.value c.in-Some.ensures c.if-key-from-2.true, refl)

pub returns : goal.returns
returns g c =
    let m = c.self.inside.tree.pairs in
    at_start m c.self.inside.over c.self.inside.from c.self.inside.last _ c.self.view_is c.if-self.false c.in-Some.key c.in-Some.value c.in-Some.ensures c.if-key-from.false c.if-key-from-2.false

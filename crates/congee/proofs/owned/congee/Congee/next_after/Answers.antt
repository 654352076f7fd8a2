use Rattle.std.proofs.Common.{rules, ◌≡◌, ◌≤◌, ◌+◌, ◌^◌, ℕ, subst, refl, None, arith}
use Rattle.congee.specs.owned.Nearest.{IsLeast}
use Rattle.congee.specs.owned.Table.{pairs_of}
use Rattle.congee.proofs.lemmas.owned.Nearests.{least_as}
use Rattle.congee.proofs.lemmas.owned.Tables.{pairs_stand}
use Rattle.congee.proofs.owned.congee.Congee.next_after.Goals as goal

pub returns-in-Some-clause-found : goal.returns-in-Some-clause-found
returns-in-Some-clause-found g c =
    let e : c.in-Some.from ≡ c.to_word.result + 1 = search rules in
    let Q : ℕ → Type 0 = λ n. IsLeast (pairs_of c.self.inside.arena.nodes) n c.first_from.result in
    rw (← c.self.view_is, ← c.to_word.ensures.number) (c.first_from.result, c.pair_of.ensures, subst Q e c.first_from.ensures)

pub returns-in-Some-clause-exact : goal.returns-in-Some-clause-exact
returns-in-Some-clause-exact g c =
    let e : c.in-Some.from ≡ c.to_word.result + 1 = search rules in
    let Q : ℕ → Type 0 = λ n. IsLeast (pairs_of c.self.inside.arena.nodes) n c.first_from.result in
    λ key value. rw (← c.self.view_is, ← c.to_word.ensures.number) (least_as g.K.Word64.word g.K.Word64.of_word g.V.Word64.word g.V.Word64.of_word key value _ _ c.pair_of.result (c.first_from.result, c.pair_of.ensures, subst Q e c.first_from.ensures))

pub returns-in-None-clause-found : goal.returns-in-None-clause-found
returns-in-None-clause-found g c =
    let e : 2 ^ 64 ≤ c.to_word.result + 1 = search rules in
    rw (← c.self.view_is, ← c.to_word.ensures.number) (None, refl, λ q l. (pairs_stand c.self.inside.arena.nodes).none_beyond q (omega (arith, l, e)))

pub returns-in-None-clause-exact : goal.returns-in-None-clause-exact
returns-in-None-clause-exact g c =
    let e : 2 ^ 64 ≤ c.to_word.result + 1 = search rules in
    λ key value. rw (← c.self.view_is, ← c.to_word.ensures.number) (λ q l. (pairs_stand c.self.inside.arena.nodes).none_beyond q (omega (arith, l, e)))

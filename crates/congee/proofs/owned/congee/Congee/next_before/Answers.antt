use Rattle.std.proofs.Common.{rules, ◌≡◌, ◌≤◌, ◌<◌, ◌+◌, ◌-◌, ℕ, subst, arith}
use Rattle.congee.specs.owned.Nearest.{IsGreatest}
use Rattle.congee.specs.owned.Table.{pairs_of}
use Rattle.congee.proofs.lemmas.owned.Nearests.{greatest_as}
use Rattle.congee.proofs.owned.congee.Congee.next_before.Goals as goal

pub returns-in-Some-clause-exact : goal.returns-in-Some-clause-exact
returns-in-Some-clause-exact g c =
    let less : c.in-Some.last ≡ c.to_word.result - 1 = search rules in
    let one : 1 ≤ c.to_word.result = search rules in
    let e : c.in-Some.last + 1 ≡ c.to_word.result = omega (arith, less, one) in
    let Q : ℕ → Type 0 = λ n. IsGreatest (pairs_of c.self.inside.arena.nodes) n c.last_to.result in
    λ key value. rw (← c.self.view_is, ← c.to_word.ensures.number) (greatest_as g.K.Word64.word g.K.Word64.of_word g.V.Word64.word g.V.Word64.of_word key value _ _ c.pair_of.result (c.last_to.result, c.pair_of.ensures, subst Q e c.last_to.ensures))

pub returns-in-None-clause-exact : goal.returns-in-None-clause-exact
returns-in-None-clause-exact g c =
    let e : c.to_word.result < 1 = search rules in
    λ key value. rw (← c.self.view_is, ← c.to_word.ensures.number) (λ q l. absurd (omega (arith, l, e)))

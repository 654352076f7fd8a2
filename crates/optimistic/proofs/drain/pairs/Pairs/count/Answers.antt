use Rattle.std.proofs.Common.{◌≡◌, ℕ, ◌+◌, ◌^◌, ◌<◌, ◌≤◌, arith, ap, sym, subst, Option, unwrap_or, IfSome}
use Rattle.optimistic.specs.declared.drain.nexts.Pair.{Pair}
use Rattle.optimistic.specs.tree.Nexts.{IsFirst}
use Rattle.optimistic.specs.tree.Drained.{rest}
use Rattle.optimistic.proofs.lemmas.drain.Numbers.{IsNumberTo, number_none, number_more, number_end, number_all}
use Rattle.optimistic.proofs.drain.pairs.Pairs.count.Goals as goal

pub loop-from-init : goal.loop-from-init
loop-from-init c = (omega arith, number_none c.args.self.now)

pub loop-from-preserved-in-Ok-Some : goal.loop-from-preserved-in-Ok-Some
loop-from-preserved-in-Ok-Some c =
    let self = c.args.self.now in
    let pair = c.in-Ok-Some.pair in
    let to = c.in-Some.key in
    let here : unwrap_or c.loop-from.from (2 ^ 64) ≡ to = ap (λ (o : Option ℕ). unwrap_or o (2 ^ 64)) c.in-Some.is in
    let order : rest self ≤ to = subst (λ (z : ℕ). rest self ≤ z) here c.loop-from.invariant.0 in
    let later : to ≤ pair.key = subst (λ (o : Option Pair). IfSome o (λ p. to ≤ p.key)) c.in-Ok-Some.field-0-is c.in-Ok-Some.ensures.later in
    let behind : unwrap_or c.key_after-from.result (2 ^ 64) ≡ pair.key + 1 = c.key_after-from.ensures in
    let so_far = subst (λ (z : ℕ). IsNumberTo self z c.loop-from.count) here c.loop-from.invariant.1 in
    let m : ℕ = c.saturating_add-count.result in
    let more = number_more self to c.loop-from.count m pair order so_far (λ log has. subst (λ (o : Option Pair). IsFirst log to o) c.in-Ok-Some.field-0-is (c.in-Ok-Some.ensures.first has.0 has.1 log has.2)) c.saturating_add-count.ensures in
    (omega (arith, order, later, behind), subst (λ (z : ℕ). IsNumberTo self z m) (sym behind) more)

pub loop-from-preserved : goal.loop-from-preserved
loop-from-preserved c =
    let self = c.args.self.now in
    let to = c.in-Some.key in
    let here : unwrap_or c.loop-from.from (2 ^ 64) ≡ to = ap (λ (o : Option ℕ). unwrap_or o (2 ^ 64)) c.in-Some.is in
    let order : rest self ≤ to = subst (λ (z : ℕ). rest self ≤ z) here c.loop-from.invariant.0 in
    let small : to < 2 ^ 64 = omega arith in
    let so_far = subst (λ (z : ℕ). IsNumberTo self z c.loop-from.count) here c.loop-from.invariant.1 in
    (omega (arith, order, small), number_end self to c.loop-from.count (omega (arith, small)) so_far (λ log has. subst (λ (o : Option Pair). IsFirst log to o) c.in-Ok-None.field-0-is (c.in-Ok-None.ensures.first has.0 has.1 log has.2)))

pub returns-clause-pairs : goal.returns-clause-pairs
returns-clause-pairs c log has =
    let all = subst (λ (o : Option ℕ). IsNumberTo c.args.self.now (unwrap_or o (2 ^ 64)) c.loop-from.count) c.in_default.is c.loop-from.invariant.1 in
    (all.0, all.1 log has, all.2)

pub returns-clause-all : goal.returns-clause-all
returns-clause-all c seen made by closed =
    number_all c.args.self.now c.loop-from.count seen made by (subst (λ (o : Option ℕ). IsNumberTo c.args.self.now (unwrap_or o (2 ^ 64)) c.loop-from.count) c.in_default.is c.loop-from.invariant.1) closed

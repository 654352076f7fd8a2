use Rattle.std.proofs.Common.{◌≡◌, ℕ, ◌+◌, ◌^◌, ◌<◌, ◌≤◌, arith, ap, sym, subst, Option, unwrap_or, IfSome}
use Rattle.std.specs.Fn.{Called}
use Rattle.optimistic.specs.declared.drain.nexts.Pair.{Pair}
use Rattle.optimistic.specs.tree.Nexts.{IsFirst}
use Rattle.optimistic.specs.tree.Drained.{rest, Gave}
use Rattle.optimistic.proofs.lemmas.drain.Gives.{gave_none, gave_more, gave_end, gave_all}
use Rattle.optimistic.proofs.drain.pairs.Pairs.for_each.Goals as goal

pub loop-from-init : goal.loop-from-init
loop-from-init g c = (omega arith, c.requires, gave_none (λ d k v e. Called g.F.FnMut d (k, (v, tt)) tt e) c.args.self.now c.args.f.now)

pub loop-from-preserved-in-Ok-Some : goal.loop-from-preserved-in-Ok-Some
loop-from-preserved-in-Ok-Some g c =
    let step = λ (d : g.row.F.Denot) (k v : ℕ) (e : g.row.F.Denot). Called g.F.FnMut d (k, (v, tt)) tt e in
    let self = c.args.self.now in
    let pair = c.in-Ok-Some.pair in
    let to = c.in-Some.key in
    let f = c.args.f.now in
    let here : unwrap_or c.loop-from.from (2 ^ 64) ≡ to = ap (λ (o : Option ℕ). unwrap_or o (2 ^ 64)) c.in-Some.is in
    let order : rest self ≤ to = subst (λ (z : ℕ). rest self ≤ z) here c.loop-from.invariant.0 in
    let later : to ≤ pair.key = subst (λ (o : Option Pair). IfSome o (λ p. to ≤ p.key)) c.in-Ok-Some.field-0-is c.in-Ok-Some.ensures.later in
    let behind : unwrap_or c.key_after-from.result (2 ^ 64) ≡ pair.key + 1 = c.key_after-from.ensures in
    let gave = subst (λ (z : ℕ). Gave step self z f c.loop-from.f) here c.loop-from.invariant.2 in
    let more = gave_more step self to pair f c.loop-from.f c.tell.new.f order gave (λ log has. subst (λ (o : Option Pair). IsFirst log to o) c.in-Ok-Some.field-0-is (c.in-Ok-Some.ensures.first has.0 has.1 log has.2)) c.tell.ensures.told in
    (omega (arith, order, later, behind), c.tell.ensures.callable, subst (λ (z : ℕ). Gave step self z f c.tell.new.f) (sym behind) more)

pub loop-from-preserved : goal.loop-from-preserved
loop-from-preserved g c =
    let step = λ (d : g.row.F.Denot) (k v : ℕ) (e : g.row.F.Denot). Called g.F.FnMut d (k, (v, tt)) tt e in
    let self = c.args.self.now in
    let to = c.in-Some.key in
    let f = c.args.f.now in
    let here : unwrap_or c.loop-from.from (2 ^ 64) ≡ to = ap (λ (o : Option ℕ). unwrap_or o (2 ^ 64)) c.in-Some.is in
    let order : rest self ≤ to = subst (λ (z : ℕ). rest self ≤ z) here c.loop-from.invariant.0 in
    let small : to < 2 ^ 64 = omega arith in
    let gave = subst (λ (z : ℕ). Gave step self z f c.loop-from.f) here c.loop-from.invariant.2 in
    (omega (arith, order, small), c.loop-from.invariant.1, gave_end step self to f c.loop-from.f (omega (arith, small)) gave (λ log has. subst (λ (o : Option Pair). IsFirst log to o) c.in-Ok-None.field-0-is (c.in-Ok-None.ensures.first has.0 has.1 log has.2)))

pub returns-clause-gave : goal.returns-clause-gave
returns-clause-gave g c =
    let step = λ (d : g.row.F.Denot) (k v : ℕ) (e : g.row.F.Denot). Called g.F.FnMut d (k, (v, tt)) tt e in
    subst (λ (o : Option ℕ). Gave step c.args.self.now (unwrap_or o (2 ^ 64)) c.args.f.now c.loop-from.f) c.in_default.is c.loop-from.invariant.2

pub returns-clause-all : goal.returns-clause-all
returns-clause-all g c seen made by closed =
    let step = λ (d : g.row.F.Denot) (k v : ℕ) (e : g.row.F.Denot). Called g.F.FnMut d (k, (v, tt)) tt e in
    gave_all step c.args.self.now c.args.f.now c.loop-from.f seen made by closed (returns-clause-gave g c)

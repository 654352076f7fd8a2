use Rattle.std.proofs.Common.{◌≡◌, ℕ, ◌+◌, ◌^◌, ◌<◌, ◌≤◌, List, [], ◌∷◌, ◌++◌, arith, ap, sym, ◌∙◌, subst, Option, unwrap_or, IfSome, Bool, if◌then◌else◌}
use mathlib.Core.Bool.{not}
use Rattle.optimistic.specs.declared.drain.nexts.Pair.{Pair}
use Rattle.optimistic.specs.tree.Nexts.{IsFirst}
use Rattle.optimistic.specs.tree.Drained.{rest, IsDrained}
use Rattle.optimistic.proofs.lemmas.drain.Lists.{drained_end, drained_more}
use Rattle.optimistic.proofs.drain.pairs.Pairs.drain.Goals as goal

pub loop-from-preserved-in-Some-first : goal.loop-from-preserved-in-Some-first
loop-from-preserved-in-Some-first c =
    let self = c.args.self.now in
    let pair = c.in-Some-first.pair in
    let to = c.in-Some.key in
    let here : unwrap_or c.loop-from.from (2 ^ 64) ≡ to = ap (λ (o : Option ℕ). unwrap_or o (2 ^ 64)) c.in-Some.is in
    let order : rest self ≤ to = subst (λ (z : ℕ). rest self ≤ z) here c.loop-from.invariant.0 in
    let later : to ≤ pair.key = subst (λ (o : Option Pair). IfSome o (λ p. to ≤ p.key)) c.in-Some-first.is c.in-Ok.ensures.later in
    let behind : unwrap_or c.key_after-from.result (2 ^ 64) ≡ pair.key + 1 = c.key_after-from.ensures in
    let items : c.push.new.self.items ≡ c.loop-from.pairs.items ++ pair ∷ [] =
    c.push.ensures.items ∙ ap (λ (b : Bool). if b then c.loop-from.pairs.items ++ pair ∷ [] else c.loop-from.pairs.items) (c.is_err.ensures.negation ∙ ap not c.if-is_err.false) in (
      omega arith,
      λ log has.
          let first = subst (λ (o : Option Pair). IsFirst log to o) c.in-Some-first.is (c.in-Ok.ensures.first has.0 has.1 log has.2) in
          let old = subst (λ (z : ℕ). IsDrained log (rest self) z c.loop-from.pairs.items) here (c.loop-from.invariant.1 log has) in
          subst (λ (z : ℕ × List Pair). IsDrained log (rest self) z.0 z.1) (λ i. (sym behind i, sym items i)) (drained_more log (rest self) to c.loop-from.pairs.items old pair order first),
    )

pub loop-from-preserved : goal.loop-from-preserved
loop-from-preserved c =
    let self = c.args.self.now in
    let here : unwrap_or c.loop-from.from (2 ^ 64) ≡ c.in-Some.key = ap (λ (o : Option ℕ). unwrap_or o (2 ^ 64)) c.in-Some.is in
    let small : c.in-Some.key < 2 ^ 64 = omega arith in
    let order = c.loop-from.invariant.0 in (
      omega arith,
      λ log has.
          let first = subst (λ (o : Option Pair). IsFirst log c.in-Some.key o) c.in-None.is (c.in-Ok.ensures.first has.0 has.1 log has.2) in
          drained_end log (rest self) c.in-Some.key c.loop-from.pairs.items (subst (λ (z : ℕ). IsDrained log (rest self) z c.loop-from.pairs.items) here (c.loop-from.invariant.1 log has)) (omega arith) first,
    )

pub returns-clause-pairs : goal.returns-clause-pairs
returns-clause-pairs c log has = (has, subst (λ (o : Option ℕ). IsDrained log (rest c.args.self.now) (unwrap_or o (2 ^ 64)) c.loop-from.pairs.items) c.in_default.is (c.loop-from.invariant.1 log has))

pub returns-clause-all : goal.returns-clause-all
returns-clause-all c seen made by closed = record {
  log = closed.log;
  told = subst (λ (z : ℕ). IsDrained closed.log z (2 ^ 64) c.loop-from.pairs.items) closed.all (returns-clause-pairs c closed.log closed.has).1;
  comes = closed.comes;
}

use Rattle.std.proofs.Common.{◌≡◌, ℕ, ◌+◌, ◌<◌, ◌^◌, Option, Some, unwrap_or, ap, sym, refl, subst, arith}
use Rattle.optimistic.specs.declared.drain.nexts.Pair.{Pair}
use Rattle.optimistic.specs.tree.Nexts.{HasNone}
use Rattle.optimistic.specs.face.Scans.{Once, FirstFrom}
use Rattle.optimistic.specs.face.Walks.{ahead}
use Rattle.optimistic.proofs.lemmas.face.Knowing.{saw_refl}
use Rattle.optimistic.proofs.lemmas.face.Scanning.{walk_ended, walk_none, walk_past}
use Rattle.optimistic.proofs.face.worker.Worker.step.Goals as goal

pub returns-in_default : goal.returns-in_default
returns-in_default g c =
    let last : ℕ = c.args.walk.now.last in
    let v = c.args.self.now in
    let small : last < 2 ^ 64 = omega arith in
    let ended : ahead c.args.walk.now ≡ 2 ^ 64 = ap (λ (o : Option ℕ). unwrap_or o (2 ^ 64)) c.in_default.is in
    (saw_refl v, subst (λ (z : ℕ). Once (λ log. HasNone log z (last + 1)) v v) (sym ended) (walk_ended last v small), ended, refl)

pub returns-in_default-at_or_after : goal.returns-in_default-at_or_after
returns-in_default-at_or_after g c =
    let from : ℕ = c.in-Some.from in
    let last : ℕ = c.args.walk.now.last in
    let v = c.args.self.now in
    let w = c.at_or_after.new.self in
    let small : last < 2 ^ 64 = omega arith in
    let here : ahead c.args.walk.now ≡ from = ap (λ (o : Option ℕ). unwrap_or o (2 ^ 64)) c.in-Some.is in
    let first = subst (λ (o : Option Pair). FirstFrom from o v w) c.in_default-at_or_after.is c.at_or_after.ensures in
    (first.0.0, subst (λ (z : ℕ). Once (λ log. HasNone log z (last + 1)) v w) (sym here) (walk_none from last v w small first), refl, refl)

pub returns-then-pair-last : goal.returns-then-pair-last
returns-then-pair-last g c =
    let from : ℕ = c.in-Some.from in
    let last : ℕ = c.args.walk.now.last in
    let p = c.in-Some-at_or_after.pair in
    let v = c.args.self.now in
    let w = c.at_or_after.new.self in
    let here : ahead c.args.walk.now ≡ from = ap (λ (o : Option ℕ). unwrap_or o (2 ^ 64)) c.in-Some.is in
    let first = subst (λ (o : Option Pair). FirstFrom from o v w) c.in-Some-at_or_after.is c.at_or_after.ensures in
    (first.0.0, subst (λ (z : ℕ). Once (λ log. HasNone log z (last + 1)) v w) (sym here) (walk_past from last p v w c.if-pair-last.true first), refl, refl)

pub returns : goal.returns
returns g c =
    let from : ℕ = c.in-Some.from in
    let p = c.in-Some-at_or_after.pair in
    let v = c.args.self.now in
    let w = c.at_or_after.new.self in
    let below = c.if-pair-last.false in
    let here : ahead c.args.walk.now ≡ from = ap (λ (o : Option ℕ). unwrap_or o (2 ^ 64)) c.in-Some.is in
    let first = subst (λ (o : Option Pair). FirstFrom from o v w) c.in-Some-at_or_after.is c.at_or_after.ensures in
    (subst (λ (z : ℕ). FirstFrom z (Some p) v w) (sym here) first, omega (arith, below), c.key_after-walk.ensures, refl)

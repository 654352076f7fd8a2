use Rattle.std.proofs.Common.{◌≡◌, ℕ, ◌+◌, Option, Some, ap, sym, refl, subst, arith}
use Rattle.optimistic.specs.declared.drain.nexts.Pair.{Pair}
use Rattle.optimistic.specs.tree.Nexts.{HasNone}
use Rattle.optimistic.specs.face.Scans.{Once, LastBelow}
use Rattle.optimistic.specs.face.WalksBack.{below, below_next}
use Rattle.optimistic.proofs.lemmas.face.Knowing.{saw_refl}
use Rattle.optimistic.proofs.lemmas.face.ScanningBack.{walk_back_ended, walk_back_none, walk_back_past}
use Rattle.optimistic.proofs.face.worker.Worker.step_back.Goals as goal

pub returns-in_default : goal.returns-in_default
returns-in_default g c =
    let first : ℕ = c.args.walk.now.first in
    let v = c.args.self.now in
    let ended : below c.args.walk.now ≡ 0 = ap below_next c.in_default.is in
    (saw_refl v, subst (λ (z : ℕ). Once (λ log. HasNone log first z) v v) (sym ended) (walk_back_ended first v), ended, refl)

pub returns-in_default-at_or_before : goal.returns-in_default-at_or_before
returns-in_default-at_or_before g c =
    let from : ℕ = c.in-Some.from in
    let first : ℕ = c.args.walk.now.first in
    let v = c.args.self.now in
    let w = c.at_or_before.new.self in
    let here : below c.args.walk.now ≡ from + 1 = ap below_next c.in-Some.is in
    let last = subst (λ (o : Option Pair). LastBelow (from + 1) o v w) c.in_default-at_or_before.is c.at_or_before.ensures in
    (last.0.0, subst (λ (z : ℕ). Once (λ log. HasNone log first z) v w) (sym here) (walk_back_none first (from + 1) v w last), refl, refl)

pub returns-then-pair-first : goal.returns-then-pair-first
returns-then-pair-first g c =
    let from : ℕ = c.in-Some.from in
    let first : ℕ = c.args.walk.now.first in
    let p = c.in-Some-at_or_before.pair in
    let v = c.args.self.now in
    let w = c.at_or_before.new.self in
    let here : below c.args.walk.now ≡ from + 1 = ap below_next c.in-Some.is in
    let last = subst (λ (o : Option Pair). LastBelow (from + 1) o v w) c.in-Some-at_or_before.is c.at_or_before.ensures in
    (last.0.0, subst (λ (z : ℕ). Once (λ log. HasNone log first z) v w) (sym here) (walk_back_past first (from + 1) p v w c.if-pair-first.true last), refl, refl)

pub returns : goal.returns
returns g c =
    let from : ℕ = c.in-Some.from in
    let p = c.in-Some-at_or_before.pair in
    let v = c.args.self.now in
    let w = c.at_or_before.new.self in
    let above = c.if-pair-first.false in
    let here : below c.args.walk.now ≡ from + 1 = ap below_next c.in-Some.is in
    let last = subst (λ (o : Option Pair). LastBelow (from + 1) o v w) c.in-Some-at_or_before.is c.at_or_before.ensures in
    (subst (λ (z : ℕ). LastBelow z (Some p) v w) (sym here) last, omega (arith, above), c.key_before-walk.ensures, refl)

use Rattle.std.proofs.Common.{◌∙◌, arith, ap, List, ℕ}
use Rattle.congee.specs.protocol.Scans.{written}
use Rattle.trial.proofs.Filling.{written_within, written_past}
use Rattle.trial.proofs.places.Places.fill.Goals as goal

pub returns-then-place-len : goal.returns-then-place-len
returns-then-place-len c =
    let p : ℕ × ℕ = (c.args.key, c.args.value) in
    let e = written_within c.self.inside.pairs.items c.args.place p (omega (arith, c.len.ensures, c.if-place-len.true)) in
    record { ok = e ∙ ap (λ (l : List (ℕ × ℕ)). written l c.args.place p) c.self.view_is }

pub returns-in_ok-push : goal.returns-in_ok-push
returns-in_ok-push c =
    let p : ℕ × ℕ = (c.args.key, c.args.value) in
    let past = written_past c.self.inside.pairs.items c.args.place p (omega (arith, c.len.ensures, c.if-place-len.false)) in
    record { ok = c.in_ok-push.ensures.items ∙ past ∙ ap (λ (l : List (ℕ × ℕ)). written l c.args.place p) c.self.view_is }

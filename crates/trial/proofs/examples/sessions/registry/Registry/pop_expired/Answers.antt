use Rattle.std.proofs.Common.{◌≡◌, ℕ, Option, None, Some, IfNone, ap, sym}
use Rattle.std.specs.FinMap as map
use Rattle.trial.specs.Sessions.{unexpired}
use Rattle.trial.proofs.Turning.{due_fewer, due_gone, due_there, first_of, none_due, not_due, taken_by}
use Rattle.trial.proofs.examples.sessions.registry.Registry.pop_expired.Goals as goal

if_none : {A : Type 0} (P : Type 0) (o : Option A) → P → IfNone o P
if_none P None p = p
if_none P (Some x) p = tt

pub returns-in_err-expiry-clause-none : goal.returns-in_err-expiry-clause-none
returns-in_err-expiry-clause-none c =
    let f = c.in_err-expiry.ensures.found in
    if_none ((q : ℕ) → map.get c.args.self.now q ≡ unexpired c.args.now (map.get c.args.self.now q)) c.from_residual.result
    (none_due c.self.inside.expiries.pairs c.self.inside.by_expiry.pairs c.args.self.now c.args.now f.0 c.self.invariant c.self.view_is f.1 f.2)

pub returns-then-now-expiry-clause-none : goal.returns-then-now-expiry-clause-none
returns-then-now-expiry-clause-none c =
    let f = c.in_ok-expiry.ensures.found in
    let first = first_of c.self.inside.by_expiry.pairs f.0 c.in_ok-expiry.expiry c.in_ok-expiry.session c.in_ok-expiry.field-0-1 f.1 f.2 in
    not_due c.self.inside.expiries.pairs c.self.inside.by_expiry.pairs c.args.self.now c.args.now c.in_ok-expiry.expiry c.in_ok-expiry.session first.1.0 c.self.invariant c.self.view_is first.1.1 c.if-now-expiry.true

pub invariant_of-self : goal.invariant_of-self
invariant_of-self c =
    let f = c.in_ok-expiry.ensures.found in
    let first = first_of c.self.inside.by_expiry.pairs f.0 c.in_ok-expiry.expiry c.in_ok-expiry.session c.in_ok-expiry.field-0-1 f.1 f.2 in
    let at = due_there c.self.inside.expiries.pairs c.self.inside.by_expiry.pairs c.in_ok-expiry.expiry c.in_ok-expiry.session first.1.0 c.self.invariant first.0 first.1.1 in
    taken_by _ _ _ _ c.in_ok-expiry.session c.in_ok-expiry.expiry c.self.invariant at (sym (ap (λ p. p.1) c.remove-2.ensures.removes.2.answers)) (sym (ap (λ p. p.1) c.remove.ensures.removes.2.answers))

pub returns-clause-due : goal.returns-clause-due
returns-clause-due c =
    let f = c.in_ok-expiry.ensures.found in
    let first = first_of c.self.inside.by_expiry.pairs f.0 c.in_ok-expiry.expiry c.in_ok-expiry.session c.in_ok-expiry.field-0-1 f.1 f.2 in
    let at = due_there c.self.inside.expiries.pairs c.self.inside.by_expiry.pairs c.in_ok-expiry.expiry c.in_ok-expiry.session first.1.0 c.self.invariant first.0 first.1.1 in
    due_gone c.self.inside.expiries.pairs c.args.self.now c.remove-2.new.self.pairs c.args.now c.in_ok-expiry.session c.in_ok-expiry.expiry c.self.view_is at c.if-now-expiry.false (sym (ap (λ p. p.1) c.remove-2.ensures.removes.2.answers))

pub returns-clause-fewer : goal.returns-clause-fewer
returns-clause-fewer c =
    let f = c.in_ok-expiry.ensures.found in
    let first = first_of c.self.inside.by_expiry.pairs f.0 c.in_ok-expiry.expiry c.in_ok-expiry.session c.in_ok-expiry.field-0-1 f.1 f.2 in
    let at = due_there c.self.inside.expiries.pairs c.self.inside.by_expiry.pairs c.in_ok-expiry.expiry c.in_ok-expiry.session first.1.0 c.self.invariant first.0 first.1.1 in
    due_fewer c.self.inside.expiries.pairs c.args.self.now c.remove-2.new.self.pairs c.in_ok-expiry.session c.in_ok-expiry.expiry c.self.view_is at (sym (ap (λ p. p.1) c.remove-2.ensures.removes.2.answers))

use Rattle.std.proofs.Common.{◌≡◌, ◌≢◌, ◌∙◌, Some, ap, sym, arith, rules}
use Rattle.std.proofs.lemmas.Bool.Decides.{nat_tests}
use Rattle.std.specs.FinMap as map
use Rattle.judge.proofs.Laws.{set_at-standing}
use Rattle.trial.proofs.Turning.{moved_by, put_by, undone_by}
use Rattle.trial.proofs.examples.sessions.registry.Registry.register.Goals as goal

pub returns-then-eq-clause-registered : goal.returns-then-eq-clause-registered
returns-then-eq-clause-registered c =
    let same : c.look_up-before.result ≡ Some c.args.expiry = search rules in
    sym (set_at-standing c.args.self.now c.args.session (Some c.args.expiry) (sym c.look_up-before.ensures ∙ same))

pub invariant_of-self-in-Err : goal.invariant_of-self-in-Err
invariant_of-self-in-Err c =
    undone_by _ _ _ _ _ c.args.session c.args.expiry c.self.invariant (omega (arith, c.ranges.session.fits)) c.in-Err.ensures.refused.absent c.in-Err.ensures.refused.unchanged.pairs
    (sym (ap (λ p. p.1) c.in_ok-insert.ensures.inserts.2.answers)) (sym (ap (λ p. p.1) c.remove.ensures.removes.2.answers))

pub invariant_of-self-in-Some : goal.invariant_of-self-in-Some
invariant_of-self-in-Some c =
    let other : c.in-Some.old ≢ c.args.expiry = grind (arith, nat_tests, c.in-Some.is, c.if-eq.ensures) in
    moved_by _ _ _ _ _ c.args.session c.in-Some.old c.args.expiry c.self.invariant (omega (arith, c.ranges.session.fits)) (omega (arith, c.ranges.expiry.fits))
    (ap (λ x. map.get x c.args.session) c.self.view_is ∙ sym c.look_up-before.ensures ∙ c.in-Some.is) other
    (sym (ap (λ p. p.1) c.in_default.ensures.inserts.2.answers)) (sym (ap (λ p. p.1) c.in_ok-insert.ensures.inserts.2.answers)) (sym (ap (λ p. p.1) c.remove-in-Some.ensures.removes.2.answers))

pub invariant_of-self-in_default-before : goal.invariant_of-self-in_default-before
invariant_of-self-in_default-before c =
    put_by _ _ _ _ c.args.session c.args.expiry c.self.invariant (omega (arith, c.ranges.session.fits)) (omega (arith, c.ranges.expiry.fits))
    (ap (λ x. map.get x c.args.session) c.self.view_is ∙ sym c.look_up-before.ensures ∙ c.in_default-before.is)
    (sym (ap (λ p. p.1) c.in_default.ensures.inserts.2.answers)) (sym (ap (λ p. p.1) c.in_ok-insert.ensures.inserts.2.answers))

use Rattle.std.proofs.Common.{ap, arith, refl}
use Rattle.crossbeam_epoch.proofs.lemmas.face.Guards.{with_guards_pinned, pinned_with, where_alone}
use Rattle.crossbeam_epoch.proofs.face.handle.LocalHandle.repin_after.Goals as goal

pub invariant_of-self : goal.invariant_of-self
invariant_of-self g c = let out = c.owns.ensures.out c.if-not-owns.false in let is = ap (λ h. h.guards) c.self.view_is in
    (c.pin-self-inside.ensures.of, c.self.invariant.1, pinned_with c.self.inside.guards _ _ _ _ (omega (arith, out, is)) c.pin-self-inside.ensures.view)

pub returns-clause-epoch : goal.returns-clause-epoch
returns-clause-epoch g c = let out = c.owns.ensures.out c.if-not-owns.false in let is = ap (λ h. h.guards) c.self.view_is in
    where_alone c.args.self.now.guards _ _ (omega (arith, out, is, c.if-self-gt1.false)) (refl, ap (λ v. v.seen) c.pin-self-inside.ensures.view)

pub returns-clause-word : goal.returns-clause-word
returns-clause-word g c = let out = c.owns.ensures.out c.if-not-owns.false in let is = ap (λ h. h.guards) c.self.view_is in
    with_guards_pinned c.self.inside.guards _ _ _ _ _ _ (pinned_with c.self.inside.guards _ _ _ _ (omega (arith, out, is)) c.pin-self-inside.ensures.view)

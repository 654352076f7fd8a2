use Rattle.std.proofs.Common.{ap, subst, arith, length, false, ◌≡◌, ◌≤◌, ◌∙◌}
use Rattle.std.specs.Prelude.{nat_le}
use Rattle.crossbeam_epoch.specs.Limits.{bag_places}
use Rattle.crossbeam_epoch.specs.face.Handle.{with_room}
use Rattle.crossbeam_epoch.proofs.lemmas.face.Guards.{on_ok, if_err, not_sealed, full_seals, with_room_unfull, has_no_room}
use Rattle.crossbeam_epoch.proofs.face.handle.LocalHandle.make_room.Goals as goal

pub returns-then-not-is_full-clause-bag : goal.returns-then-not-is_full-clause-bag
returns-then-not-is_full-clause-bag g c = let is = ap (λ h. h.bag) c.self.view_is in subst (λ b. b ≡ with_room b) is (with_room_unfull c.self.inside.bag _ c.is_full.ensures.value c.is_full.ensures.fits c.if-not-is_full.true).0

pub returns-then-not-is_full-clause-sealed : goal.returns-then-not-is_full-clause-sealed
returns-then-not-is_full-clause-sealed g c out = let is = ap (λ h. h.bag) c.self.view_is in
    not_sealed _ _ _ _ (subst (λ b. nat_le bag_places (length b) ≡ false) is (with_room_unfull c.self.inside.bag _ c.is_full.ensures.value c.is_full.ensures.fits c.if-not-is_full.true).1)

pub returns-clause-ok : goal.returns-clause-ok
returns-clause-ok g c = on_ok c.seal.result (λ p. p.1) c.seal.ensures.ok

pub returns-clause-bag : goal.returns-clause-bag
returns-clause-bag g c = let is = ap (λ h. h.bag) c.self.view_is in let t = has_no_room c.self.inside.bag _ c.is_full.ensures.value c.if-not-is_full.false in on_ok c.seal.result (λ p. p.0 ∙ (t.1 ∙ ap with_room is)) c.seal.ensures.ok

pub returns-clause-sealed : goal.returns-clause-sealed
returns-clause-sealed g c = let is = ap (λ h. h.bag) c.self.view_is in let t = has_no_room c.self.inside.bag _ c.is_full.ensures.value c.if-not-is_full.false in
    on_ok c.seal.result (λ s out. full_seals _ _ _ _ _ _ (omega arith) (subst (λ b. bag_places ≤ length b) is t.0) (s out)) c.seal.ensures.sealed

pub returns-clause-err : goal.returns-clause-err
returns-clause-err g c = let is = ap (λ h. h.bag) c.self.view_is in let t = has_no_room c.self.inside.bag _ c.is_full.ensures.value c.if-not-is_full.false in
    if_err c.seal.result (λ e p. (p.0, p.1, subst (λ b. bag_places ≤ length b) is t.0)) c.seal.ensures.err

use Rattle.std.proofs.Common.{ap, arith}
use Rattle.crossbeam_epoch.proofs.lemmas.face.Guards.{with_guards_pinned, looked_with, read_under}
use Rattle.crossbeam_epoch.proofs.face.handle.LocalHandle.look.Goals as goal

pub invariant_of-self : goal.invariant_of-self
invariant_of-self g c = let i = c.self.invariant in (c.look-epoch.ensures.of, i.1, looked_with c.self.inside.guards _ _ _ _ _ _ _ _ i.2 c.look-epoch.ensures.view)

pub returns-clause-word : goal.returns-clause-word
returns-clause-word g c = with_guards_pinned c.self.inside.guards _ _ _ _ _ _ (looked_with c.self.inside.guards _ _ _ _ _ _ _ _ c.self.invariant.2 c.look-epoch.ensures.view)

pub returns-clause-read : goal.returns-clause-read
returns-clause-read g c out =
    let t = read_under c.self.inside.guards _ _ _ _ _ _ _ _ _ c.self.invariant.2 c.look-epoch.ensures.read (ap (λ h. h.guards) c.self.view_is) (ap (λ h. h.epoch) c.self.view_is) out in
    let low = t.0 in
    let high = t.1 in
    let same = c.of.ensures in
    (omega (arith, low, same), omega (arith, high, same))

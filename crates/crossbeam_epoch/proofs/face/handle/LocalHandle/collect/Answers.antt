use Rattle.std.proofs.Common.{ap}
use Rattle.crossbeam_epoch.proofs.lemmas.face.Guards.{with_guards_pinned, read_under, scanned_with}
use Rattle.crossbeam_epoch.proofs.face.handle.LocalHandle.collect.Goals as goal

pub invariant_of-self : goal.invariant_of-self
invariant_of-self g c = let i = c.self.invariant in let done = c.collect-self-inside.ensures in (done.of, i.1, scanned_with c.self.inside.guards _ _ _ _ _ _ _ _ _ i.2 done.view)

pub returns-clause-word : goal.returns-clause-word
returns-clause-word g c = with_guards_pinned c.self.inside.guards _ _ _ _ _ _ (scanned_with c.self.inside.guards _ _ _ _ _ _ _ _ _ c.self.invariant.2 c.collect-self-inside.ensures.view)

pub returns-clause-saw : goal.returns-clause-saw
returns-clause-saw g c = read_under c.self.inside.guards _ _ _ _ _ _ _ _ _ c.self.invariant.2 c.collect-self-inside.ensures.read (ap (λ h. h.guards) c.self.view_is) (ap (λ h. h.epoch) c.self.view_is)

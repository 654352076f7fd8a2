use Rattle.std.proofs.Common.{sym, ◌∙◌, ◌+◌}
use Rattle.crossbeam_epoch.proofs.lemmas.face.Guards.{more_guards, with_guards_pinned, owns_own}
use Rattle.crossbeam_epoch.proofs.face.handle.LocalHandle.pin.Goals as goal

pub invariant_of-self-2 : goal.invariant_of-self-2
invariant_of-self-2 g c = let i = c.self.invariant in (i.0, i.1, i.2 ∙ sym (more_guards c.self.inside.guards _ _ _ _ _ (λ e. c.if-self-eq0.false e)))

pub returns-clause-guard : goal.returns-clause-guard
returns-clause-guard g c = (owns_own c.self.inside.guards _ _ c.new-2.ensures.1, c.new-2.ensures.2)

pub returns-clause-word : goal.returns-clause-word
returns-clause-word g c = let i = c.self.invariant in with_guards_pinned (c.self.inside.guards + 1) _ _ _ _ _ _ (i.2 ∙ sym (more_guards c.self.inside.guards _ _ _ _ _ (λ e. c.if-self-eq0.false e)))

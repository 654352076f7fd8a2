use Rattle.std.proofs.lemmas.Option.{slice_get-get_or}
use Rattle.congee.proofs.lemmas.protocol.ManyCalls.{may_step, step_plays, idled}
use Rattle.congee.proofs.protocol.run.step_of.Goals as goal

pub next-requires-clause-may : goal.next-requires-clause-may
next-requires-clause-may g c = may_step _ _ _ _ _ _ _ c.requires.protocol (slice_get-get_or _ _ _ c.if-who-machines.true)

pub returns-then-who-machines-clause-plays : goal.returns-then-who-machines-clause-plays
returns-then-who-machines-clause-plays g c = step_plays _ _ _ _ _ _ _ _ _ _ _ _ c.requires.protocol (slice_get-get_or _ _ _ c.if-who-machines.true) c.next.ensures.step c.next.ensures.keeps c.next.ensures.origin

pub returns-else-who-machines-clause-plays : goal.returns-else-who-machines-clause-plays
returns-else-who-machines-clause-plays g c = idled _ _ _ _ _ _ _ _ c.requires.protocol c.if-who-machines.false

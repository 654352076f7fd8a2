use Rattle.std.proofs.Common.{arith, length, sym, ◌∙◌, ap}
use Rattle.joint.specs.threads.Journals.{count_watched}
use Rattle.joint.proofs.lemmas.threads.Watching.{journaled}
use Rattle.joint.proofs.threads.journaled_world.JournaledWorldLockedU64.close.Goals as goal

pub of-requires-clause-few : goal.of-requires-clause-few
of-requires-clause-few g c =
    let kept = c.args.self in
    let state = journaled kept.world c.sound.ensures.holds (kept.some, kept.few) in
    let same = ap (λ es. length es) c.in-Ok.ensures.journal in
    omega (arith, state.long, kept.few, same)

pub of-requires-clause-counted : goal.of-requires-clause-counted
of-requires-clause-counted g c = c.args.self.counted ∙ sym (ap (λ es. count_watched g.W.Watch.watched es) c.in-Ok.ensures.journal)

pub returns-in-Ok-clause-kept : goal.returns-in-Ok-clause-kept
returns-in-Ok-clause-kept g c = (ap (λ v. v.items) c.of.ensures ∙ c.in-Ok.ensures.journal, (c.args.self.some, c.args.self.few))

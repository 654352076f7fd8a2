use Rattle.std.proofs.Common.{arith, refl}
use Rattle.joint.proofs.lemmas.threads.Watching.{gathers_of, gathers_some, journaled}
use Rattle.joint.proofs.threads.journaled_world.JournaledWorld.gather.Goals as goal

pub returns-clause-exact : goal.returns-clause-exact
returns-clause-exact g c =
    let kept = c.args.self.now in
    let state = journaled kept.world c.sound.ensures.holds (kept.some, kept.few) in
    gathers_of g.W.Watch.watched g.L.Ledger.parts kept.book.total kept.world.log.entries c.args.share.now c.gather.result c.gather.ensures.gathers kept.counted (omega (arith, state.long, kept.few))

pub returns-clause-gathers : goal.returns-clause-gathers
returns-clause-gathers g c =
    let kept = c.args.self.now in
    let state = journaled kept.world c.sound.ensures.holds (kept.some, kept.few) in
    gathers_some g.W.Watch.watched g.L.Ledger.parts kept.world.log.entries c.args.share.now c.gather.result (kept.world, state, refl) (returns-clause-exact g c)

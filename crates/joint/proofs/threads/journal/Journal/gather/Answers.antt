use Rattle.joint.proofs.lemmas.threads.Watching.{gathers_of}
use Rattle.joint.proofs.threads.journal.Journal.gather.Goals as goal

pub returns-clause-gathers : goal.returns-clause-gathers
returns-clause-gathers g c =
    let kept = c.args.self.now in
    gathers_of g.W.Watch.watched g.L.Ledger.parts kept.book.total kept.entries.items c.args.share.now c.gather.result c.gather.ensures.gathers kept.counted kept.few

use Rattle.std.proofs.Common.{rules, ◌∙◌, ap}
use Rattle.std.specs.Prelude.{map}
use Rattle.joint.specs.threads.Threads.{bounds, is_held_by, scanned}
use Rattle.joint.proofs.lemmas.threads.WritingEnds.{serves_done}
use Rattle.joint.proofs.threads.tree.Tree.find.Goals as goal

pub returns-clause-answers : goal.returns-clause-answers
returns-clause-answers g c =
    let done = c.scan-told.ensures in
    let keys = map g.Q.Pair.key_of c.scan-told.new.found in
    serves_done (is_held_by c.args.self.now.id c.args.worker.now c.args.guard.now) _ c.scanned.result (search rules)
    (done.0, done.1, c.scanned.ensures.same ∙ (ap (λ r. scanned r keys c.scan-told.result) c.bounds-range.ensures ∙ ap (λ e. scanned (bounds c.args.op) keys e) done.2))

pub returns-clause-ascend : goal.returns-clause-ascend
returns-clause-ascend g c = rw c.bounds-range.ensures at c.scanned.ensures.ascend

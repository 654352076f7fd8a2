use Rattle.std.proofs.Common.{rules, ◌≡◌, ◌∷◌, ◌∙◌, ap, get_or}
use Rattle.joint.proofs.lemmas.threads.Auditing.{blank, other_next, own_next}
use Rattle.joint.proofs.threads.auditing.is_own.Goals as goal
use Rattle.joint.proofs.threads.auditing.is_own.Goals.{then-entry-worker+in-Some+else-not-is_same, else-entry-worker}

pub loop-entry-preserved : goal.loop-entry-preserved
loop-entry-preserved c =
    elim c.if-entry-worker.branch [
      | then-entry-worker+in-Some+else-not-is_same w ↦
          let both = rw w.in-Some.is at w.split_first.ensures.cases in
          let same : w.in-Some.first.now ≡ get_or c.args.journal.now c.loop-entry.entry-index blank = search rules in
          let front : c.loop-entry.rest.now ≡ get_or c.args.journal.now c.loop-entry.entry-index blank ∷ w.in-Some.left.now = both.0 ∙ ap (λ e. e ∷ w.in-Some.left.now) same in
          rw w.rest-is (own_next c.args.worker c.args.journal.now c.loop-entry.entry-index blank c.args.list.now c.loop-entry.rest.now w.in-Some.left.now c.loop-entry-test.true w.if-entry-worker.true front c.loop-entry.invariant)
      | else-entry-worker w ↦ rw w.rest-is (other_next c.args.worker c.args.journal.now c.loop-entry.entry-index blank c.args.list.now c.loop-entry.rest.now c.loop-entry-test.true w.if-entry-worker.false c.loop-entry.invariant)
    ]

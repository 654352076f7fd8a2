use Rattle.std.proofs.Common.{rules, arith, refl, ◌≡◌, ◌<◌, ◌∙◌, sym, Some, length, slice_get}
use Rattle.std.proofs.lemmas.Option.{slice_get_read, slice_get_within}
use Rattle.joint.proofs.lemmas.threads.Auditing.{own_more}
use Rattle.joint.proofs.threads.auditing.are_own.Goals as goal

pub returns-then-not-is_own : goal.returns-then-not-is_own
returns-then-not-is_own c =
    let here : slice_get c.args.own.now c.loop-worker.worker ≡ Some c.index-own-worker.result = slice_get_read c.args.own.now (length c.args.own.now) c.loop-worker.worker c.index-own-worker.result refl c.loop-worker-test.true c.index-own-worker.is in
    (λ is. absurd (cc is), λ own. c.if-not-is_own.ensures.1 (c.as_slice.ensures.value ∙ own c.loop-worker.worker c.index-own-worker.result here))

pub loop-worker-preserved : goal.loop-worker-preserved
loop-worker-preserved c =
    own_more c.args.journal.now c.args.own.now c.loop-worker.worker c.index-own-worker.result
    (slice_get_read c.args.own.now (length c.args.own.now) c.loop-worker.worker c.index-own-worker.result refl c.loop-worker-test.true c.index-own-worker.is)
    (sym c.as_slice.ensures.value ∙ c.if-not-is_own.ensures.0 (search rules)) c.loop-worker.invariant

pub returns : goal.returns
returns c =
    (λ is i list here. let inside : i < length c.args.own.now = slice_get_within c.args.own.now i list here in c.loop-worker.invariant i list (omega arith) here, λ own. search rules)

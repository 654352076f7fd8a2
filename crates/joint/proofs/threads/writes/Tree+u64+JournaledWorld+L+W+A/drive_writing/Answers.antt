use Rattle.std.proofs.Common.{rules, ◌≡◌, [], None, length, refl}
use Rattle.joint.specs.threads.Writing.{unwritten}
use Rattle.joint.proofs.lemmas.threads.WritingTurns.{counts, from_start, none_of}
use Rattle.joint.proofs.threads.writes.Tree+u64+JournaledWorld+L+W+A.drive_writing.Goals as goal

pub returns : goal.returns
returns g c =
    let held = c.drive_to-end.ensures.turns in
    let who = c.args.worker.now.number in
    let watched = g.W.Watch.watched in
    let last = c.drive_to-end.new.turns in
    let short : length c.drive_to-end.new.found ≡ 0 = search rules in
    let turns = from_start watched who c.args.op g.C.Answer.answers (λ k v. (k, v)) (λ h. h.worker) (λ h. h.op) (λ h. h.call) (unwritten c.args.share) held.0 c.new-turns.result c.args.answers.now None [] last c.drive_to-end.new.found [] _
    c.new-turns.ensures.worker c.new-turns.ensures.op c.new-turns.ensures.call (none_of c.drive_to-end.new.found short) held.1 in
    (c.drive_to-end.result, held.0, last.call, turns, rw c.into_share.ensures (counts watched who c.args.op g.C.Answer.answers (λ k v. (k, v)) held.0 c.args.share c.args.answers.now [] last.call [] c.drive_to-end.result turns), refl)

use Rattle.std.proofs.Common.{Err, Ok, refl}
use Rattle.joint.proofs.threads.tree.Tree.pinned.Goals as goal

pub returns-in-Ok-clause-answers : goal.returns-in-Ok-clause-answers
returns-in-Ok-clause-answers g c = (
  Ok c.in_ok-guard.guard,
  c.in_ok-guard.ensures.answers,
  record { answer = c.f-answer.result; called = record { worker = _; shows = refl; guard = _; shows_guard = refl; left = _; answers = c.f-answer.ensures; leaves = refl }; unpinned = Ok tt; unpins = c.in-Ok.ensures; result_is = refl },
)

pub returns-in-Err-clause-answers : goal.returns-in-Err-clause-answers
returns-in-Err-clause-answers g c = (
  Ok c.in_ok-guard.guard,
  c.in_ok-guard.ensures.answers,
  record { answer = c.f-answer.result; called = record { worker = _; shows = refl; guard = _; shows_guard = refl; left = _; answers = c.f-answer.ensures; leaves = refl }; unpinned = Err (c.in-Err.refusal, c.in-Err.guard); unpins = c.in-Err.ensures; result_is = refl },
)

pub returns-in-Ok-clause-worker : goal.returns-in-Ok-clause-worker
returns-in-Ok-clause-worker g c keeps = keeps _ _ _ _ c.f-answer.ensures

pub returns-in-Err-clause-worker : goal.returns-in-Err-clause-worker
returns-in-Err-clause-worker g c keeps = keeps _ _ _ _ c.f-answer.ensures

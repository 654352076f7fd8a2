use Rattle.std.proofs.Common.{◌++◌, ◌∷◌, [], ◌∙◌, ap, replicate, None}
use Rattle.std.proofs.lemmas.List.{replicate_more}
use borrow.Author.Count.{falls}
use native.Mathlib.Nat.{le_antisymm}
use Rattle.joint.proofs.world.log.no_requests.Goals as goal

pub loop-init : goal.loop-init
loop-init g c = c.in_ok-requests.ensures.items

pub loop-preserved : goal.loop-preserved
loop-preserved g c = c.in_ok-push.ensures.items ∙ ap (λ xs. xs ++ None ∷ []) c.loop.invariant ∙ replicate_more c.loop.counter None

pub loop-smaller : goal.loop-smaller
loop-smaller g c = falls c.args.workers c.loop.counter c.loop-test.true

pub returns : goal.returns
returns g c = c.loop.invariant ∙ ap (λ n. replicate n None) (le_antisymm c.loop.auto.counter-end c.loop-test.false)

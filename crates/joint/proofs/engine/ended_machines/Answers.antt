use Rattle.std.proofs.Common.{◌++◌, ◌∷◌, [], ◌∙◌, ap, replicate}
use Rattle.std.proofs.lemmas.List.{replicate_more}
use borrow.Author.Count.{falls}
use native.Mathlib.Nat.{le_antisymm}
use Rattle.joint.specs.engine.Intact.{resting}
use Rattle.joint.proofs.engine.ended_machines.Goals as goal

pub loop-init : goal.loop-init
loop-init g c = c.in_ok-machines.ensures.items

pub loop-preserved : goal.loop-preserved
loop-preserved g c = c.in_ok-push.ensures.items ∙ ap (λ m. c.loop.machines.items ++ m ∷ []) c.resting.ensures ∙ ap (λ xs. xs ++ resting ∷ []) c.loop.invariant ∙ replicate_more c.loop.counter resting

pub loop-smaller : goal.loop-smaller
loop-smaller g c = falls c.args.places c.loop.counter c.loop-test.true

pub returns : goal.returns
returns g c = c.loop.invariant ∙ ap (λ n. replicate n resting) (le_antisymm c.loop.auto.counter-end c.loop-test.false)

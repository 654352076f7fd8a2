use Rattle.std.proofs.Common.{◌++◌, ◌∷◌, [], ◌∙◌, ap, replicate}
use Rattle.std.proofs.lemmas.List.{replicate_more}
use borrow.Author.Count.{falls}
use native.Mathlib.Nat.{le_antisymm}
use Rattle.joint.specs.declared.engine.in_flight.InFlight.TheVariants.{Idle}
use Rattle.joint.proofs.engine.idle_calls.Goals as goal

pub loop-init : goal.loop-init
loop-init g c = c.in_ok-calls.ensures.items

pub loop-preserved : goal.loop-preserved
loop-preserved g c = c.in_ok-push.ensures.items ∙ ap (λ xs. xs ++ Idle ∷ []) c.loop.invariant ∙ replicate_more c.loop.counter Idle

pub loop-smaller : goal.loop-smaller
loop-smaller g c = falls c.args.places c.loop.counter c.loop-test.true

pub returns : goal.returns
returns g c = c.loop.invariant ∙ ap (λ n. replicate n Idle) (le_antisymm c.loop.auto.counter-end c.loop-test.false)

use Rattle.std.proofs.Common.{◌++◌, ◌∷◌, [], ◌∙◌, ap, replicate}
use Rattle.std.proofs.lemmas.List.{replicate_more}
use borrow.Author.Count.{falls}
use native.Mathlib.Nat.{le_antisymm}
use Rattle.crossbeam_epoch.specs.world.Machine.{null}
use Rattle.crossbeam_epoch.proofs.world.nulls.Goals as goal

pub loop-init : goal.loop-init
loop-init c = c.in_ok-all.ensures.items

pub loop-preserved : goal.loop-preserved
loop-preserved c = c.in_ok-push.ensures.items ∙ ap (λ x. c.loop.all.items ++ x ∷ []) c.null.ensures ∙ ap (λ xs. xs ++ null ∷ []) c.loop.invariant ∙ replicate_more c.loop.counter null

pub loop-smaller : goal.loop-smaller
loop-smaller c = falls c.args.roots c.loop.counter c.loop-test.true

pub returns : goal.returns
returns c = c.loop.invariant ∙ ap (λ n. replicate n null) (le_antisymm c.loop.auto.counter-end c.loop-test.false)

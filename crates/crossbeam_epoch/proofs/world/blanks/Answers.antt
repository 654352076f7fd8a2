use Rattle.std.proofs.Common.{◌++◌, ◌∷◌, [], ◌∙◌, ap, replicate}
use Rattle.std.proofs.lemmas.List.{replicate_more}
use borrow.Author.Count.{falls}
use native.Mathlib.Nat.{le_antisymm}
use Rattle.crossbeam_epoch.specs.world.Machine.{blank}
use Rattle.crossbeam_epoch.proofs.world.blanks.Goals as goal

pub loop-init : goal.loop-init
loop-init g c = c.in_ok-table.ensures.items

pub loop-preserved : goal.loop-preserved
loop-preserved g c = c.in_ok-push.ensures.items ∙ ap (λ x. c.loop.table.items ++ x ∷ []) c.blank.ensures ∙ ap (λ xs. xs ++ blank ∷ []) c.loop.invariant ∙ replicate_more c.loop.counter blank

pub loop-smaller : goal.loop-smaller
loop-smaller g c = falls c.args.places c.loop.counter c.loop-test.true

pub returns : goal.returns
returns g c = c.loop.invariant ∙ ap (λ n. replicate n blank) (le_antisymm c.loop.auto.counter-end c.loop-test.false)

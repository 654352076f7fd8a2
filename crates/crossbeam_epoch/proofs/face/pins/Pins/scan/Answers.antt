use Rattle.std.proofs.Common.{rules, arith, ap, ◌<◌}
use Rattle.crossbeam_epoch.proofs.lemmas.face.Pins.{inspects}
use Rattle.crossbeam_epoch.proofs.face.pins.Pins.scan.Goals as goal

pub load-number-requires : goal.load-number-requires
load-number-requires c = let i = c.loop-place.invariant in let inside : c.loop-place.place < c.args.self.now.places = search rules in (
  i.0.0,
  omega (arith, c.word_of.ensures, c.args.self.now.sized, inside),
  rw c.word_of.ensures (inspects _ _ _ _ _ _ (ap (λ v. v.passed) i.1)),
)

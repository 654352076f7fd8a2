use Rattle.std.proofs.Common.{rules, arith, ◌<◌}
use Rattle.crossbeam_epoch.proofs.lemmas.face.Pins.{arrives, counts}
use Rattle.crossbeam_epoch.proofs.face.pins.Pins.registered.Goals as goal

pub load_new_seat-requires : goal.load_new_seat-requires
load_new_seat-requires c = (omega (arith, c.args.self.now.sized), arrives _ _ _)

pub load-requires : goal.load-requires
load-requires c = let inside : c.loop-place.place < c.args.self.now.places = search rules in (
  c.loop-place.invariant.of.0,
  omega (arith, c.word_of.ensures, c.args.self.now.sized, inside),
  rw c.word_of.ensures (counts _ _ _ _ _ _),
)

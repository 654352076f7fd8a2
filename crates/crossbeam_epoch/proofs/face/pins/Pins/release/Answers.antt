use Rattle.std.proofs.Common.{arith}
use Rattle.crossbeam_epoch.proofs.lemmas.face.Pins.{releases}
use Rattle.crossbeam_epoch.proofs.face.pins.Pins.release.Goals as goal

pub store-requires : goal.store-requires
store-requires c = let inside = c.requires.own.0 in (c.requires.of.0, omega (arith, c.word_of.ensures, c.args.self.now.sized, inside), rw c.word_of.ensures (releases _ _ _ _ _ _ c.requires.own.1))

use Rattle.std.proofs.Common.{arith}
use Rattle.crossbeam_epoch.proofs.lemmas.face.Pins.{looks}
use Rattle.crossbeam_epoch.proofs.face.pins.Pins.look.Goals as goal

pub load-requires : goal.load-requires
load-requires c = (c.requires.of.0, omega (arith, c.args.self.now.sized), looks _ _ _ _ _)

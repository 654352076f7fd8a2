use Rattle.std.proofs.Common.{arith, sym}
use Rattle.std.proofs.lemmas.Bool.Decides.{nat_tests}
use Rattle.crossbeam_epoch.proofs.world.World.once.Goals as goal

pub returns : goal.returns
returns g c = record { each = λ h s t f lt. let a = f.once.each t in let b = f.once.tickets t in grind (arith, nat_tests); waiting = λ h s f. sym f.once.count }

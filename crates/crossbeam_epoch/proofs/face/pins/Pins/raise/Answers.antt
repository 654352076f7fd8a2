use Rattle.std.proofs.Common.{arith}
use Rattle.crossbeam_epoch.proofs.lemmas.face.Pins.{advances}
use Rattle.crossbeam_epoch.proofs.face.pins.Pins.raise.Goals as goal

pub compare_exchange-found-requires : goal.compare_exchange-found-requires
compare_exchange-found-requires c = let all = c.requires.all in let below = c.requires.seen.1 in let places = c.args.self.now.places_are in let last = c.args.self.now.last_is in (
  c.requires.of.0,
  omega (arith, c.args.self.now.sized),
  advances _ _ _ _ _ _ c.requires.seen.0 (omega (arith, all, places)) (omega (arith, last, below)),
)

use Rattle.std.proofs.Common.{arith, ap, ◌∙◌}
use Rattle.crossbeam_epoch.proofs.lemmas.face.Pins.{notes}
use Rattle.crossbeam_epoch.proofs.face.pins.Pins.note.Goals as goal

pub split_seat-requires : goal.split_seat-requires
split_seat-requires c = (c.requires.of.0, omega (arith, c.args.self.now.sized), notes _ _ _ _)

pub returns-clause-of : goal.returns-clause-of
returns-clause-of c = let e = c.split_seat.ensures in ((e.0 ∙ c.requires.of.0, ap (λ m. m.1) e.2 ∙ c.requires.of.1), (e.3 ∙ c.requires.of.0, ap (λ m. m.1) e.4))

use Rattle.std.proofs.Common.{arith, ap, ◌∙◌}
use Rattle.crossbeam_epoch.specs.face.Tokens.{known}
use Rattle.crossbeam_epoch.proofs.lemmas.face.Notes.{heeds, read_after}
use Rattle.crossbeam_epoch.proofs.face.pins.Pins.heed.Goals as goal

pub join_seat-requires : goal.join_seat-requires
join_seat-requires c = (c.requires.of.0.0, c.requires.of.1.0, c.requires.of.1.1, omega (arith, c.args.self.now.sized), heeds _ _ _ _ _ _ c.requires.note)

pub look-requires : goal.look-requires
look-requires c = let e = c.join_seat.ensures in record { of = (e.0 ∙ c.requires.of.0.0, ap (λ m. m.1) e.2 ∙ c.requires.of.0.1) }

pub returns-clause-view : goal.returns-clause-view
returns-clause-view c = c.look.ensures.view ∙ (read_after (known c.args.token.now) (known c.args.note) _ _ (ap (λ m. m.0) c.join_seat.ensures.2) c.look.ensures.read).2

pub returns-clause-read : goal.returns-clause-read
returns-clause-read c = (read_after (known c.args.token.now) (known c.args.note) _ _ (ap (λ m. m.0) c.join_seat.ensures.2) c.look.ensures.read).0

pub returns-clause-later : goal.returns-clause-later
returns-clause-later c = (read_after (known c.args.token.now) (known c.args.note) _ _ (ap (λ m. m.0) c.join_seat.ensures.2) c.look.ensures.read).1

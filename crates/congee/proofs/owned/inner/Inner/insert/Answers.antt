use Rattle.std.proofs.Common.{refl, subst}
use Rattle.congee.specs.owned.EntryRoom.{places_fits}
use Rattle.congee.specs.owned.Entries.{Begins, first_byte, node_by}
use Rattle.congee.proofs.lemmas.owned.Entering.{absent_at, inserted, prefix_at, room_at}
use Rattle.congee.proofs.owned.inner.Inner.insert.Goals as goal

pub insert-requires : goal.insert-requires
insert-requires g c = (places_fits g.row.P g.met.P.Small.small, (absent_at c.self.inside.prefix c.self.inside.places c.args.self.now c.self.view_is c.args.byte c.requires.absent, room_at c.self.inside.prefix c.self.inside.places c.args.self.now c.self.view_is c.requires.room))

pub returns : goal.returns
returns g c =
    inserted c.self.inside.prefix c.self.inside.places c.args.self.now c.self.view_is c.insert.new.self (node_by c.self.inside.prefix c.insert.new.self) refl c.args.byte c.entry_of.result c.args.child
    (c.entry_of.ensures c.self.inside.prefix c.args.byte (subst (λ q. Begins (first_byte q c.args.byte) c.args.child) (prefix_at c.self.inside.prefix c.self.inside.places c.args.self.now c.self.view_is) c.requires.begins)) c.insert.ensures

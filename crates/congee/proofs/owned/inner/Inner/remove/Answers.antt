use Rattle.std.proofs.Common.{refl, sym, ap, ◌∙◌}
use Rattle.std.specs.Prelude.{Some}
use Rattle.congee.specs.owned.EntryRoom.{places_fits}
use Rattle.congee.specs.owned.Entries.{first_byte, node_by}
use Rattle.congee.proofs.lemmas.owned.Entering.{prefix_at, present_at, removed, some_at}
use Rattle.congee.proofs.owned.inner.Inner.remove.Goals as goal

pub remove-requires : goal.remove-requires
remove-requires g c = (places_fits g.row.P g.met.P.Small.small, present_at c.self.inside.prefix c.self.inside.places c.args.self.now c.self.view_is c.args.byte c.requires.present)

pub returns-clause-before : goal.returns-clause-before
returns-clause-before g c =
    some_at c.self.inside.prefix c.self.inside.places c.args.self.now c.self.view_is c.args.byte c.remove.result c.remove.ensures.before
    ∙ ap Some (sym (c.child_of.ensures c.self.inside.prefix c.args.byte (sym (c.first_byte-first.ensures ∙ ap (λ q. first_byte q c.args.byte) (prefix_at c.self.inside.prefix c.self.inside.places c.args.self.now c.self.view_is)))))

pub returns-clause-after : goal.returns-clause-after
returns-clause-after g c = removed c.self.inside.prefix c.self.inside.places c.args.self.now c.self.view_is c.remove.new.self (node_by c.self.inside.prefix c.remove.new.self) refl c.args.byte c.remove.ensures.after

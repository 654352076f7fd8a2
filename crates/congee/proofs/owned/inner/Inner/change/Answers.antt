use Rattle.std.proofs.Common.{refl, sym, ap, subst, ◌∙◌}
use Rattle.std.specs.Prelude.{Some}
use Rattle.congee.specs.owned.EntryRoom.{places_fits}
use Rattle.congee.specs.owned.Entries.{Begins, first_byte, node_by}
use Rattle.congee.proofs.lemmas.owned.Entering.{inserted, prefix_at, present_at, some_at}
use Rattle.congee.proofs.owned.inner.Inner.change.Goals as goal

pub change-requires : goal.change-requires
change-requires g c = (places_fits g.row.P g.met.P.Small.small, present_at c.self.inside.prefix c.self.inside.places c.args.self.now c.self.view_is c.args.byte c.requires.present)

pub returns-clause-before : goal.returns-clause-before
returns-clause-before g c =
    some_at c.self.inside.prefix c.self.inside.places c.args.self.now c.self.view_is c.args.byte c.change.result c.change.ensures.before
    ∙ ap Some (sym (c.child_of.ensures c.self.inside.prefix c.args.byte (sym (c.first_byte-first.ensures ∙ ap (λ q. first_byte q c.args.byte) (prefix_at c.self.inside.prefix c.self.inside.places c.args.self.now c.self.view_is)))))

pub returns-clause-after : goal.returns-clause-after
returns-clause-after g c =
    inserted c.self.inside.prefix c.self.inside.places c.args.self.now c.self.view_is c.change.new.self (node_by c.self.inside.prefix c.change.new.self) refl c.args.byte c.entry_of.result c.args.child
    (c.entry_of.ensures c.self.inside.prefix c.args.byte (subst (λ q. Begins (first_byte q c.args.byte) c.args.child) (prefix_at c.self.inside.prefix c.self.inside.places c.args.self.now c.self.view_is) c.requires.begins)) c.change.ensures.after

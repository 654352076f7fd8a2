use Rattle.std.proofs.Common.{rules, ◌≡◌, ◌≤◌, length, sym, ap, ◌∙◌, arith}
use Rattle.std.specs.FinMap as map
use Rattle.congee.proofs.lemmas.forms.SortedLemmas.{len_is, none_held, sorted_beside}
use Rattle.congee.proofs.owned.places.Ranked.move_to.Goals as goal

pub move_children-requires : goal.move_children-requires
move_children-requires g c =
    let none = none_held c.other.inside.bytes c.other.inside.entries.value.list.items c.other.invariant (c.other.view_is ∙ c.requires.empty) in
    let long = len_is c.self.invariant in
    let room : length c.self.inside.bytes ≤ g.row.M = omega (arith, long, ap map.len c.self.view_is, c.requires.room) in
    let same : length c.self.inside.bytes ≡ length c.deref_mut.result.now.list.items = c.self.invariant.same ∙ ap (λ e. length e.list.items) (sym c.deref_mut.ensures.value) in
    (search rules, (omega (arith, g.met.P.Listable-1.fits_list), (search rules, (omega (arith, g.met.P.Listable-2.fits_list), (same, (none.0, (ap (λ e. e.list.items) c.deref_mut-2.ensures.value ∙ none.1, room)))))))

pub invariant_of-self : goal.invariant_of-self
invariant_of-self g c =
    let stays : length c.move_children.new.children.items ≡ length c.self.inside.entries.value.list.items = c.move_children.ensures.stays ∙ ap (λ e. length e.list.items) c.deref_mut.ensures.value in
    sorted_beside c.self.inside.bytes c.self.inside.entries.value.list.items c.move_children.new.children.items c.self.invariant stays

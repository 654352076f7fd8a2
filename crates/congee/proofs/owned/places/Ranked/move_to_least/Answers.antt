use Rattle.std.proofs.Common.{rules, ◌≡◌, ◌≤◌, length, sym, ap, subst, ◌∙◌, arith}
use Rattle.std.specs.FinMap as map
use Rattle.congee.specs.forms.Places.{IsSorted}
use Rattle.congee.proofs.lemmas.forms.SortedLemmas.{len_is, sorted_beside}
use Rattle.congee.proofs.owned.places.Ranked.move_to_least.Goals as goal

pub move_in-requires : goal.move_in-requires
move_in-requires g c =
    let long = len_is c.self.invariant in
    let room : length c.self.inside.bytes ≤ 4 = omega (arith, long, ap map.len c.self.view_is, c.requires.room) in
    (search rules, (search rules, (omega (arith, g.met.P.Listable.fits_list), (subst (λ e. IsSorted c.self.inside.bytes e.list.items) (sym c.deref_mut.ensures.value) c.self.invariant, (c.requires.empty, room)))))

pub invariant_of-self : goal.invariant_of-self
invariant_of-self g c =
    let stays : length c.move_in.new.children.items ≡ length c.self.inside.entries.value.list.items = c.move_in.ensures.stays ∙ ap (λ e. length e.list.items) c.deref_mut.ensures.value in
    sorted_beside c.self.inside.bytes c.self.inside.entries.value.list.items c.move_in.new.children.items c.self.invariant stays

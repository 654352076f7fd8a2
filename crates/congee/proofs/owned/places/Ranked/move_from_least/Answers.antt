use Rattle.std.proofs.Common.{rules, ap, ◌∙◌, arith}
use Rattle.congee.proofs.lemmas.forms.SortedLemmas.{none_held}
use Rattle.congee.proofs.owned.places.Ranked.move_from_least.Goals as goal

pub move_out-requires : goal.move_out-requires
move_out-requires g c =
    let none = none_held c.self.inside.bytes c.self.inside.entries.value.list.items c.self.invariant (c.self.view_is ∙ c.requires.empty) in
    (search rules, (search rules, (omega (arith, g.met.P.Listable.fits_list), (none.0, (ap (λ e. e.list.items) c.deref_mut.ensures.value ∙ none.1, c.requires.room)))))

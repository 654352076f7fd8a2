use Rattle.std.proofs.Common.{rules, ◌∙◌}
use Rattle.congee.proofs.lemmas.forms.SortedLemmas.{none_held}
use Rattle.congee.proofs.forms.sorted.Sorted.move_in.Goals as goal

pub move_children-requires : goal.move_children-requires
move_children-requires g c =
    let none = none_held c.self.inside.bytes c.self.inside.children.items c.self.invariant (c.self.view_is ∙ c.requires.empty) in
    (search rules, (search rules, (search rules, (search rules, (c.requires.sorted.same, (none.0, (none.1, c.requires.room)))))))

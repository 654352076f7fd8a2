use Rattle.std.proofs.Common.{rules, ◌≤◌, length, ap, arith}
use Rattle.std.specs.FinMap as map
use Rattle.congee.proofs.lemmas.forms.SortedLemmas.{len_is, sorted_beside}
use Rattle.congee.proofs.forms.sorted.Sorted.move_out.Goals as goal

pub move_children-requires : goal.move_children-requires
move_children-requires g c =
    let long = len_is c.self.invariant in
    let room : length c.self.inside.bytes ≤ g.row.M = omega (arith, long, ap map.len c.self.view_is, c.requires.room) in
    (search rules, (search rules, (search rules, (search rules, (c.self.invariant.same, (c.requires.no_bytes, (c.requires.no_children, room)))))))

pub invariant_of-self : goal.invariant_of-self
invariant_of-self g c = sorted_beside c.self.inside.bytes c.self.inside.children.items c.move_children.new.children.items c.self.invariant c.move_children.ensures.stays

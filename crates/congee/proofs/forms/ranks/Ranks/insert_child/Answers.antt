use Rattle.std.proofs.Common.{rules, ◌<◌, ◌≤◌, length, arith}
use Rattle.congee.proofs.lemmas.forms.SortedLemmas.{IsPlaceOf, len_is, insert_map}
use Rattle.congee.proofs.lemmas.forms.Ranks.{rising_of}
use Rattle.congee.proofs.forms.ranks.Ranks.insert_child.Goals as goal

pub insert-requires : goal.insert-requires
insert-requires g c =
    let r : length c.args.self.now < g.row.N = omega (arith, len_is c.requires.sorted, c.requires.room, c.place_of-place.ensures.fits) in
    (search rules, (c.place_of-place.ensures.within, r))

pub insert-requires-2 : goal.insert-requires-2
insert-requires-2 g c =
    let r : length c.args.children.now.items < g.row.N = omega (arith, c.requires.sorted.same, len_is c.requires.sorted, c.requires.room, c.place_of-place.ensures.fits) in
    let w : c.place_of-place.result ≤ length c.args.children.now.items = omega (arith, c.requires.sorted.same, c.place_of-place.ensures.within) in
    (search rules, (w, r))

pub returns-clause-sorted : goal.returns-clause-sorted
returns-clause-sorted g c =
    let s : IsPlaceOf c.args.byte c.place_of-place.result c.args.self.now = record { within = c.place_of-place.ensures.within; below = c.place_of-place.ensures.below; at = c.place_of-place.ensures.at } in
    let all = insert_map c.requires.sorted c.args.byte c.place_of-place.result c.args.child (omega arith) s c.requires.absent in
    rw (c.insert.ensures, c.insert-2.ensures.items) all.0

pub returns-clause-after : goal.returns-clause-after
returns-clause-after g c =
    let s : IsPlaceOf c.args.byte c.place_of-place.result c.args.self.now = record { within = c.place_of-place.ensures.within; below = c.place_of-place.ensures.below; at = c.place_of-place.ensures.at } in
    let all = insert_map c.requires.sorted c.args.byte c.place_of-place.result c.args.child (omega arith) s c.requires.absent in
    rw (c.insert.ensures, c.insert-2.ensures.items) all.1

pub place_of-place-requires : goal.place_of-place-requires
place_of-place-requires g c = (search rules, rising_of _ _ c.requires.sorted.same c.requires.sorted.rises)

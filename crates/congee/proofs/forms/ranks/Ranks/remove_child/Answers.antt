use Rattle.std.proofs.Common.{rules, ◌<◌, length, arith}
use Rattle.congee.proofs.lemmas.forms.SortedLemmas.{IsPlaceOf, stands_there, get_found, remove_map}
use Rattle.congee.proofs.lemmas.forms.Ranks.{rising_of}
use Rattle.congee.proofs.forms.ranks.Ranks.remove_child.Goals as goal

pub remove-requires : goal.remove-requires
remove-requires g c =
    let s : IsPlaceOf c.args.byte c.place_of-place.result c.args.self.now = record { within = c.place_of-place.ensures.within; below = c.place_of-place.ensures.below; at = c.place_of-place.ensures.at } in
    let at = stands_there c.requires.sorted c.args.byte c.place_of-place.result s c.requires.present in
    (search rules, at.0)

pub remove-requires-2 : goal.remove-requires-2
remove-requires-2 g c =
    let s : IsPlaceOf c.args.byte c.place_of-place.result c.args.self.now = record { within = c.place_of-place.ensures.within; below = c.place_of-place.ensures.below; at = c.place_of-place.ensures.at } in
    let at = stands_there c.requires.sorted c.args.byte c.place_of-place.result s c.requires.present in
    let l : c.place_of-place.result < length c.args.children.now.items = omega (arith, c.requires.sorted.same, at.0) in
    (search rules, l)

pub returns-clause-sorted : goal.returns-clause-sorted
returns-clause-sorted g c =
    let s : IsPlaceOf c.args.byte c.place_of-place.result c.args.self.now = record { within = c.place_of-place.ensures.within; below = c.place_of-place.ensures.below; at = c.place_of-place.ensures.at } in
    let all = remove_map c.requires.sorted c.args.byte c.place_of-place.result s c.requires.present in
    rw (c.remove.ensures, c.remove-2.ensures.items) all.0

pub returns-clause-before : goal.returns-clause-before
returns-clause-before g c =
    let s : IsPlaceOf c.args.byte c.place_of-place.result c.args.self.now = record { within = c.place_of-place.ensures.within; below = c.place_of-place.ensures.below; at = c.place_of-place.ensures.at } in
    let at = stands_there c.requires.sorted c.args.byte c.place_of-place.result s c.requires.present in
    let e = get_found c.requires.sorted c.args.byte c.place_of-place.result c.remove-2.result s at.0 at.1 in
    cc (e, c.remove-2.ensures.value)

pub returns-clause-after : goal.returns-clause-after
returns-clause-after g c =
    let s : IsPlaceOf c.args.byte c.place_of-place.result c.args.self.now = record { within = c.place_of-place.ensures.within; below = c.place_of-place.ensures.below; at = c.place_of-place.ensures.at } in
    let all = remove_map c.requires.sorted c.args.byte c.place_of-place.result s c.requires.present in
    rw (c.remove.ensures, c.remove-2.ensures.items) all.1

pub place_of-place-requires : goal.place_of-place-requires
place_of-place-requires g c = (search rules, rising_of _ _ c.requires.sorted.same c.requires.sorted.rises)

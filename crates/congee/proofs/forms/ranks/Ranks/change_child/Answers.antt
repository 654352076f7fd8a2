use Rattle.std.proofs.Common.{rules, length, ap, arith}
use Rattle.congee.proofs.lemmas.forms.SortedLemmas.{IsPlaceOf, stands_there, get_found, change_map, refill_set}
use Rattle.congee.proofs.lemmas.forms.Ranks.{rising_of}
use Rattle.congee.proofs.forms.ranks.Ranks.change_child.Goals as goal

pub bounds-deref_mut-place : goal.bounds-deref_mut-place
bounds-deref_mut-place g c =
    let s : IsPlaceOf c.args.byte c.place_of-place.result c.args.self.now = record { within = c.place_of-place.ensures.within; below = c.place_of-place.ensures.below; at = c.place_of-place.ensures.at } in
    let at = stands_there c.requires.sorted c.args.byte c.place_of-place.result s c.requires.present in
    omega (arith, c.requires.sorted.same, at.0, ap length c.deref_mut.ensures.value)

pub returns-clause-sorted : goal.returns-clause-sorted
returns-clause-sorted g c =
    let s : IsPlaceOf c.args.byte c.place_of-place.result c.args.self.now = record { within = c.place_of-place.ensures.within; below = c.place_of-place.ensures.below; at = c.place_of-place.ensures.at } in
    let all = change_map c.requires.sorted c.args.byte c.place_of-place.result c.args.child (omega arith) s c.requires.present in
    rw (c.deref_mut.ensures.value, c.replace.ensures.after, refill_set c.args.children.now.items c.place_of-place.result c.args.child) all.0

pub returns-clause-before : goal.returns-clause-before
returns-clause-before g c =
    let s : IsPlaceOf c.args.byte c.place_of-place.result c.args.self.now = record { within = c.place_of-place.ensures.within; below = c.place_of-place.ensures.below; at = c.place_of-place.ensures.at } in
    let at = stands_there c.requires.sorted c.args.byte c.place_of-place.result s c.requires.present in
    let e = get_found c.requires.sorted c.args.byte c.place_of-place.result c.index-deref_mut-place.result s at.0 at.1 in
    cc (e, c.deref_mut.ensures.value, c.replace.ensures.value)

pub returns-clause-after : goal.returns-clause-after
returns-clause-after g c =
    let s : IsPlaceOf c.args.byte c.place_of-place.result c.args.self.now = record { within = c.place_of-place.ensures.within; below = c.place_of-place.ensures.below; at = c.place_of-place.ensures.at } in
    let all = change_map c.requires.sorted c.args.byte c.place_of-place.result c.args.child (omega arith) s c.requires.present in
    rw (c.deref_mut.ensures.value, c.replace.ensures.after, refill_set c.args.children.now.items c.place_of-place.result c.args.child) all.1

pub place_of-place-requires : goal.place_of-place-requires
place_of-place-requires g c = (search rules, rising_of _ _ c.requires.sorted.same c.requires.sorted.rises)

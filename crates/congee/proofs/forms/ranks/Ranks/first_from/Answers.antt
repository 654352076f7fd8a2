use Rattle.std.proofs.Common.{rules, ◌≡◌, ◌<◌, length, get_or, subst, sym, arith}
use Rattle.congee.specs.forms.Bytes.{IsFirst}
use Rattle.congee.specs.forms.Places.{sorted_map}
use Rattle.congee.proofs.lemmas.forms.SortedLemmas.{IsPlaceOf, is_first, none_from}
use Rattle.congee.proofs.lemmas.forms.Ranks.{rising_of, none_past}
use Rattle.congee.proofs.forms.ranks.Ranks.first_from.Goals as goal

pub returns-then-place-len : goal.returns-then-place-len
returns-then-place-len g c =
    let s : IsPlaceOf c.args.from c.place_of-place.result c.args.self.now = record { within = c.place_of-place.ensures.within; below = c.place_of-place.ensures.below; at = c.place_of-place.ensures.at } in
    (none_from c.requires c.args.from c.place_of-place.result s (omega (arith, c.len-len.ensures.count, c.if-place-len.true)))

pub returns : goal.returns
returns g c =
    let s : IsPlaceOf c.args.from c.place_of-place.result c.args.self.now = record { within = c.place_of-place.ensures.within; below = c.place_of-place.ensures.below; at = c.place_of-place.ensures.at } in
    let l : c.place_of-place.result < length c.args.self.now = omega (arith, c.len-len.ensures.count, c.if-place-len.false, s.within) in
    let first = is_first c.requires c.args.from c.place_of-place.result c.index-as_slice-place.result s l in
    let byte : get_or c.args.self.now c.place_of-place.result 0 ≡ c.at.result = sym c.at.ensures in
    let child : get_or c.args.children.now.items c.place_of-place.result c.index-as_slice-place.result ≡ c.index-as_slice-place.result = cc (c.as_slice.ensures.value, c.index-as_slice-place.is) in
    (subst (λ b. IsFirst (sorted_map c.args.self.now c.args.children.now.items) c.args.from b c.index-as_slice-place.result) byte
    (subst (λ x. IsFirst (sorted_map c.args.self.now c.args.children.now.items) c.args.from (get_or c.args.self.now c.place_of-place.result 0) x) child first))

pub returns-then-from-gt255 : goal.returns-then-from-gt255
returns-then-from-gt255 g c = (none_past c.requires c.args.from (omega arith))

pub place_of-place-requires : goal.place_of-place-requires
place_of-place-requires g c = (search rules, rising_of _ _ c.requires.same c.requires.rises)

use Rattle.std.proofs.Common.{rules, ◌≡◌, ◌≢◌, get_or, ℕ, arith, sym, subst}
use Rattle.congee.proofs.lemmas.forms.SortedLemmas.{IsPlaceOf, get_found, get_absent}
use Rattle.congee.proofs.lemmas.forms.Ranks.{rising_of}
use Rattle.congee.proofs.forms.ranks.Ranks.get_child.Goals as goal
use Rattle.congee.proofs.forms.ranks.Ranks.get_child.Goals.{else-place-len-via-then-place-len+else-at-byte, else-place-len-via-else-place-len}

pub returns-then-at-byte : goal.returns-then-at-byte
returns-then-at-byte g c =
    let s : IsPlaceOf c.args.byte c.place_of-place.result c.args.self.now = record { within = c.place_of-place.ensures.within; below = c.place_of-place.ensures.below; at = c.place_of-place.ensures.at } in
    let same : get_or c.args.self.now c.place_of-place.result 0 ≡ c.args.byte = cc (c.at.ensures, c.if-at-byte.true) in
    let e = get_found c.requires c.args.byte c.place_of-place.result c.index-as_slice-place.result s (omega (arith, c.len.ensures.count)) same in
    cc (e, c.index-as_slice-place.is, c.as_slice.ensures.value)

pub returns : goal.returns
returns g c =
    let s : IsPlaceOf c.args.byte c.place_of-place.result c.args.self.now = record { within = c.place_of-place.ensures.within; below = c.place_of-place.ensures.below; at = c.place_of-place.ensures.at } in
    let e = get_absent c.requires c.args.byte c.place_of-place.result s (elim c.else-place-len.branch [
      | else-place-len-via-then-place-len+else-at-byte w ↦ λ h.
          let n : get_or c.args.self.now c.place_of-place.result 0 ≢ c.args.byte = subst (λ (z : ℕ). z ≢ c.args.byte) w.at.ensures w.if-at-byte.false in
          omega (arith, s.at h, n)
      | else-place-len-via-else-place-len w ↦ λ h. absurd (omega (arith, c.len.ensures.count))
    ]) in
    sym e

pub place_of-place-requires : goal.place_of-place-requires
place_of-place-requires g c = (search rules, rising_of _ _ c.requires.same c.requires.rises)

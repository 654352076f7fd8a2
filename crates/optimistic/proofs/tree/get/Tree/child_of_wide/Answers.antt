use Rattle.std.proofs.Common.{◌≡◌, ◌+◌, ◌*◌, sym, ap, ◌∙◌, arith}
use Rattle.optimistic.specs.Layout.{width, is_link}
use Rattle.optimistic.proofs.lemmas.tree.Reading.{links_at}
use Rattle.optimistic.proofs.tree.get.Tree.child_of_wide.Goals as goal

pub pair-requires-clause-inside : goal.pair-requires-clause-inside
unfolding width
pair-requires-clause-inside c = let e = c.place_of_byte-place.ensures.place in let l = c.ranges.byte.fits in (omega arith, omega arith)

pub pair-requires-clause-link : goal.pair-requires-clause-link
unfolding is_link
pair-requires-clause-link c = let e = c.place_of_byte-place.ensures.place in let l = c.ranges.byte.fits in links_at 8 256 c.place_of_byte-place.result (omega arith)

pub returns-clause-found : goal.returns-clause-found
returns-clause-found c f ag is =
    let s = c.place_of_byte-place.ensures.finds f in
    let first : f (8 + 2 * c.place_of_byte-place.result) ≡ c.pair.result.first = c.pair.ensures.first f ag in
    let second : f (8 + 2 * c.place_of_byte-place.result + 1) ≡ c.pair.result.second = c.pair.ensures.second f ag in
    let at : 8 + (2 * c.place_of_byte-place.result + 1) ≡ 8 + 2 * c.place_of_byte-place.result + 1 = omega arith in
    (s.first c.args.key ∙ first, λ ne. s.second c.args.key (λ e. ne (sym (s.first c.args.key ∙ first) ∙ e)) ∙ (ap f at ∙ second))

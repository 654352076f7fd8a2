use Rattle.std.proofs.Common.{◌≡◌, ℕ, ◌+◌, ◌/◌, eqb, if◌then◌else◌, sym, ap, ◌∙◌, arith}
use Rattle.optimistic.specs.forms.Children.{first_of, taken_in}
use Rattle.optimistic.specs.Layout.{width, leaf_of}
use Rattle.optimistic.proofs.lemmas.tree.Reading.{looks_trans, agrees_from, agrees_to, taken_first}
use Rattle.optimistic.proofs.tree.get.Tree.value_of_wide.Goals as goal

pub read-mask-requires-clause-inside : goal.read-mask-requires-clause-inside
unfolding width
read-mask-requires-clause-inside c = let e = c.place_of_byte-place.ensures.place in let l = c.ranges.byte.fits in (omega arith, omega arith)

pub lone-requires-clause-inside : goal.lone-requires-clause-inside
unfolding width
lone-requires-clause-inside c = let e = c.place_of_byte-place.ensures.place in let l = c.ranges.byte.fits in (omega arith, omega arith)

pub returns-clause-looks : goal.returns-clause-looks
returns-clause-looks c = (looks_trans c.args.hand.now.me.0 c.read-mask.new.hand.me.0 c.lone.new.hand.me.0 c.read-mask.ensures.looks c.lone.ensures.looks)

pub returns-clause-found : goal.returns-clause-found
returns-clause-found c f ag is =
    let r0 = c.read-mask.ensures.steady f (agrees_to c.args.node 8 c.args.hand.now.me.0 c.read-mask.new.hand.me.0 c.lone.new.hand.me.0 f ag c.lone.ensures.looks.since) in
    let s = c.place_of_byte-place.ensures.values f in
    let second : f (8 + c.place_of_byte-place.result) ≡ c.lone.result.second = c.lone.ensures.second f (agrees_from c.args.node 8 c.args.hand.now.me.0 c.read-mask.new.hand.me.0 c.lone.new.hand.me.0 f ag c.read-mask.ensures.looks) in
    let pl = c.place_of_byte-place.ensures.place in
    let taken = c.has_byte.ensures f (ap (λ (z : ℕ). f (2 + z / 64)) (sym pl) ∙ r0) in
    let first : first_of 8 f c.args.key c.args.byte ≡ c.lone.result.first = s.first c.args.key ∙ (ap (λ (z : ℕ). if eqb (taken_in 8 f z) 1 then leaf_of c.args.key else 0) pl ∙ (taken_first (taken_in 8 f c.args.byte) c.has_byte.result c.args.key taken ∙ sym c.lone.ensures.first)) in
    (first, λ ne. s.second c.args.key (λ e. ne (sym first ∙ e)) ∙ second)

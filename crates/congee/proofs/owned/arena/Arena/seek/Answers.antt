use Rattle.std.proofs.Common.{◌≡◌, ◌<◌, ◌+◌, [], ◌∷◌, ◌++◌, true, length, get_or, sym, ap, subst, ◌∙◌, arith}
use Rattle.congee.specs.Heap.{Below, Holds, Nothing, fits}
use Rattle.congee.specs.Keys.{key_bytes}
use Rattle.congee.specs.forms.Forms.{prefix_of}
use Rattle.congee.specs.owned.Arena.{heap_of}
use Rattle.congee.specs.owned.Changes.{DiffersAt}
use Rattle.congee.specs.owned.Cursor.{IsCursor, IsAt}
use Rattle.congee.proofs.lemmas.owned.Standing.{standing_at, length_read}
use Rattle.congee.proofs.lemmas.owned.Ways.{below_stands, depth_falls, prefix_is}
use Rattle.congee.proofs.lemmas.owned.Cursors.{Descends, IsByte, branch_at, few_before, sets_out, goes_down, ends_free, ends_held, ends_before, ends_after, byte_read, child_read, pushed}
use Rattle.congee.proofs.owned.arena.Arena.seek.Given.{Over}
use Rattle.congee.proofs.owned.arena.Arena.seek.Goals.{After-prefix_len, then-other-bytes, else-other-bytes}
use Rattle.congee.proofs.owned.arena.Arena.seek.Goals as goal

-- the key's byte at the node at hand
abbrev Here : (g : Over) → After-prefix_len g → Type 0
Here g c = IsByte c.args.self.now.nodes c.loop-above.at c.args.key (get_or c.bytes_of_key-bytes.result c.prefix_len.result 0)

here : (g : Over) (c : After-prefix_len g) → Here g c
here g c =
    byte_read c.args.self.now.nodes c.loop-above.at c.args.key c.bytes_of_key-bytes.result c.bytes_of_key-bytes.ensures.bytes c.requires c.loop-above.invariant.way.stands c.prefix_len.result
    (length_read c.args.self.now.nodes c.loop-above.at c.prefix_len.result c.loop-above.invariant.way.stands c.prefix_len.ensures.count)

-- the cursor has room for one more step
abbrev HasRoom : (g : Over) → After-prefix_len g → Type 0
HasRoom g c = length c.loop-above.above.items < 8

room : (g : Over) (c : After-prefix_len g) → HasRoom g c
room g c = few_before c.args.self.now.nodes c.requires c.loop-above.above.items (branch_at c.loop-above.at 0) c.loop-above.invariant.opens

pub push-requires : goal.push-requires
push-requires g c = (omega arith, room g (goal.at.push-requires g c).After-prefix_len)

pub returns-in-Free : goal.returns-in-Free
returns-in-Free g c =
    let byte = here g (goal.at.returns-in-Free g c).After-prefix_len in
    let child = child_read c.args.self.now.nodes c.loop-above.at c.args.key c.bytes_of_key-bytes.result c.bytes_of_key-bytes.ensures.bytes Nothing c.in-Free.ensures in
    let both = pushed c.args.self.now.nodes c.args.key _ _ c.enter.ensures.steps (ends_free c.args.self.now.nodes c.requires c.loop-above.above.items c.loop-above.at c.args.key (get_or c.bytes_of_key-bytes.result c.prefix_len.result 0) c.bytes_of_key-bytes.ensures.small c.loop-above.invariant byte.byte (omega (arith, byte.low)) child) in
    record { walk = record { way = both.0; sees = c.enter.ensures.sees }; at = both.1 }

pub returns-in-Held : goal.returns-in-Held
returns-in-Held g c =
    let byte = here g (goal.at.returns-in-Held g c).After-prefix_len in
    let child = child_read c.args.self.now.nodes c.loop-above.at c.args.key c.bytes_of_key-bytes.result c.bytes_of_key-bytes.ensures.bytes (Holds c.in-Held.field-0.now) c.in-Held.ensures in
    let both = pushed c.args.self.now.nodes c.args.key _ _ c.enter-in-Held.ensures.steps (ends_held c.args.self.now.nodes c.requires c.loop-above.above.items c.loop-above.at c.args.key (get_or c.bytes_of_key-bytes.result c.prefix_len.result 0) c.in-Held.field-0.now c.bytes_of_key-bytes.ensures.small c.loop-above.invariant byte.byte (omega (arith, byte.low)) child) in
    record { walk = record { way = both.0; sees = c.enter-in-Held.ensures.sees }; at = both.1 }

pub parting-place-requires-clause-stands : goal.parting-place-requires-clause-stands
parting-place-requires-clause-stands g c = below_stands c.args.self.now.nodes c.requires c.loop-above.at c.in-Apart.below c.bytes_of_key-bytes.result c.loop-above.invariant.way.stands c.in-Apart.ensures.0

pub parting-place-requires-clause-differs : goal.parting-place-requires-clause-differs
parting-place-requires-clause-differs g c = λ x e. ap (λ p. fits p c.bytes_of_key-bytes.result) (sym (prefix_is c.args.self.now.nodes c.in-Apart.below x e)) ∙ c.in-Apart.ensures.1

pub overflow_add-from : goal.overflow_add-from
overflow_add-from g c = omega (arith, (here g (goal.at.overflow_add-from g c).After-prefix_len).low)

pub returns-in-Apart : goal.returns-in-Apart
returns-in-Apart g c =
    let s = c.args.self.now.nodes in
    let key = c.args.key in
    let xs = c.loop-above.above.items in
    let at = c.loop-above.at in
    let child = c.in-Apart.below in
    let byte = here g (goal.at.returns-in-Apart g c).After-prefix_len in
    let below = child_read s at key c.bytes_of_key-bytes.result c.bytes_of_key-bytes.ensures.bytes (Below child) c.in-Apart.ensures.0 in
    let stands = below_stands s c.requires at child c.bytes_of_key-bytes.result c.loop-above.invariant.way.stands c.in-Apart.ensures.0 in
    let lower = standing_at s child stands in
    let prefix = prefix_is s child lower.node lower.is in
    let apart = c.parting-place.result.place in
    let parts : DiffersAt (key_bytes key) (heap_of s child).prefix apart =
    subst (λ y. DiffersAt (key_bytes key) y apart) (sym prefix) (subst (λ y. DiffersAt y (prefix_of lower.node) apart) c.bytes_of_key-bytes.ensures.bytes (c.parting-place.ensures.place lower.node lower.is)) in
    let upper : get_or (heap_of s child).prefix apart 0 ≡ c.parting-place.result.other = ap (λ y. get_or y apart 0) prefix ∙ sym (c.parting-place.ensures.other lower.node lower.is) in
    let mine : get_or (key_bytes key) apart 0 ≡ get_or c.bytes_of_key-bytes.result apart 0 = ap (λ y. get_or y apart 0) (sym c.bytes_of_key-bytes.ensures.bytes) in
    let both : IsCursor s (xs ++ branch_at at c.if-other-bytes.from ∷ []) × IsAt s (xs ++ branch_at at c.if-other-bytes.from ∷ []) key = elim c.if-other-bytes.branch [
      | then-other-bytes w ↦ ends_after s c.requires xs at child key c.if-other-bytes.from apart c.bytes_of_key-bytes.ensures.small c.loop-above.invariant (omega (arith, byte.byte, w.from-is)) (omega (arith, byte.low, w.from-is)) below parts
          (omega (arith, upper, mine, w.if-other-bytes.true))
      | else-other-bytes w ↦ ends_before s c.requires xs at child key c.if-other-bytes.from apart c.bytes_of_key-bytes.ensures.small c.loop-above.invariant (omega (arith, byte.byte, w.from-is)) (omega (arith, byte.low, w.from-is)) below parts
          (omega (arith, upper, mine, w.if-other-bytes.false))
    ] in
    let end = pushed s key _ _ c.enter-in-Apart.ensures.steps both in
    record { walk = record { way = end.0; sees = c.enter-in-Apart.ensures.sees }; at = end.1 }

pub loop-above-init : goal.loop-above-init
loop-above-init g c = rw c.root-at.ensures (sets_out c.args.self.now.nodes c.requires c.new-above.result.items c.args.key c.new-above.ensures)

pub loop-above-smaller : goal.loop-above-smaller
loop-above-smaller g c = depth_falls c.args.self.now.nodes c.requires c.bytes_of_key-bytes.result c.loop-above.at c.in-Below.below c.loop-above.invariant.way.stands c.in-Below.ensures.0

pub loop-above-preserved : goal.loop-above-preserved
loop-above-preserved g c =
    let byte = here g (goal.at.loop-above-preserved g c).After-prefix_len in
    let child = child_read c.args.self.now.nodes c.loop-above.at c.args.key c.bytes_of_key-bytes.result c.bytes_of_key-bytes.ensures.bytes (Below c.in-Below.below) c.in-Below.ensures.0 in
    let fits_below : fits (heap_of c.args.self.now.nodes c.in-Below.below).prefix (key_bytes c.args.key) ≡ true = subst (λ y. fits (heap_of c.args.self.now.nodes c.in-Below.below).prefix y ≡ true) c.bytes_of_key-bytes.ensures.bytes c.in-Below.ensures.1 in
    subst (λ ys. Descends c.args.self.now.nodes ys c.in-Below.below c.args.key) (sym c.push.ensures.items)
    (goes_down c.args.self.now.nodes c.requires c.loop-above.above.items c.loop-above.at c.in-Below.below c.args.key ((get_or c.bytes_of_key-bytes.result c.prefix_len.result 0) + 1) c.bytes_of_key-bytes.ensures.small c.loop-above.invariant (omega (arith, byte.byte)) (omega (arith, byte.low)) child fits_below)

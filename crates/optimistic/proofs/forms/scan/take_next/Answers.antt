use Rattle.std.proofs.Common.{ℕ, ◌+◌, ◌/◌, ◌^◌, refl, arith}
use Rattle.optimistic.specs.forms.Wide.{IsRest}
use Rattle.optimistic.proofs.lemmas.forms.Scans.{rest_whole, rest_passed, rest_within, rest_first, rest_less}
use Rattle.optimistic.proofs.forms.scan.take_next.Goals as goal

pub loop-rest-init : goal.loop-rest-init
loop-rest-init c = (c.requires, λ from is. is)

pub loop-rest-smaller : goal.loop-rest-smaller
loop-rest-smaller c = let low = c.if-rest-gt2.false in omega (arith, low)

pub loop-rest-preserved : goal.loop-rest-preserved
loop-rest-preserved c =
    let masks = c.args.masks.now in
    let word : ℕ = c.loop-rest.rest.word in
    let low = c.if-rest-gt2.false in
    let next = λ (from : ℕ) (is : IsRest masks from c.loop-rest.rest).
    let end = is.end in
    let order = is.order in
    rest_whole masks (word + 1) from (omega (arith, low)) (omega (arith, end, order)) (c.fits-masks (word + 1)) (rest_passed masks from c.loop-rest.rest is c.loop-rest-test.true) in
    ((c.loop-rest.invariant.0.0, next c.loop-rest.invariant.0.0 c.loop-rest.invariant.0.1), λ from is. next from (c.loop-rest.invariant.1 from is))

pub overflow_add-byte : goal.overflow_add-byte
overflow_add-byte c =
    let is = c.loop-rest.invariant.0.1 in
    let in_word = rest_within c.args.masks.now c.loop-rest.invariant.0.0 c.loop-rest.rest is c.lowest-bit.result c.lowest-bit.ensures.set in
    let few = is.word in
    omega (arith, in_word, few)

pub overflow_add-rest-2 : goal.overflow_add-rest-2
overflow_add-rest-2 c =
    let is = c.loop-rest.invariant.0.1 in
    let in_word = rest_within c.args.masks.now c.loop-rest.invariant.0.0 c.loop-rest.rest is c.lowest-bit.result c.lowest-bit.ensures.set in
    let few = is.word in
    omega (arith, in_word, few)

pub overflow_cast-result : goal.overflow_cast-result
overflow_cast-result c =
    let is = c.loop-rest.invariant.0.1 in
    let in_word = rest_within c.args.masks.now c.loop-rest.invariant.0.0 c.loop-rest.rest is c.lowest-bit.result c.lowest-bit.ensures.set in
    let few = is.word in
    omega (arith, in_word, few)

pub returns-then-rest-gt2 : goal.returns-then-rest-gt2
returns-then-rest-gt2 c from is k l g =
    let high = c.if-rest-gt2.true in
    rest_passed c.args.masks.now from c.loop-rest.rest (c.loop-rest.invariant.1 from is) c.loop-rest-test.true k l (omega (arith, g, high))

pub returns : goal.returns
returns c from is =
    let now = c.loop-rest.invariant.1 from is in (
      rest_first c.args.masks.now from c.loop-rest.rest now c.lowest-bit.result c.lowest-bit.ensures.set c.lowest-bit.ensures.below,
      rest_less c.args.masks.now from c.loop-rest.rest now c.lowest-bit.result c.lowest-bit.ensures.set c.lowest-bit.ensures.below (c.loop-rest.rest.bits / 2 ^ c.lowest-bit.result / 2) refl,
    )

use Rattle.std.proofs.Common.{◌≡◌, ℕ, rules, ◌<◌, ◌*◌, ◌/◌, ◌∙◌, refl, ap, arith, get_or, set, length, length-set}
use Rattle.optimistic.specs.forms.Bytes.{key_of, with_at}
use Rattle.optimistic.specs.forms.Wide.{bit_in}
use Rattle.optimistic.proofs.lemmas.forms.BitsAt.{bit_put}
use Rattle.optimistic.proofs.lemmas.forms.Scans.{collected_all, collected_more, collected_none, no_bits, place_within, places_more}
use Rattle.optimistic.proofs.forms.scan.places_taken.Goals as goal

pub loop-rest-init : goal.loop-rest-init
loop-rest-init g c = (collected_none (key_of c.args.words.now) c.args.mask _ refl no_bits, search rules, λ b l e. absurd (let z = no_bits b l in omega (arith, z, e)))

pub bounds-words-place : goal.bounds-words-place
bounds-words-place g c =
    let p = c.lowest-place.result in
    let l : p < 8 * g.row.N = place_within c.args.mask (8 * g.row.N) p c.requires.fits (c.loop-rest.invariant.0.inside p c.lowest-place.ensures.set) in
    omega (arith, l)

pub loop-rest-preserved : goal.loop-rest-preserved
loop-rest-preserved g c =
    let p = c.lowest-place.result in
    let b = c.byte_at-byte.result in
    let masks = c.loop-rest.masks in
    let r = c.with_bit.result in
    let e : b ≡ key_of c.args.words.now p = c.byte_at-byte.ensures in
    let size : length masks ≡ 4 = c.loop-rest.invariant.0.size in
    let l : b / 64 < length masks = omega arith in
    let put = λ (q : ℕ). bit_put masks (get_or masks (b / 64) 0) r b 1 q l refl c.with_bit.ensures ∙ ap (λ y. with_at (bit_in masks) y 1 q) e in
    let places = c.loop-rest.places in
    let long = c.loop-rest.invariant.1 in (
      collected_more (key_of c.args.words.now) c.args.mask c.loop-rest.rest c.without_bit-rest.result masks (set masks (b / 64) r) p c.loop-rest.invariant.0 c.lowest-place.ensures.set put c.without_bit-rest.ensures.bits (length-set masks (b / 64) r ∙ size),
      length-set places b p ∙ long,
      places_more (key_of c.args.words.now) c.args.mask masks (set masks (b / 64) r) places b p c.loop-rest.invariant.2 put (c.loop-rest.invariant.0.inside p c.lowest-place.ensures.set) e (omega (arith, long)),
    )

pub returns-clause-bytes : goal.returns-clause-bytes
returns-clause-bytes g c b l = (
  λ e. c.loop-rest.invariant.0.sound b l e,
  λ h. collected_all (key_of c.args.words.now) c.args.mask c.loop-rest.rest c.loop-rest.masks c.loop-rest.invariant.0 c.loop-rest-test.false b h,
)

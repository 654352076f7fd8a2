use Rattle.std.proofs.Common.{◌≡◌, ℕ, ◌*◌, ◌/◌, ◌%◌, ◌<◌, ap, get_or, length, rules, ◌∙◌, arith}
use Rattle.std.specs.Int.{bit_at}
use Rattle.optimistic.specs.forms.Bytes.{byte_of}
use Rattle.optimistic.proofs.lemmas.forms.Gaps.{only_narrow}
use Rattle.optimistic.proofs.lemmas.forms.PlaceLemmas.{byte_narrow, taken_narrow}
use Rattle.optimistic.proofs.lemmas.forms.Scans.{place_within}
use Rattle.optimistic.proofs.forms.gaps.places_among.Goals as goal

pub returns-clause-only : goal.returns-clause-only
returns-clause-only g c form w narrow few has same is =
    only_narrow form w is c.args.words.now c.places_taken.result c.args.mask g.row.N narrow few (search rules) has same (λ b l h. (c.places_taken.ensures.bytes b l).1 h)

pub returns-clause-places : goal.returns-clause-places
returns-clause-places g c form w narrow has same b l e =
    let t = c.places_taken.ensures.places b l e in
    let p : ℕ = get_or c.places_taken.new.places b 0 in
    let low : p < 8 * g.row.N = place_within c.args.mask (8 * g.row.N) p c.requires.fits t.0 in
    let long : length c.args.words.now ≡ g.row.N = search rules in (
      taken_narrow form w p narrow ∙ (ap (λ (z : ℕ). bit_at z p) same ∙ t.0),
      byte_narrow form w p narrow ∙ (ap (λ (z : ℕ). byte_of z (p % 8)) (has (p / 8) (omega (arith, low, long))) ∙ t.1),
    )

use Rattle.std.proofs.Common.{◌≡◌, ℕ, ◌/◌, ◌^◌, ap, sym, ◌∙◌, arith, ◌%◌, get_or}
use native.Mathlib.Nat.{mod-eq_of_lt}
use Rattle.optimistic.specs.Layout.{room}
use Rattle.optimistic.proofs.lemmas.forms.Gaps.{has_one}
use Rattle.optimistic.proofs.lemmas.forms.PlaceLemmas.{mask_four}
use Rattle.optimistic.proofs.lemmas.MoveLemmas.{two_inside, four_small}
use Rattle.optimistic.proofs.lemmas.forms.Scans.{place_within}
use Rattle.optimistic.proofs.tree.get.Tree.bytes_of_four.Goals as goal

pub read-word-requires-clause-inside : goal.read-word-requires-clause-inside
read-word-requires-clause-inside c = (omega arith, two_inside c.args.at.form (omega (arith, c.requires.form)))

pub returns-clause-only : goal.returns-clause-only
returns-clause-only c f ag is =
    let r0 : f 2 ≡ c.read-word.result = c.read-word.ensures.steady f ag in
    let small = four_small c.args.at.form f c.read-word.result c.requires.form is (sym r0) in
    c.places_among.ensures.only c.args.at.form f (λ (e : room c.args.at.form ≡ 256). absurd (omega (arith, e, c.requires.form))) (omega (arith, c.requires.form))
    (has_one f c.read-word.result r0) (mask_four c.args.at.form f c.requires.form ∙ ap (λ (z : ℕ). z / 2 ^ 32) r0 ∙ sym (mod-eq_of_lt (omega (arith, small)))) is

pub returns-clause-places : goal.returns-clause-places
returns-clause-places c f ag is =
    let r0 : f 2 ≡ c.read-word.result = c.read-word.ensures.steady f ag in
    let small = four_small c.args.at.form f c.read-word.result c.requires.form is (sym r0) in
    c.places_among.ensures.places c.args.at.form f (λ (e : room c.args.at.form ≡ 256). absurd (omega (arith, e, c.requires.form)))
    (has_one f c.read-word.result r0) (mask_four c.args.at.form f c.requires.form ∙ ap (λ (z : ℕ). z / 2 ^ 32) r0 ∙ sym (mod-eq_of_lt (omega (arith, small))))

pub returns-clause-within : goal.returns-clause-within
returns-clause-within c b l e = let low = place_within (c.read-word.result / 2 ^ 32 % 16) 4 (get_or c.places_among.new.places b 0) (omega arith) (c.places_among.ensures.within b l e) in let form = c.requires.form in omega (arith, low, form)

use Rattle.std.proofs.Common.{◌≡◌, ℕ, ◌<◌, true, false, ap, sym, ◌∙◌, arith, rules}
use Rattle.optimistic.specs.Layout.{room}
use Rattle.optimistic.specs.forms.Bytes.{with_at}
use Rattle.optimistic.specs.forms.Children.{first_word}
use Rattle.optimistic.specs.Moves.{words_of}
use Rattle.optimistic.proofs.lemmas.forms.PlaceLemmas.{first_inside}
use Rattle.std.proofs.Common.{inl, inr}
use Rattle.std.proofs.lemmas.Bool.{cases_eq}
use Rattle.optimistic.proofs.lemmas.forms.Maps.{with_here, with_other}
use Rattle.optimistic.proofs.lemmas.MoveLemmas.{first_apart}
use Rattle.optimistic.proofs.lemmas.MoveLemmas.{stays_refl, stays_trans, stays_mine, is_values_of, no_child}
use Rattle.optimistic.proofs.moves.clear_children.Goals as goal

pub returns-then-form-gt4-clause-stays : goal.returns-then-form-gt4-clause-stays
returns-then-form-gt4-clause-stays g c = stays_refl c.args.node _

pub returns-then-form-gt4-clause-cleared : goal.returns-then-form-gt4-clause-cleared
returns-then-form-gt4-clause-cleared g c = λ e. let f : false ≡ true = sym (is_values_of c.args.form c.if-form-gt4.true) ∙ e in absurd (cc)

pub loop-place-init : goal.loop-place-init
loop-place-init g c = (c.requires.of, c.requires.at, stays_refl c.args.node _, λ q l. absurd (omega (arith, l)))

pub renew-requires-clause-inside : goal.renew-requires-clause-inside
renew-requires-clause-inside g c = (omega (arith, c.first_at-at.ensures.inside), c.first_at-at.ensures.inside.1)

pub renew-requires-clause-mine : goal.renew-requires-clause-mine
renew-requires-clause-mine g c = stays_mine c.args.node c.args.node _ _ c.loop-place.invariant.2 c.requires.mine

pub renew-requires-clause-tells : goal.renew-requires-clause-tells
renew-requires-clause-tells g c = λ _. no_child _

pub loop-place-preserved : goal.loop-place-preserved
loop-place-preserved g c =
    let n = c.args.node in
    let f = c.args.form in
    let l : c.loop-place.place < room f = search rules in (
      c.renew.ensures.of,
      c.renew.ensures.at,
      stays_trans n _ _ _ c.loop-place.invariant.2 c.renew.ensures.stays,
      λ q m. c.renew.ensures.words (first_word f q) (first_inside f q (omega (arith, l, m))) ∙ elim (cases_eq q c.loop-place.place) [
        | inl e ↦
            ap (λ (z : ℕ). with_at (words_of c.loop-place.hand.me.0 n) z 0 (first_word f q)) (c.first_at-at.ensures.word ∙ ap (first_word f) (sym e)) ∙ with_here (words_of c.loop-place.hand.me.0 n) (first_word f q) 0
        | inr d ↦
            with_other (words_of c.loop-place.hand.me.0 n) c.first_at-at.result 0 (first_word f q) (λ e. d (first_apart f q c.loop-place.place (e ∙ c.first_at-at.ensures.word))) ∙ c.loop-place.invariant.3 q (omega (arith, m, d))
      ],
    )

pub returns-clause-cleared : goal.returns-clause-cleared
returns-clause-cleared g c = λ _ q l. c.loop-place.invariant.3 q (let e : c.loop-place.place ≡ room c.args.form = search rules in omega (arith, l, e))

use Rattle.std.proofs.Common.{ℕ, ap, sym, ◌∙◌, arith}
use Rattle.optimistic.specs.forms.Bytes.{with_at}
use Rattle.optimistic.specs.Moves.{words_of}
use Rattle.optimistic.proofs.lemmas.MoveLemmas.{stays_refl, stores_stays, stored_words, no_child, is_inner_of, is_values_of}
use Rattle.optimistic.proofs.lemmas.MoveLemmas.{without_inner, without_values}
use Rattle.optimistic.proofs.changes.clear_entry.Goals as goal

pub store-requires-clause-of : goal.store-requires-clause-of
store-requires-clause-of g c =
    c.requires.of

pub store-requires-clause-at : goal.store-requires-clause-at
store-requires-clause-at g c =
    c.requires.at

pub store-requires-clause-inside : goal.store-requires-clause-inside
store-requires-clause-inside g c =
    (omega (arith, c.first_at.ensures.inside), c.first_at.ensures.inside.1)

pub store-requires-clause-mine : goal.store-requires-clause-mine
store-requires-clause-mine g c =
    c.requires.mine

pub store-requires-clause-tells : goal.store-requires-clause-tells
store-requires-clause-tells g c =
    λ _. no_child _

pub returns-then-form-lt5-clause-of : goal.returns-then-form-lt5-clause-of
returns-then-form-lt5-clause-of g c =
    c.store.ensures.of

pub returns-then-form-lt5-clause-at : goal.returns-then-form-lt5-clause-at
returns-then-form-lt5-clause-at g c =
    c.store.ensures.at

pub returns-then-form-lt5-clause-stays : goal.returns-then-form-lt5-clause-stays
returns-then-form-lt5-clause-stays g c =
    stores_stays _ c.args.node c.args.form c.first_at.result 0 _ _ c.requires.at c.first_at.ensures.inside.1 c.requires.mine c.store.ensures.stored (omega (arith, c.first_at.ensures.inside))

pub returns-then-form-lt5-clause-words : goal.returns-then-form-lt5-clause-words
returns-then-form-lt5-clause-words g c =
    let n = c.args.node in
    let f = c.args.form in
    let v = c.args.hand.now.me.0 in
    let w = words_of v n in
    λ j l. stored_words _ n f c.first_at.result 0 _ _ c.requires.at c.first_at.ensures.inside.1 c.requires.mine c.store.ensures.stored j l
    ∙ ap (λ (z : ℕ). with_at w z 0 j) c.first_at.ensures.word ∙ sym (without_inner f w c.args.place j (is_inner_of f c.if-form-lt5.true))

pub returns-clause-of : goal.returns-clause-of
returns-clause-of g c =
    c.requires.of

pub returns-clause-at : goal.returns-clause-at
returns-clause-at g c =
    c.requires.at

pub returns-clause-stays : goal.returns-clause-stays
returns-clause-stays g c =
    stays_refl c.args.node _

pub returns-clause-words : goal.returns-clause-words
returns-clause-words g c =
    let n = c.args.node in
    let f = c.args.form in
    let v = c.args.hand.now.me.0 in
    let w = words_of v n in
    λ j l. sym (without_values f w c.args.place j (is_values_of f c.if-form-lt5.false))

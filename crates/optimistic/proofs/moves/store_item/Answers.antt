use Rattle.std.proofs.Common.{ℕ, ap, sym, ◌∙◌, arith}
use Rattle.optimistic.specs.Layout.{is_link}
use Rattle.optimistic.specs.forms.Bytes.{with_at}
use Rattle.optimistic.specs.forms.Children.{first_word}
use Rattle.optimistic.specs.Moves.{words_of}
use Rattle.optimistic.proofs.lemmas.MoveLemmas.{stays_trans, stays_mine, stores_stays, stored_words, agree_twice, entry_inner, entry_values, link_last, is_inner_of, is_values_of}
use Rattle.optimistic.proofs.moves.store_item.Goals as goal

pub renew-requires-clause-tells : goal.renew-requires-clause-tells
renew-requires-clause-tells g c = λ _. c.requires.tells (is_inner_of c.args.form c.if-form-lt5.true)

pub renew-requires-clause-inside : goal.renew-requires-clause-inside
renew-requires-clause-inside g c = (omega (arith, c.first_at-first.ensures.inside), c.first_at-first.ensures.inside.1)

pub store-requires-clause-inside : goal.store-requires-clause-inside
store-requires-clause-inside g c = (omega (arith, c.last_at-last.ensures.inside), c.last_at-last.ensures.inside.1)

pub store-requires-else-form-lt5-clause-inside : goal.store-requires-else-form-lt5-clause-inside
store-requires-else-form-lt5-clause-inside g c = (omega (arith, c.last_at-last.ensures.inside), c.last_at-last.ensures.inside.1)

pub store-requires-clause-mine : goal.store-requires-clause-mine
store-requires-clause-mine g c = stays_mine c.args.node c.args.node _ _ c.renew.ensures.stays c.requires.mine

pub store-requires-clause-tells : goal.store-requires-clause-tells
store-requires-clause-tells g c = λ e. absurd (link_last c.args.form c.args.place c.requires.inside (ap (is_link c.args.form) (sym c.last_at-last.ensures.word) ∙ e))

pub store-requires-else-form-lt5-clause-tells : goal.store-requires-else-form-lt5-clause-tells
store-requires-else-form-lt5-clause-tells g c = λ e. absurd (link_last c.args.form c.args.place c.requires.inside (ap (is_link c.args.form) (sym c.last_at-last.ensures.word) ∙ e))

pub returns-then-form-lt5-clause-stays : goal.returns-then-form-lt5-clause-stays
returns-then-form-lt5-clause-stays g c =
    let n = c.args.node in
    let p = c.renew.ensures.stays in
    stays_trans n _ _ _ p (stores_stays _ n c.args.form c.last_at-last.result c.args.item.last _ _ c.renew.ensures.at c.last_at-last.ensures.inside.1 (stays_mine n n _ _ p c.requires.mine) c.store.ensures.stored (omega (arith, c.last_at-last.ensures.inside)))

pub returns-else-form-lt5-clause-stays : goal.returns-else-form-lt5-clause-stays
returns-else-form-lt5-clause-stays g c =
    stores_stays _ c.args.node c.args.form c.last_at-last.result c.args.item.last _ _ c.requires.at c.last_at-last.ensures.inside.1 c.requires.mine c.store-else-form-lt5.ensures.stored (omega (arith, c.last_at-last.ensures.inside))

pub returns-then-form-lt5-clause-words : goal.returns-then-form-lt5-clause-words
returns-then-form-lt5-clause-words g c = λ j l.
    let n = c.args.node in
    let f = c.args.form in
    let x = c.args.item.first in
    let y = c.args.item.last in
    let u = words_of c.args.hand.now.me.0 n in
    let b = stored_words _ n f c.last_at-last.result y _ _ c.renew.ensures.at c.last_at-last.ensures.inside.1 (stays_mine n n _ _ c.renew.ensures.stays c.requires.mine) c.store.ensures.stored in
    agree_twice f u (words_of c.renew.new.hand.me.0 n) (words_of c.store.new.hand.me.0 n) c.first_at-first.result x c.last_at-last.result y c.renew.ensures.words b j l
    ∙ ap (λ (z : ℕ). with_at (with_at u z x) c.last_at-last.result y j) c.first_at-first.ensures.word
    ∙ ap (λ (z : ℕ). with_at (with_at u (first_word f c.args.place) x) z y j) c.last_at-last.ensures.word
    ∙ sym (entry_inner f u c.args.place x y j (is_inner_of f c.if-form-lt5.true))

pub returns-else-form-lt5-clause-words : goal.returns-else-form-lt5-clause-words
returns-else-form-lt5-clause-words g c = λ j l.
    let n = c.args.node in
    let f = c.args.form in
    let y = c.args.item.last in
    let u = words_of c.args.hand.now.me.0 n in
    stored_words _ n f c.last_at-last.result y _ _ c.requires.at c.last_at-last.ensures.inside.1 c.requires.mine c.store-else-form-lt5.ensures.stored j l
    ∙ ap (λ (z : ℕ). with_at u z y j) c.last_at-last.ensures.word
    ∙ sym (entry_values f u c.args.place c.args.item.first y j (is_values_of f c.if-form-lt5.false))

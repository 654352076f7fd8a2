use Rattle.std.proofs.Common.{◌≡◌, sym, ◌∙◌, arith}
use Rattle.optimistic.specs.Moves.{words_of}
use Rattle.optimistic.proofs.lemmas.forms.BitsAt.{with_same}
use Rattle.optimistic.proofs.lemmas.forms.FormLemmas.{same_with}
use Rattle.optimistic.proofs.lemmas.words.Moments.{tells_since}
use Rattle.optimistic.proofs.lemmas.MoveLemmas.{looks_word, looks_mine, looks_stays, stays_trans, stores_stays, stored_words}
use Rattle.optimistic.proofs.moves.renew.Goals as goal

pub store-requires-clause-inside : goal.store-requires-clause-inside
store-requires-clause-inside g c = (omega (arith, c.requires.inside), c.requires.inside.1)

pub store-requires-clause-mine : goal.store-requires-clause-mine
store-requires-clause-mine g c = looks_mine _ _ _ c.args.node c.load-old.ensures.looks c.requires.mine

pub store-requires-clause-tells : goal.store-requires-clause-tells
store-requires-clause-tells g c = λ e. tells_since c.args.value c.args.hand.now.me.0 c.load-old.new.hand.me.0 (c.requires.tells e) c.load-old.ensures.looks.since

pub returns-then-old-value-clause-stays : goal.returns-then-old-value-clause-stays
returns-then-old-value-clause-stays g c =
    let n = c.args.node in
    let m = looks_mine _ _ _ n c.load-old.ensures.looks c.requires.mine in
    stays_trans n _ _ _ (looks_stays _ n _ _ c.load-old.ensures.looks) (stores_stays _ n c.args.form c.args.word c.args.value _ _ c.load-old.ensures.at c.requires.inside.1 m c.store.ensures.stored c.requires.inside.0)

pub returns-clause-stays : goal.returns-clause-stays
returns-clause-stays g c = looks_stays _ c.args.node _ _ c.load-old.ensures.looks

pub returns-then-old-value-clause-words : goal.returns-then-old-value-clause-words
returns-then-old-value-clause-words g c = λ j l.
    let n = c.args.node in
    let f = c.args.form in
    let m = looks_mine _ _ _ n c.load-old.ensures.looks c.requires.mine in
    stored_words _ n f c.args.word c.args.value _ _ c.load-old.ensures.at c.requires.inside.1 m c.store.ensures.stored j l
    ∙ with_same (words_of c.load-old.new.hand.me.0 n) (words_of c.args.hand.now.me.0 n) c.args.word c.args.value j (looks_word _ n f j _ _ c.requires.at c.requires.mine l c.load-old.ensures.looks)

pub returns-clause-words : goal.returns-clause-words
returns-clause-words g c = λ j l.
    let n = c.args.node in
    let f = c.args.form in
    let u = words_of c.args.hand.now.me.0 n in
    let same : u c.args.word ≡ c.args.value = sym (looks_word _ n f c.args.word _ _ c.requires.at c.requires.mine c.requires.inside.1 c.load-old.ensures.looks) ∙ sym c.load-old.ensures.found ∙ c.if-old-value.false in
    looks_word _ n f j _ _ c.requires.at c.requires.mine l c.load-old.ensures.looks ∙ same_with u c.args.word c.args.value j same

use Rattle.std.proofs.Common.{ℕ, ◌∙◌, subst}
use Rattle.optimistic.specs.forms.Children.{Same, Becomes}
use Rattle.optimistic.specs.Moves.{words_of}
use Rattle.optimistic.proofs.lemmas.forms.FormLemmas.{form_like, taken_like, byte_like}
use Rattle.optimistic.proofs.lemmas.CopyLemmas.{becomes_from}
use Rattle.optimistic.proofs.lemmas.MoveLemmas.{looks_word, looks_stays, stays_trans, stays_mine}
use Rattle.optimistic.proofs.fill.remove.Goals as goal

pub take_out-requires-clause-words : goal.take_out-requires-clause-words
take_out-requires-clause-words g c =
    let n = c.args.node in
    let f = c.args.form in
    let m = stays_mine n n _ _ c.find_place.ensures.stays c.requires.mine in
    form_like f (words_of c.args.hand.now.me.0 n) (words_of c.load_item.new.hand.me.0 n)
    (λ j _ l. looks_word _ n f j c.find_place.new.hand.me.0 c.load_item.new.hand.me.0 c.find_place.ensures.at m l c.load_item.ensures.looks ∙ c.find_place.ensures.same j l) c.requires.form c.requires.words

pub take_out-requires-clause-taken : goal.take_out-requires-clause-taken
take_out-requires-clause-taken g c =
    let n = c.args.node in
    let f = c.args.form in
    let m = stays_mine n n _ _ c.find_place.ensures.stays c.requires.mine in
    let p = c.in-Some.ensures.finds.place.0 in
    taken_like f (words_of c.find_place.new.hand.me.0 n) (words_of c.load_item.new.hand.me.0 n)
    (λ j _ l. looks_word _ n f j c.find_place.new.hand.me.0 c.load_item.new.hand.me.0 c.find_place.ensures.at m l c.load_item.ensures.looks) c.in-Some.place p
    ∙ c.in-Some-load_item.ensures.item.0

pub returns-in-None-clause-stays : goal.returns-in-None-clause-stays
returns-in-None-clause-stays g c = stays_trans c.args.node _ _ _ c.find_place.ensures.stays (looks_stays _ c.args.node _ _ c.load_item.ensures.looks)

pub returns-in-Some-load_item-clause-stays : goal.returns-in-Some-load_item-clause-stays
returns-in-Some-load_item-clause-stays g c =
    stays_trans c.args.node _ _ _ (stays_trans c.args.node _ _ _ c.find_place.ensures.stays (looks_stays _ c.args.node _ _ c.load_item.ensures.looks)) c.take_out.ensures.stays

pub returns-in-Some-load_item-clause-gone : goal.returns-in-Some-load_item-clause-gone
returns-in-Some-load_item-clause-gone g c = λ _.
    let n = c.args.node in
    let f = c.args.form in
    let m = stays_mine n n _ _ c.find_place.ensures.stays c.requires.mine in
    let v = words_of c.args.hand.now.me.0 n in
    let u = words_of c.load_item.new.hand.me.0 n in
    let same : Same f u v = λ j _ l. looks_word _ n f j c.find_place.new.hand.me.0 c.load_item.new.hand.me.0 c.find_place.ensures.at m l c.load_item.ensures.looks ∙ c.find_place.ensures.same j l in
    let p = c.in-Some.ensures.finds.place in
    becomes_from f v u (words_of c.take_out.new.hand.me.0 n) c.args.byte (λ k. 0) 0 same
    (subst (λ (z : ℕ). Becomes f u (words_of c.take_out.new.hand.me.0 n) z (λ k. 0) 0) (byte_like f v u same c.in-Some.place p.0 ∙ p.1) c.take_out.ensures.gone)

use Rattle.std.proofs.Common.{sym, ◌∙◌, arith}
use Rattle.optimistic.specs.Moves.{words_of}
use Rattle.optimistic.proofs.lemmas.MoveLemmas.{two_inside, looks_word, looks_mine, looks_stays, stays_trans}
use Rattle.optimistic.proofs.lemmas.words.Moments.{form_since}
use Rattle.optimistic.proofs.lemmas.forms.FormLemmas.{form_like, taken_like}
use Rattle.optimistic.proofs.lemmas.FillLemmas.{part_like, part_on, part_more, item_some, item_like, match_true}
use Rattle.optimistic.proofs.fill.move_item.Goals as goal

pub returns-in-None-clause-at : goal.returns-in-None-clause-at
returns-in-None-clause-at g c =
    (c.load_item.ensures.at, form_since c.args.to c.args.new c.args.hand.now.me.0 c.load_item.new.hand.me.0 (omega (arith, two_inside c.args.new c.requires.kind.1)) c.requires.at.1 c.load_item.ensures.looks.since)

pub returns-in-None-clause-stays : goal.returns-in-None-clause-stays
returns-in-None-clause-stays g c = looks_stays _ c.args.to _ _ c.load_item.ensures.looks

pub returns-in-None-clause-form : goal.returns-in-None-clause-form
returns-in-None-clause-form g c = λ _.
    form_like c.args.new (words_of c.args.hand.now.me.0 c.args.to) (words_of c.load_item.new.hand.me.0 c.args.to) (λ j _ l. looks_word _ c.args.to c.args.new j c.args.hand.now.me.0 c.load_item.new.hand.me.0 c.requires.at.1 c.requires.mine.1 l c.load_item.ensures.looks)
    c.requires.kind.1 c.requires.words.1

pub returns-in-None-clause-moved : goal.returns-in-None-clause-moved
returns-in-None-clause-moved g c = λ w s p _.
    part_on c.args.form w c.args.place c.args.new (words_of c.load_item.new.hand.me.0 c.args.to)
    (λ t. c.in-None.ensures.item (sym (taken_like c.args.form (words_of c.args.hand.now.me.0 c.args.node) w s c.args.place c.requires.kind.2) ∙ t))
    (part_like c.args.form w c.args.place c.args.new (words_of c.args.hand.now.me.0 c.args.to) (words_of c.load_item.new.hand.me.0 c.args.to)
    (λ j _ l. looks_word _ c.args.to c.args.new j c.args.hand.now.me.0 c.load_item.new.hand.me.0 c.requires.at.1 c.requires.mine.1 l c.load_item.ensures.looks) p)

pub put_in-requires-clause-at : goal.put_in-requires-clause-at
put_in-requires-clause-at g c = form_since c.args.to c.args.new c.args.hand.now.me.0 c.load_item.new.hand.me.0 (omega (arith, two_inside c.args.new c.requires.kind.1)) c.requires.at.1 c.load_item.ensures.looks.since

pub put_in-requires-clause-mine : goal.put_in-requires-clause-mine
put_in-requires-clause-mine g c = looks_mine _ _ _ c.args.to c.load_item.ensures.looks c.requires.mine.1

pub put_in-requires-clause-words : goal.put_in-requires-clause-words
put_in-requires-clause-words g c =
    form_like c.args.new (words_of c.args.hand.now.me.0 c.args.to) (words_of c.load_item.new.hand.me.0 c.args.to) (λ j _ l. looks_word _ c.args.to c.args.new j c.args.hand.now.me.0 c.load_item.new.hand.me.0 c.requires.at.1 c.requires.mine.1 l c.load_item.ensures.looks)
    c.requires.kind.1 c.requires.words.1

pub put_in-requires-clause-some : goal.put_in-requires-clause-some
put_in-requires-clause-some g c = λ e. item_some c.args.form (words_of c.args.hand.now.me.0 c.args.node) c.args.place c.in-Some.item c.requires.words.0 c.requires.kind.2 (sym c.requires.kind.0 ∙ e) c.in-Some.ensures.item

pub put_in-requires-clause-tells : goal.put_in-requires-clause-tells
put_in-requires-clause-tells g c = λ e. c.in-Some.ensures.tells (sym c.requires.kind.0 ∙ e)

pub returns-in-Some-clause-at : goal.returns-in-Some-clause-at
returns-in-Some-clause-at g c = (form_since c.args.node c.args.form c.load_item.new.hand.me.0 c.put_in.new.hand.me.0 (let l = c.requires.kind.2 in omega (arith, two_inside c.args.form (omega (arith, l)))) c.load_item.ensures.at c.put_in.ensures.stays.since, c.put_in.ensures.at)

pub returns-in-Some-clause-stays : goal.returns-in-Some-clause-stays
returns-in-Some-clause-stays g c = stays_trans c.args.to _ _ _ (looks_stays _ c.args.to _ _ c.load_item.ensures.looks) c.put_in.ensures.stays

pub returns-in-Some-clause-form : goal.returns-in-Some-clause-form
returns-in-Some-clause-form g c = λ e. (match_true c.put_in.result _ _ e c.put_in.ensures.put).form_stays

pub returns-in-Some-clause-moved : goal.returns-in-Some-clause-moved
returns-in-Some-clause-moved g c = λ w s p e.
    part_more c.args.form w c.args.place c.args.new (words_of c.load_item.new.hand.me.0 c.args.to) c.in-Some.item (words_of c.put_in.new.hand.me.0 c.args.to) c.requires.kind.0
    (item_like c.args.form w (words_of c.args.hand.now.me.0 c.args.node) c.args.place c.in-Some.item s c.requires.kind.2 c.in-Some.ensures.item) (match_true c.put_in.result _ _ e c.put_in.ensures.put)
    (part_like c.args.form w c.args.place c.args.new (words_of c.args.hand.now.me.0 c.args.to) (words_of c.load_item.new.hand.me.0 c.args.to)
    (λ j _ l. looks_word _ c.args.to c.args.new j c.args.hand.now.me.0 c.load_item.new.hand.me.0 c.requires.at.1 c.requires.mine.1 l c.load_item.ensures.looks) p)

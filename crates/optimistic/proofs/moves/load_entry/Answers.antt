use Rattle.std.proofs.Common.{ap, sym, ◌∙◌, refl}
use Rattle.optimistic.specs.Layout.{is_link}
use Rattle.optimistic.specs.forms.Children.{first_word, last_word}
use Rattle.optimistic.specs.Moves.{words_of}
use Rattle.optimistic.proofs.lemmas.forms.PlaceLemmas.{first_inside, last_inside}
use Rattle.optimistic.proofs.lemmas.MoveLemmas.{looks_word, looks_trans, link_first}
use Rattle.optimistic.proofs.moves.load_entry.Goals as goal

pub load-last-requires-clause-of : goal.load-last-requires-clause-of
load-last-requires-clause-of g c = c.requires.of

pub load-last-requires-clause-at : goal.load-last-requires-clause-at
load-last-requires-clause-at g c = c.requires.at

pub load-last-requires-clause-inside : goal.load-last-requires-clause-inside
load-last-requires-clause-inside g c = c.last_at.ensures.inside.1

pub load-first-requires-clause-of : goal.load-first-requires-clause-of
load-first-requires-clause-of g c = c.load-last.ensures.of

pub load-first-requires-clause-at : goal.load-first-requires-clause-at
load-first-requires-clause-at g c = c.load-last.ensures.at

pub load-first-requires-clause-inside : goal.load-first-requires-clause-inside
load-first-requires-clause-inside g c = c.first_at.ensures.inside.1

pub returns-clause-of : goal.returns-clause-of
returns-clause-of g c = c.load-first.ensures.of

pub returns-clause-at : goal.returns-clause-at
returns-clause-at g c = c.load-first.ensures.at

pub returns-clause-looks : goal.returns-clause-looks
returns-clause-looks g c = looks_trans _ _ _ _ c.load-last.ensures.looks c.load-first.ensures.looks

pub returns-clause-tells : goal.returns-clause-tells
returns-clause-tells g c = λ e. c.load-first.ensures.tells (ap (is_link c.args.form) c.first_at.ensures.word ∙ link_first c.args.form c.args.place c.requires.inside e)

pub returns-clause-entry : goal.returns-clause-entry
returns-clause-entry g c =
    let n = c.args.node in
    let f = c.args.form in
    let p = c.args.place in
    let v = c.args.hand.now.me.0 in
    let d = c.load-last.ensures.looks in
    let e = looks_trans _ _ _ _ d c.load-first.ensures.looks in (
      refl,
      sym (c.load-first.ensures.found ∙ ap (words_of c.load-first.new.hand.me.0 n) c.first_at.ensures.word ∙ looks_word _ n f (first_word f p) v c.load-first.new.hand.me.0 c.requires.at c.requires.mine (first_inside f p c.requires.inside) e),
      sym (c.load-last.ensures.found ∙ ap (words_of c.load-last.new.hand.me.0 n) c.last_at.ensures.word ∙ looks_word _ n f (last_word f p) v c.load-last.new.hand.me.0 c.requires.at c.requires.mine (last_inside f p c.requires.inside) d),
    )

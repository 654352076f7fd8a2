use Rattle.optimistic.specs.Moves.{words_of}
use Rattle.optimistic.proofs.lemmas.forms.FormLemmas.{entered}
use Rattle.optimistic.proofs.changes.write_over.Goals as goal

pub returns-clause-written : goal.returns-clause-written
returns-clause-written g c =
    entered (words_of c.args.hand.now.me.0 c.args.node) (words_of c.store_item.new.hand.me.0 c.args.node) c.args.item.byte c.args.place c.args.item.first c.args.item.last c.args.form c.requires.words c.requires.inside c.requires.taken.0
    c.requires.taken.1 c.requires.some (λ j _ l. c.store_item.ensures.words j l)

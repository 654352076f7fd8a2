use Rattle.optimistic.proofs.lemmas.tree.Blank.{free_since}
use Rattle.optimistic.proofs.lemmas.tree.Setting.{place_since}
use Rattle.optimistic.proofs.tree.get.Tree.replace_by.Goals as goal

pub give_one-requires-clause-forms : goal.give_one-requires-clause-forms
give_one-requires-clause-forms c = c.requires.names.forms

pub give_one-requires-clause-old : goal.give_one-requires-clause-old
give_one-requires-clause-old c = (c.requires.ready.old.held.place.some, c.requires.ready.old.held.place.form)

pub give_one-requires-clause-new : goal.give_one-requires-clause-new
give_one-requires-clause-new c = (c.requires.ready.new.held.place.some, c.requires.ready.new.held.place.form)

pub returns-clause-names : goal.returns-clause-names
returns-clause-names c =
    let e = c.args.nodes in
    let v = c.args.hand.now.me.0 in
    let w = c.replace_counted-set.new.hand.me.0 in
    let s = c.replace_counted-set.ensures.since in
    c.give_one.ensures w (place_since e.old.at v w s c.requires.ready.old.held.place).at (place_since e.new.at v w s c.requires.ready.new.held.place).at (free_since c.args.free.now v w c.requires.names s)

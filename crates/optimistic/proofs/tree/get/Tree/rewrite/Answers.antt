use Rattle.std.proofs.Common.{arith}
use Rattle.optimistic.specs.Moves.{words_of}
use Rattle.optimistic.proofs.lemmas.words.Moments.{width_more, tells_since}
use Rattle.optimistic.proofs.lemmas.forms.FormLemmas.{form_like}
use Rattle.optimistic.proofs.lemmas.tree.Changing.{child_place, stays_rewritten}
use Rattle.optimistic.proofs.lemmas.tree.Setting.{room_some}
use Rattle.optimistic.proofs.tree.get.Tree.rewrite.Goals as goal

pub write_over-requires-clause-words : goal.write_over-requires-clause-words
write_over-requires-clause-words c =
    form_like c.args.at.form (words_of c.args.hand.now.me.0 c.args.at.node) (words_of c.find_place.new.hand.me.0 c.args.at.node) (λ j _ l. c.find_place.ensures.same j l) (room_some c.args.at.form c.requires.at.some c.requires.at.form) c.requires.shape

pub write_over-requires-clause-taken : goal.write_over-requires-clause-taken
write_over-requires-clause-taken c = let p =
    child_place c.args.at.form c.args.byte c.in-Some.place (words_of c.args.hand.now.me.0 c.args.at.node) (words_of c.find_place.new.hand.me.0 c.args.at.node) c.requires.there c.find_place.ensures.same c.in-Some.ensures.finds in
    (p.2, p.1)

pub write_over-requires-clause-tells : goal.write_over-requires-clause-tells
write_over-requires-clause-tells c = λ _. tells_since c.args.child.first c.args.hand.now.me.0 c.find_place.new.hand.me.0 c.requires.tells c.find_place.ensures.stays.since

pub returns-clause-put : goal.returns-clause-put
returns-clause-put c = let m = width_more c.args.at.form c.requires.at.some c.requires.at.form in
    stays_rewritten c.args.at.node c.args.at.form c.args.byte c.args.child.first c.args.child.second c.args.hand.now.me.0 c.find_place.new.hand.me.0 c.write_over.new.hand.me.0 c.requires.at.at (omega arith) c.requires.mine
    c.find_place.ensures.stays c.write_over.ensures.stays c.find_place.ensures.same c.write_over.ensures.written

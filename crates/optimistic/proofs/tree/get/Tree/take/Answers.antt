use Rattle.std.proofs.Common.{ℕ, arith}
use Rattle.optimistic.specs.Moves.{words_of}
use Rattle.optimistic.proofs.lemmas.words.Moments.{width_more}
use Rattle.optimistic.proofs.lemmas.forms.FormLemmas.{form_like}
use Rattle.optimistic.proofs.lemmas.tree.Changing.{child_place, stays_taken}
use Rattle.optimistic.proofs.lemmas.tree.Setting.{room_some}
use Rattle.optimistic.proofs.tree.get.Tree.take.Goals as goal

pub take_out-requires-clause-words : goal.take_out-requires-clause-words
take_out-requires-clause-words c =
    form_like c.args.at.form (words_of c.args.hand.now.me.0 c.args.at.node) (words_of c.find_place.new.hand.me.0 c.args.at.node) (λ j _ l. c.find_place.ensures.same j l) (room_some c.args.at.form c.requires.at.some c.requires.at.form) c.requires.shape

pub take_out-requires-clause-taken : goal.take_out-requires-clause-taken
take_out-requires-clause-taken c = let p =
    child_place c.args.at.form c.args.byte c.in-Some.place (words_of c.args.hand.now.me.0 c.args.at.node) (words_of c.find_place.new.hand.me.0 c.args.at.node) c.requires.there c.find_place.ensures.same c.in-Some.ensures.finds in
    p.2

pub returns-clause-taken : goal.returns-clause-taken
returns-clause-taken c = let m = width_more c.args.at.form c.requires.at.some c.requires.at.form in
    let v = c.args.hand.now.me.0 in let u = c.find_place.new.hand.me.0 in let n : ℕ = c.args.at.node in
    let p = child_place c.args.at.form c.args.byte c.in-Some.place (words_of v n) (words_of u n) c.requires.there c.find_place.ensures.same c.in-Some.ensures.finds in
    stays_taken n c.args.at.form c.args.byte c.in-Some.place v u c.take_out.new.hand.me.0 c.requires.at.at (omega arith) c.requires.mine c.find_place.ensures.stays c.take_out.ensures.stays c.find_place.ensures.same p.1 c.take_out.ensures.gone

use Rattle.std.proofs.Common.{◌≢◌, ℕ, sym, ap, ◌∙◌, subst}
use Rattle.optimistic.specs.Layout.{byte_at}
use Rattle.optimistic.specs.forms.Children.{first_of, put_first, Becomes, Same}
use Rattle.optimistic.specs.Moves.{words_of}
use Rattle.optimistic.proofs.lemmas.words.Moments.{tells_since}
use Rattle.optimistic.proofs.lemmas.forms.FormLemmas.{form_like, taken_like, byte_like}
use Rattle.optimistic.proofs.lemmas.CopyLemmas.{becomes_from, becomes_inner}
use Rattle.optimistic.proofs.lemmas.MoveLemmas.{stays_trans}
use Rattle.optimistic.proofs.lemmas.tree.Setting.{room_some}
use Rattle.optimistic.proofs.tree.get.Tree.write_child.Goals as goal

pub write_over-requires-clause-words : goal.write_over-requires-clause-words
write_over-requires-clause-words c =
    let a = c.args.above in
    form_like a.at.form (words_of c.args.hand.now.me.0 a.at.node) (words_of c.find_place.new.hand.me.0 a.at.node) (λ j _ l. c.find_place.ensures.same j l) (room_some a.at.form c.requires.above.place.some c.requires.above.place.form) c.requires.shape

pub write_over-requires-clause-taken : goal.write_over-requires-clause-taken
write_over-requires-clause-taken c =
    let a = c.args.above in
    let v = words_of c.args.hand.now.me.0 a.at.node in
    let u = words_of c.find_place.new.hand.me.0 a.at.node in
    let same : Same a.at.form u v = λ j _ l. c.find_place.ensures.same j l in
    let f = c.in-Some.ensures.finds in
    let there : first_of a.at.form v c.args.key c.key_byte-byte.result ≢ 0 = λ z. c.requires.there (ap (first_of a.at.form v c.args.key) (sym c.key_byte-byte.ensures.byte) ∙ z) in
    (taken_like a.at.form v u same c.in-Some.place f.place.0 ∙ f.taken c.args.key there, byte_like a.at.form v u same c.in-Some.place f.place.0 ∙ f.place.1)

pub write_over-requires-clause-tells : goal.write_over-requires-clause-tells
write_over-requires-clause-tells c = λ _. tells_since c.args.child.first c.args.hand.now.me.0 c.find_place.new.hand.me.0 c.requires.tells c.find_place.ensures.stays.since

pub returns-clause-stays : goal.returns-clause-stays
returns-clause-stays c = stays_trans c.args.above.at.node _ _ _ c.find_place.ensures.stays c.write_over.ensures.stays

pub returns-clause-becomes : goal.returns-clause-becomes
returns-clause-becomes c =
    let a = c.args.above in
    let v = words_of c.args.hand.now.me.0 a.at.node in
    let u = words_of c.find_place.new.hand.me.0 a.at.node in
    let w = words_of c.write_over.new.hand.me.0 a.at.node in
    let same : Same a.at.form u v = λ j _ l. c.find_place.ensures.same j l in
    let t : Becomes a.at.form u w (byte_at c.args.key a.at.level) (put_first a.at.form c.args.child.first) c.args.child.second =
    subst (λ (z : ℕ). Becomes a.at.form u w z (put_first a.at.form c.args.child.first) c.args.child.second) c.key_byte-byte.ensures.byte c.write_over.ensures.written in
    becomes_inner a.at.form v w (byte_at c.args.key a.at.level) c.args.child.first c.args.child.second c.requires.inner
    (becomes_from a.at.form v u w (byte_at c.args.key a.at.level) (put_first a.at.form c.args.child.first) c.args.child.second same t)

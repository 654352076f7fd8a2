use Rattle.std.proofs.Common.{◌≢◌, ℕ, Bool, if◌then◌else◌, sym, ap, ◌∙◌, subst}
use Rattle.optimistic.specs.Layout.{byte_at, leaf_of}
use Rattle.optimistic.specs.forms.Children.{first_of, Becomes, Same, put_first}
use Rattle.optimistic.specs.Moves.{words_of}
use Rattle.optimistic.proofs.lemmas.words.Moments.{width_some, form_since}
use Rattle.optimistic.proofs.lemmas.MoveLemmas.{stays_trans}
use Rattle.optimistic.proofs.lemmas.forms.FormLemmas.{first_like, second_like, form_like, taken_like, byte_like}
use Rattle.optimistic.proofs.lemmas.tree.Setting.{room_some}
use Rattle.optimistic.proofs.lemmas.tree.Splitting.{child_tells}
use Rattle.optimistic.proofs.tree.get.Tree.hang_branch.Goals as goal

pub write_over-requires-clause-words : goal.write_over-requires-clause-words
write_over-requires-clause-words c =
    let n = c.args.at.node in
    form_like c.args.at.form (words_of c.args.hand.now.me.0 n) (words_of c.find_place-found.new.hand.me.0 n) (λ j _ l. c.find_place-found.ensures.same j l) (room_some c.args.at.form c.requires.at.some c.requires.at.form) c.requires.shape

pub write_over-requires-clause-taken : goal.write_over-requires-clause-taken
write_over-requires-clause-taken c =
    let n = c.args.at.node in
    let f = c.args.at.form in
    let w = words_of c.args.hand.now.me.0 n in
    let v = words_of c.find_place-found.new.hand.me.0 n in
    let same : Same f v w = λ j _ l. c.find_place-found.ensures.same j l in
    let there : first_of f w c.args.key c.key_byte-byte.result ≢ 0 = subst (λ (z : ℕ). first_of f w c.args.key z ≢ 0) (sym c.key_byte-byte.ensures.byte) c.requires.there in
    let finds = c.in-Some.ensures.finds in
    (taken_like f w v same c.in-Some.place finds.place.0 ∙ finds.taken c.args.key there, byte_like f w v same c.in-Some.place finds.place.0 ∙ finds.place.1)

pub write_over-requires-clause-tells : goal.write_over-requires-clause-tells
write_over-requires-clause-tells c = λ _.
    child_tells c.args.form c.args.level c.args.node c.child_word.result c.find_place-found.new.hand.me.0 c.requires.form.1 c.requires.level c.child_word.ensures.word
    (form_since c.args.node c.args.form c.args.hand.now.me.0 c.find_place-found.new.hand.me.0 (width_some c.args.form c.requires.form.0 c.requires.form.1) c.requires.new c.find_place-found.ensures.stays.since)

pub returns-clause-stays : goal.returns-clause-stays
returns-clause-stays c = stays_trans c.args.at.node _ _ _ c.find_place-found.ensures.stays c.write_over.ensures.stays

pub returns-clause-hung : goal.returns-clause-hung
returns-clause-hung c =
    let n = c.args.at.node in
    let f = c.args.at.form in
    let b = byte_at c.args.key c.args.at.level in
    let w = words_of c.args.hand.now.me.0 n in
    let v = words_of c.find_place-found.new.hand.me.0 n in
    let u = words_of c.write_over.new.hand.me.0 n in
    let same : Same f v w = λ j _ l. c.find_place-found.ensures.same j l in
    let t : Becomes f v u b (put_first f c.child_word.result) c.where_word.result = subst (λ (z : ℕ). Becomes f v u z (put_first f c.child_word.result) c.where_word.result) c.key_byte-byte.ensures.byte c.write_over.ensures.written in
    record {
      form_stays = t.form_stays;
      first = λ k. t.first k ∙ (ap (λ (z : Bool). if z then c.child_word.result else leaf_of k) c.requires.inner ∙ c.child_word.ensures.word);
      second = λ k. t.second k ∙ c.where_word.ensures.word;
      other_firsts = λ k z ne. t.other_firsts k z ne ∙ first_like f w v same k z;
      other_seconds = λ k z ne. t.other_seconds k z ne ∙ second_like f w v same k z;
    }

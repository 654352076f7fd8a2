use Rattle.std.proofs.Common.{ℕ, sym, ◌∙◌, arith}
use Rattle.optimistic.specs.Layout.{byte_at}
use Rattle.optimistic.specs.forms.Children.{Same}
use Rattle.optimistic.specs.Moves.{words_of}
use Rattle.optimistic.proofs.lemmas.words.Moments.{tells_since, inside_since}
use Rattle.optimistic.proofs.lemmas.forms.FormLemmas.{form_like, first_like}
use Rattle.optimistic.proofs.lemmas.CopyLemmas.{becomes_from}
use Rattle.optimistic.proofs.lemmas.tree.Setting.{room_some}
use Rattle.optimistic.proofs.lemmas.tree.Holding.{inside, second_word, held_same, held_stays, held_changed, goes_trans, stays_goes, wrote_goes, wrote_mine, wrote_else, wrote_held}
use Rattle.optimistic.proofs.tree.get.Tree.hang.Goals as goal

pub store-requires-clause-inside : goal.store-requires-clause-inside
store-requires-clause-inside c = (omega arith, second_word c.args.old.at c.args.hand.now.me.0 c.requires.old.place)

pub write_child-requires-clause-above : goal.write_child-requires-clause-above
write_child-requires-clause-above c =
    let v = c.args.hand.now.me.0 in
    let u = c.store.new.hand.me.0 in
    let a = c.args.above in
    held_same a v u c.store.ensures.stored.since (wrote_mine c.args.old 0 v u c.requires.old c.store.ensures.stored a.at.node c.requires.above.mine)
    (wrote_else c.args.old 0 v u c.requires.old c.store.ensures.stored a.at.node c.requires.above.mine c.requires.apart) c.requires.above

pub write_child-requires-clause-shape : goal.write_child-requires-clause-shape
write_child-requires-clause-shape c =
    let v = c.args.hand.now.me.0 in
    let u = c.store.new.hand.me.0 in
    let a = c.args.above in
    let same : Same a.at.form (words_of u a.at.node) (words_of v a.at.node) = λ j _ l. wrote_else c.args.old 0 v u c.requires.old c.store.ensures.stored a.at.node c.requires.above.mine c.requires.apart j (inside a.at v j c.requires.above.place l) in
    form_like a.at.form (words_of v a.at.node) (words_of u a.at.node) same (room_some a.at.form c.requires.above.place.some c.requires.above.place.form) c.requires.shape

pub write_child-requires-clause-there : goal.write_child-requires-clause-there
write_child-requires-clause-there c =
    let v = c.args.hand.now.me.0 in
    let u = c.store.new.hand.me.0 in
    let a = c.args.above in
    let same : Same a.at.form (words_of u a.at.node) (words_of v a.at.node) = λ j _ l. wrote_else c.args.old 0 v u c.requires.old c.store.ensures.stored a.at.node c.requires.above.mine c.requires.apart j (inside a.at v j c.requires.above.place l) in
    λ z. c.requires.there (sym (first_like a.at.form (words_of v a.at.node) (words_of u a.at.node) same c.args.key (byte_at c.args.key a.at.level)) ∙ z)

pub write_child-requires-clause-tells : goal.write_child-requires-clause-tells
write_child-requires-clause-tells c = tells_since c.args.child.first c.args.hand.now.me.0 c.store.new.hand.me.0 c.requires.tells c.store.ensures.stored.since

pub returns-clause-hung : goal.returns-clause-hung
returns-clause-hung c =
    let v = c.args.hand.now.me.0 in
    let u = c.store.new.hand.me.0 in
    let w = c.write_child.new.hand.me.0 in
    let a = c.args.above in
    let n = c.args.old in
    let t = c.store.ensures.stored in
    let s = c.write_child.ensures.stays in
    let had : (p : ℕ) → _ = wrote_mine n 0 v u c.requires.old t in
    let else_same = wrote_else n 0 v u c.requires.old t in
    let wide = second_word a.at v c.requires.above.place in
    let in_a = inside a.at v 1 c.requires.above.place wide in
    let in_n = inside n.at v 1 c.requires.old.place (second_word n.at v c.requires.old.place) in
    let same : Same a.at.form (words_of u a.at.node) (words_of v a.at.node) = λ j _ l. else_same a.at.node c.requires.above.mine c.requires.apart j (inside a.at v j c.requires.above.place l) in
    record {
      goes = goes_trans v u w (wrote_goes n 0 v u c.requires.old t) (stays_goes a.at.node u w s);
      becomes = becomes_from a.at.form (words_of v a.at.node) (words_of u a.at.node) (words_of w a.at.node) (byte_at c.args.key a.at.level) (λ k. c.args.child.first) c.args.child.second same c.write_child.ensures.becomes;
      stays = s.low (had a.at.node c.requires.above.mine) 1 (omega arith) (inside_since v.seen u.seen t.since a.at.node 1 in_a) ∙ else_same a.at.node c.requires.above.mine c.requires.apart 1 in_a;
      gone = s.words n.at.node (had n.at.node c.requires.old.mine) (λ q. c.requires.apart (sym q)) 1 (inside_since v.seen u.seen t.since n.at.node 1 in_n) ∙ t.here;
      others = λ p own na nn j low. s.words p (had p own) na j (inside_since v.seen u.seen t.since p j low) ∙ else_same p own nn j low;
    }

pub returns-clause-held : goal.returns-clause-held
returns-clause-held c =
    let v = c.args.hand.now.me.0 in
    let u = c.store.new.hand.me.0 in
    let w = c.write_child.new.hand.me.0 in
    let a = c.args.above in
    let n = c.args.old in
    let t = c.store.ensures.stored in
    let s = c.write_child.ensures.stays in (
      held_changed a u w s (held_same a v u t.since (wrote_mine n 0 v u c.requires.old t a.at.node c.requires.above.mine) (wrote_else n 0 v u c.requires.old t a.at.node c.requires.above.mine c.requires.apart) c.requires.above),
      held_stays n u w a.at.node s (λ q. c.requires.apart (sym q)) (wrote_held n 0 v u c.requires.old t),
    )

use Rattle.std.proofs.Common.{◌≡◌, ◌≢◌, ℕ, ◌<◌, true, List, sym, ap, ◌∙◌, subst, arith}
use Rattle.optimistic.specs.Layout.{byte_at, width}
use Rattle.optimistic.specs.forms.Children.{Becomes, Same}
use Rattle.optimistic.specs.Moves.{words_of}
use Rattle.optimistic.specs.declared.words.rule.Tenure.{Tenure}
use Rattle.optimistic.specs.words.Kept.{has}
use Rattle.optimistic.proofs.lemmas.words.Moments.{inside_since}
use Rattle.optimistic.proofs.lemmas.forms.FormLemmas.{form_like, first_like}
use Rattle.optimistic.proofs.lemmas.forms.PlaceLemmas.{entries_above}
use Rattle.optimistic.proofs.lemmas.CopyLemmas.{becomes_from}
use Rattle.optimistic.proofs.lemmas.MoveLemmas.{link_below}
use Rattle.optimistic.proofs.lemmas.tree.Setting.{room_some}
use Rattle.optimistic.proofs.lemmas.tree.Holding.{inside, second_word, held_same, goes_trans, wrote_goes, wrote_mine, wrote_else, wrote_same, wrote_held}
use Rattle.optimistic.proofs.tree.get.Tree.exchange.Goals as goal

pub store-requires-clause-inside : goal.store-requires-clause-inside
store-requires-clause-inside c = (omega arith, second_word c.args.nodes.new.at c.args.hand.now.me.0 c.requires.new.place)

pub store-requires-clause-tells : goal.store-requires-clause-tells
store-requires-clause-tells c = λ link.
    let r = room_some c.args.nodes.new.at.form c.requires.new.place.some c.requires.new.place.form in
    absurd (link_below c.args.nodes.new.at.form 1 r (omega (arith, entries_above c.args.nodes.new.at.form r)) link)

pub hang-requires-clause-above : goal.hang-requires-clause-above
hang-requires-clause-above c =
    let v = c.args.hand.now.me.0 in
    let u = c.store.new.hand.me.0 in
    let a = c.args.nodes.above in
    let m = c.args.nodes.new in
    let x : ℕ = c.where_word-second.result in
    let t = c.store.ensures.stored in
    held_same a v u t.since (wrote_mine m x v u c.requires.new t a.at.node c.requires.above.mine) (wrote_else m x v u c.requires.new t a.at.node c.requires.above.mine c.requires.apart.1) c.requires.above

pub hang-requires-clause-old : goal.hang-requires-clause-old
hang-requires-clause-old c =
    let v = c.args.hand.now.me.0 in
    let u = c.store.new.hand.me.0 in
    let n = c.args.nodes.old in
    let m = c.args.nodes.new in
    let x : ℕ = c.where_word-second.result in
    let t = c.store.ensures.stored in
    held_same n v u t.since (wrote_mine m x v u c.requires.new t n.at.node c.requires.old.mine) (wrote_else m x v u c.requires.new t n.at.node c.requires.old.mine c.requires.apart.2) c.requires.old

pub hang-requires-clause-shape : goal.hang-requires-clause-shape
hang-requires-clause-shape c =
    let v = c.args.hand.now.me.0 in
    let u = c.store.new.hand.me.0 in
    let a = c.args.nodes.above in
    let t = wrote_else c.args.nodes.new c.where_word-second.result v u c.requires.new c.store.ensures.stored a.at.node c.requires.above.mine c.requires.apart.1 in
    form_like a.at.form (words_of v a.at.node) (words_of u a.at.node) (λ j _ l. t j (inside a.at v j c.requires.above.place l)) (room_some a.at.form c.requires.above.place.some c.requires.above.place.form) c.requires.shape

pub hang-requires-clause-there : goal.hang-requires-clause-there
hang-requires-clause-there c =
    let v = c.args.hand.now.me.0 in
    let u = c.store.new.hand.me.0 in
    let a = c.args.nodes.above in
    let t = wrote_else c.args.nodes.new c.where_word-second.result v u c.requires.new c.store.ensures.stored a.at.node c.requires.above.mine c.requires.apart.1 in
    λ z. c.requires.there (sym (first_like a.at.form (words_of v a.at.node) (words_of u a.at.node) (λ j _ l. t j (inside a.at v j c.requires.above.place l)) c.args.nodes.write.key (byte_at c.args.nodes.write.key a.at.level)) ∙ z)

pub returns-clause-exchanged : goal.returns-clause-exchanged
returns-clause-exchanged c =
    let v = c.args.hand.now.me.0 in
    let u = c.store.new.hand.me.0 in
    let w = c.hang.new.hand.me.0 in
    let a = c.args.nodes.above in
    let m = c.args.nodes.new in
    let key : ℕ = c.args.nodes.write.key in
    let x : ℕ = c.where_word-second.result in
    let t = c.store.ensures.stored in
    let hung = c.hang.ensures.hung in
    let else_same = wrote_else m x v u c.requires.new t a.at.node c.requires.above.mine c.requires.apart.1 in
    let same : Same a.at.form (words_of u a.at.node) (words_of v a.at.node) = λ j _ l. else_same j (inside a.at v j c.requires.above.place l) in
    let own = wrote_mine m x v u c.requires.new t m.at.node c.requires.new.mine in
    let ma : m.at.node ≢ a.at.node = λ q. c.requires.apart.1 (sym q) in
    let mn : m.at.node ≢ c.args.nodes.old.at.node = λ q. c.requires.apart.2 (sym q) in
    let wide = second_word m.at v c.requires.new.place in
    let on : (j : ℕ) → j < width m.at.form → words_of w m.at.node j ≡ words_of u m.at.node j = λ j l. hung.others m.at.node own ma mn j (inside_since v.seen u.seen t.since m.at.node j (inside m.at v j c.requires.new.place l)) in
    record {
      goes = goes_trans v u w (wrote_goes m x v u c.requires.new t) hung.goes;
      becomes = subst (λ (z : ℕ × ℕ). Becomes a.at.form (words_of v a.at.node) (words_of w a.at.node) (byte_at key a.at.level) (λ k. z.0) z.1) (λ i. (c.child_word-first.ensures.word i, c.where_word-second.ensures.word i))
          (becomes_from a.at.form (words_of v a.at.node) (words_of u a.at.node) (words_of w a.at.node) (byte_at key a.at.level) (λ k. c.child_word-first.result) x same hung.becomes);
      stays = hung.stays ∙ else_same 1 (inside a.at v 1 c.requires.above.place (second_word a.at v c.requires.above.place));
      gone = hung.gone;
      covers = on 1 wide ∙ (t.here ∙ c.where_word-second.ensures.word);
      filled = λ j s l. on j l ∙ wrote_same m x v u c.requires.new t j (λ (q : j ≡ 1). absurd (omega (arith, q, s))) l;
    }

pub returns-clause-held : goal.returns-clause-held
returns-clause-held c =
    let v = c.args.hand.now.me.0 in
    let u = c.store.new.hand.me.0 in
    let w = c.hang.new.hand.me.0 in
    let m = c.args.nodes.new in
    let x : ℕ = c.where_word-second.result in
    let t = c.store.ensures.stored in
    let hung = c.hang.ensures.hung in
    let own = wrote_mine m x v u c.requires.new t m.at.node c.requires.new.mine in
    let own_w : has w.mine m.at.node ≡ true = ap (λ (z : List Tenure). has z m.at.node) hung.goes.mine ∙ own in
    (c.hang.ensures.held.0, c.hang.ensures.held.1, held_same m u w hung.goes.since own_w (hung.others m.at.node own (λ q. c.requires.apart.1 (sym q)) (λ q. c.requires.apart.2 (sym q))) (wrote_held m x v u c.requires.new t))

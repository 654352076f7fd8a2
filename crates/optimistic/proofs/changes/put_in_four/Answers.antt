use Rattle.std.proofs.Common.{◌≡◌, sym, ◌∙◌, arith}
use Rattle.optimistic.specs.Layout.{room}
use Rattle.optimistic.specs.forms.Children.{IsRoom}
use Rattle.optimistic.specs.Moves.{words_of}
use Rattle.optimistic.proofs.lemmas.MoveLemmas.{two_inside, looks_word, looks_mine, looks_stays, stays_trans, stays_mine, stores_stays, stored_words, link_below}
use Rattle.optimistic.proofs.lemmas.words.Moments.{tells_since}
use Rattle.optimistic.proofs.lemmas.forms.PlaceLemmas.{entries_four}
use Rattle.optimistic.proofs.lemmas.MoveLemmas.{put_one, looks_agree, four_small}
use Rattle.optimistic.proofs.changes.put_in_four.Goals as goal

pub load-word-requires-clause-of : goal.load-word-requires-clause-of
load-word-requires-clause-of g c =
    c.requires.of

pub load-word-requires-clause-at : goal.load-word-requires-clause-at
load-word-requires-clause-at g c =
    c.requires.at

pub load-word-requires-clause-inside : goal.load-word-requires-clause-inside
load-word-requires-clause-inside g c =
    two_inside c.args.form (omega (arith, c.requires.form))

pub room_in_four-requires : goal.room_in_four-requires
room_in_four-requires g c =
    let n = c.args.node in
    let f = c.args.form in
    let v = c.args.hand.now.me.0 in
    let w = words_of v n in
    let r : room f ≡ 4 = c.requires.form in
    let i = two_inside f (omega (arith, r)) in
    let e2 : w 2 ≡ c.load-word.result = sym (c.load-word.ensures.found ∙ looks_word _ n f 2 v c.load-word.new.hand.me.0 c.requires.at c.requires.mine i c.load-word.ensures.looks) in
    record { fits = four_small f w c.load-word.result r c.requires.words (sym e2) }

pub returns-in_default-clause-of : goal.returns-in_default-clause-of
returns-in_default-clause-of g c =
    c.load-word.ensures.of

pub returns-in_default-clause-at : goal.returns-in_default-clause-at
returns-in_default-clause-at g c =
    c.load-word.ensures.at

pub returns-in_default-clause-stays : goal.returns-in_default-clause-stays
returns-in_default-clause-stays g c =
    looks_stays _ c.args.node _ _ c.load-word.ensures.looks

pub returns-in_default-clause-put : goal.returns-in_default-clause-put
returns-in_default-clause-put g c =
    c.load-word.ensures.looks

pub store_item-requires-clause-of : goal.store_item-requires-clause-of
store_item-requires-clause-of g c =
    c.load-word.ensures.of

pub store_item-requires-clause-at : goal.store_item-requires-clause-at
store_item-requires-clause-at g c =
    c.load-word.ensures.at

pub store_item-requires-clause-inside : goal.store_item-requires-clause-inside
store_item-requires-clause-inside g c =
    let n = c.args.node in
    let f = c.args.form in
    let v = c.args.hand.now.me.0 in
    let w = words_of v n in
    let r : room f ≡ 4 = c.requires.form in
    let i = two_inside f (omega (arith, r)) in
    let e2 : w 2 ≡ c.load-word.result = sym (c.load-word.ensures.found ∙ looks_word _ n f 2 v c.load-word.new.hand.me.0 c.requires.at c.requires.mine i c.load-word.ensures.looks) in
    let p = c.in-Some.place in
    let at : IsRoom f w c.args.item.byte p = c.in-Some.ensures f w r e2 in
    at.0

pub store_item-requires-clause-mine : goal.store_item-requires-clause-mine
store_item-requires-clause-mine g c =
    looks_mine _ _ _ c.args.node c.load-word.ensures.looks c.requires.mine

pub store_item-requires-clause-tells : goal.store_item-requires-clause-tells
store_item-requires-clause-tells g c =
    λ e. tells_since c.args.item.first _ _ (c.requires.tells e) c.load-word.ensures.looks.since

pub put_four-changed-requires : goal.put_four-changed-requires
put_four-changed-requires g c =
    let n = c.args.node in
    let f = c.args.form in
    let v = c.args.hand.now.me.0 in
    let w = words_of v n in
    let r : room f ≡ 4 = c.requires.form in
    let i = two_inside f (omega (arith, r)) in
    let e2 : w 2 ≡ c.load-word.result = sym (c.load-word.ensures.found ∙ looks_word _ n f 2 v c.load-word.new.hand.me.0 c.requires.at c.requires.mine i c.load-word.ensures.looks) in
    let p = c.in-Some.place in
    let at : IsRoom f w c.args.item.byte p = c.in-Some.ensures f w r e2 in
    omega (arith, at.0, r)

pub store-requires-clause-of : goal.store-requires-clause-of
store-requires-clause-of g c =
    c.store_item.ensures.of

pub store-requires-clause-at : goal.store-requires-clause-at
store-requires-clause-at g c =
    c.store_item.ensures.at

pub store-requires-clause-inside : goal.store-requires-clause-inside
store-requires-clause-inside g c =
    let n = c.args.node in
    let f = c.args.form in
    let v = c.args.hand.now.me.0 in
    let w = words_of v n in
    let r : room f ≡ 4 = c.requires.form in
    let i = two_inside f (omega (arith, r)) in
    let e2 : w 2 ≡ c.load-word.result = sym (c.load-word.ensures.found ∙ looks_word _ n f 2 v c.load-word.new.hand.me.0 c.requires.at c.requires.mine i c.load-word.ensures.looks) in
    (omega arith, i)

pub store-requires-clause-mine : goal.store-requires-clause-mine
store-requires-clause-mine g c =
    let n = c.args.node in
    let f = c.args.form in
    let v = c.args.hand.now.me.0 in
    let w = words_of v n in
    let m = looks_mine _ _ _ n c.load-word.ensures.looks c.requires.mine in
    let s = c.store_item.ensures.stays in
    let m2 = stays_mine n n _ _ s m in
    m2

pub store-requires-clause-tells : goal.store-requires-clause-tells
store-requires-clause-tells g c =
    let n = c.args.node in
    let f = c.args.form in
    let v = c.args.hand.now.me.0 in
    let w = words_of v n in
    let r : room f ≡ 4 = c.requires.form in
    let i = two_inside f (omega (arith, r)) in
    let e2 : w 2 ≡ c.load-word.result = sym (c.load-word.ensures.found ∙ looks_word _ n f 2 v c.load-word.new.hand.me.0 c.requires.at c.requires.mine i c.load-word.ensures.looks) in
    λ e. absurd (link_below f 2 (omega (arith, r)) (omega (arith, entries_four f r)) e)

pub returns-clause-of : goal.returns-clause-of
returns-clause-of g c =
    c.store.ensures.of

pub returns-clause-at : goal.returns-clause-at
returns-clause-at g c =
    c.store.ensures.at

pub returns-clause-stays : goal.returns-clause-stays
returns-clause-stays g c =
    let n = c.args.node in
    let f = c.args.form in
    let v = c.args.hand.now.me.0 in
    let w = words_of v n in
    let r : room f ≡ 4 = c.requires.form in
    let i = two_inside f (omega (arith, r)) in
    let e2 : w 2 ≡ c.load-word.result = sym (c.load-word.ensures.found ∙ looks_word _ n f 2 v c.load-word.new.hand.me.0 c.requires.at c.requires.mine i c.load-word.ensures.looks) in
    let m = looks_mine _ _ _ n c.load-word.ensures.looks c.requires.mine in
    let s = c.store_item.ensures.stays in
    let m2 = stays_mine n n _ _ s m in
    stays_trans n _ _ _ (looks_stays _ n _ _ c.load-word.ensures.looks) (stays_trans n _ _ _ s (stores_stays _ n f 2 c.put_four-changed.result _ _ c.store_item.ensures.at i m2 c.store.ensures.stored (omega arith)))

pub returns-clause-put : goal.returns-clause-put
returns-clause-put g c =
    let n = c.args.node in
    let f = c.args.form in
    let v = c.args.hand.now.me.0 in
    let w = words_of v n in
    let r : room f ≡ 4 = c.requires.form in
    let i = two_inside f (omega (arith, r)) in
    let e2 : w 2 ≡ c.load-word.result = sym (c.load-word.ensures.found ∙ looks_word _ n f 2 v c.load-word.new.hand.me.0 c.requires.at c.requires.mine i c.load-word.ensures.looks) in
    let p = c.in-Some.place in
    let at : IsRoom f w c.args.item.byte p = c.in-Some.ensures f w r e2 in
    let m = looks_mine _ _ _ n c.load-word.ensures.looks c.requires.mine in
    let s = c.store_item.ensures.stays in
    let m2 = stays_mine n n _ _ s m in
    let x = c.args.item.first in
    let y = c.args.item.last in
    c.put_four-changed.ensures f w (words_of c.store.new.hand.me.0 n) x y r e2 c.requires.words at c.requires.some
    (put_one f w (words_of c.load-word.new.hand.me.0 n) (words_of c.store_item.new.hand.me.0 n) (words_of c.store.new.hand.me.0 n) p x y 2 c.put_four-changed.result (looks_agree _ n f _ _ c.requires.at c.requires.mine c.load-word.ensures.looks) c.store_item.ensures.words
    (stored_words _ n f 2 c.put_four-changed.result _ _ c.store_item.ensures.at i m2 c.store.ensures.stored))

pub returns-in_default-clause-full : goal.returns-in_default-clause-full
returns-in_default-clause-full g c =
    let n = c.args.node in
    let f = c.args.form in
    let v = c.args.hand.now.me.0 in
    let w = words_of v n in
    let r : room f ≡ 4 = c.requires.form in
    let i = two_inside f (omega (arith, r)) in
    let e2 : w 2 ≡ c.load-word.result = sym (c.load-word.ensures.found ∙ looks_word _ n f 2 v c.load-word.new.hand.me.0 c.requires.at c.requires.mine i c.load-word.ensures.looks) in
    λ _. c.in_default.ensures f w r e2

use Rattle.std.proofs.Common.{◌≡◌, ◌+◌, ◌/◌, ◌<◌, sym, ◌∙◌, arith}
use Rattle.optimistic.specs.Layout.{room, width}
use Rattle.optimistic.specs.forms.Children.{IsRoom}
use Rattle.optimistic.specs.Moves.{words_of}
use Rattle.optimistic.proofs.lemmas.forms.PlaceLemmas.{entries_forty_eight}
use Rattle.optimistic.proofs.lemmas.MoveLemmas.{below_inside, looks_word, looks_trans, looks_mine, looks_stays, stays_trans, stays_mine, stores_stays, stored_words, link_below}
use Rattle.optimistic.proofs.lemmas.words.Moments.{tells_since}
use Rattle.optimistic.proofs.lemmas.MoveLemmas.{put_two, looks_agree, forty_eight_small}
use Rattle.optimistic.proofs.changes.put_in_forty_eight.Goals as goal

pub find_among_forty_eight-found-requires-clause-of : goal.find_among_forty_eight-found-requires-clause-of
find_among_forty_eight-found-requires-clause-of g c =
    c.requires.of

pub find_among_forty_eight-found-requires-clause-at : goal.find_among_forty_eight-found-requires-clause-at
find_among_forty_eight-found-requires-clause-at g c =
    c.requires.at

pub find_among_forty_eight-found-requires-clause-form : goal.find_among_forty_eight-found-requires-clause-form
find_among_forty_eight-found-requires-clause-form g c =
    c.requires.form

pub find_among_forty_eight-found-requires-clause-mine : goal.find_among_forty_eight-found-requires-clause-mine
find_among_forty_eight-found-requires-clause-mine g c =
    c.requires.mine

pub find_among_forty_eight-found-requires-clause-words : goal.find_among_forty_eight-found-requires-clause-words
find_among_forty_eight-found-requires-clause-words g c =
    c.requires.words

pub load-mask-requires-clause-of : goal.load-mask-requires-clause-of
load-mask-requires-clause-of g c =
    c.find_among_forty_eight-found.ensures.of

pub load-mask-requires-clause-at : goal.load-mask-requires-clause-at
load-mask-requires-clause-at g c =
    c.find_among_forty_eight-found.ensures.at

pub load-mask-requires-clause-inside : goal.load-mask-requires-clause-inside
load-mask-requires-clause-inside g c =
    let n = c.args.node in
    let f = c.args.form in
    let v = c.args.hand.now.me.0 in
    let w = words_of v n in
    let r : room f ≡ 48 = c.requires.form in
    let some : 0 < room f = omega (arith, r) in
    let en = entries_forty_eight f r in
    let im = below_inside f 8 some (omega (arith, en)) in
    im

pub room_in_forty_eight-requires : goal.room_in_forty_eight-requires
room_in_forty_eight-requires g c =
    let n = c.args.node in
    let f = c.args.form in
    let v = c.args.hand.now.me.0 in
    let w = words_of v n in
    let r : room f ≡ 48 = c.requires.form in
    let some : 0 < room f = omega (arith, r) in
    let en = entries_forty_eight f r in
    let im = below_inside f 8 some (omega (arith, en)) in
    let k1 = c.find_among_forty_eight-found.ensures.looks in
    let k3 = looks_trans _ _ _ _ k1 c.load-mask.ensures.looks in
    let em : w 8 ≡ c.load-mask.result = sym (c.load-mask.ensures.found ∙ looks_word _ n f 8 v c.load-mask.new.hand.me.0 c.requires.at c.requires.mine im k3) in
    record { fits = forty_eight_small f w c.load-mask.result r c.requires.words (sym em) }

pub returns-in_default-clause-of : goal.returns-in_default-clause-of
returns-in_default-clause-of g c =
    c.load-mask.ensures.of

pub returns-in_default-clause-at : goal.returns-in_default-clause-at
returns-in_default-clause-at g c =
    c.load-mask.ensures.at

pub returns-in_default-clause-stays : goal.returns-in_default-clause-stays
returns-in_default-clause-stays g c =
    let n = c.args.node in
    let f = c.args.form in
    let v = c.args.hand.now.me.0 in
    let w = words_of v n in
    let r : room f ≡ 48 = c.requires.form in
    let some : 0 < room f = omega (arith, r) in
    let en = entries_forty_eight f r in
    let im = below_inside f 8 some (omega (arith, en)) in
    let k1 = c.find_among_forty_eight-found.ensures.looks in
    let k3 = looks_trans _ _ _ _ k1 c.load-mask.ensures.looks in
    let em : w 8 ≡ c.load-mask.result = sym (c.load-mask.ensures.found ∙ looks_word _ n f 8 v c.load-mask.new.hand.me.0 c.requires.at c.requires.mine im k3) in
    looks_stays _ n _ _ k3

pub returns-in_default-clause-put : goal.returns-in_default-clause-put
returns-in_default-clause-put g c =
    let n = c.args.node in
    let f = c.args.form in
    let v = c.args.hand.now.me.0 in
    let w = words_of v n in
    let r : room f ≡ 48 = c.requires.form in
    let some : 0 < room f = omega (arith, r) in
    let en = entries_forty_eight f r in
    let im = below_inside f 8 some (omega (arith, en)) in
    let k1 = c.find_among_forty_eight-found.ensures.looks in
    let k3 = looks_trans _ _ _ _ k1 c.load-mask.ensures.looks in
    let em : w 8 ≡ c.load-mask.result = sym (c.load-mask.ensures.found ∙ looks_word _ n f 8 v c.load-mask.new.hand.me.0 c.requires.at c.requires.mine im k3) in
    k3

pub load-word-requires-clause-of : goal.load-word-requires-clause-of
load-word-requires-clause-of g c =
    c.load-mask.ensures.of

pub load-word-requires-clause-at : goal.load-word-requires-clause-at
load-word-requires-clause-at g c =
    c.load-mask.ensures.at

pub load-word-requires-clause-inside : goal.load-word-requires-clause-inside
load-word-requires-clause-inside g c =
    let n = c.args.node in
    let f = c.args.form in
    let v = c.args.hand.now.me.0 in
    let w = words_of v n in
    let r : room f ≡ 48 = c.requires.form in
    let some : 0 < room f = omega (arith, r) in
    let en = entries_forty_eight f r in
    let im = below_inside f 8 some (omega (arith, en)) in
    let k1 = c.find_among_forty_eight-found.ensures.looks in
    let k3 = looks_trans _ _ _ _ k1 c.load-mask.ensures.looks in
    let em : w 8 ≡ c.load-mask.result = sym (c.load-mask.ensures.found ∙ looks_word _ n f 8 v c.load-mask.new.hand.me.0 c.requires.at c.requires.mine im k3) in
    let p = c.in-Some.place in
    let at : IsRoom f w c.args.item.byte p = c.in-Some.ensures f w c.args.item.byte r em c.find_among_forty_eight-found.ensures.lowest in
    let small : p < 48 = omega (arith, at.0, r) in
    let ip : 2 + p / 8 < width f = below_inside f (2 + p / 8) some (omega (arith, en, small)) in
    ip

pub store_item-requires-clause-of : goal.store_item-requires-clause-of
store_item-requires-clause-of g c =
    c.load-word.ensures.of

pub store_item-requires-clause-at : goal.store_item-requires-clause-at
store_item-requires-clause-at g c =
    c.load-word.ensures.at

pub store_item-requires-clause-inside : goal.store_item-requires-clause-inside
store_item-requires-clause-inside g c =
    let n = c.args.node in
    let f = c.args.form in
    let v = c.args.hand.now.me.0 in
    let w = words_of v n in
    let r : room f ≡ 48 = c.requires.form in
    let some : 0 < room f = omega (arith, r) in
    let en = entries_forty_eight f r in
    let im = below_inside f 8 some (omega (arith, en)) in
    let k1 = c.find_among_forty_eight-found.ensures.looks in
    let k3 = looks_trans _ _ _ _ k1 c.load-mask.ensures.looks in
    let em : w 8 ≡ c.load-mask.result = sym (c.load-mask.ensures.found ∙ looks_word _ n f 8 v c.load-mask.new.hand.me.0 c.requires.at c.requires.mine im k3) in
    let p = c.in-Some.place in
    let at : IsRoom f w c.args.item.byte p = c.in-Some.ensures f w c.args.item.byte r em c.find_among_forty_eight-found.ensures.lowest in
    let small : p < 48 = omega (arith, at.0, r) in
    let ip : 2 + p / 8 < width f = below_inside f (2 + p / 8) some (omega (arith, en, small)) in
    at.0

pub store_item-requires-clause-mine : goal.store_item-requires-clause-mine
store_item-requires-clause-mine g c =
    let n = c.args.node in
    let f = c.args.form in
    let v = c.args.hand.now.me.0 in
    let w = words_of v n in
    let r : room f ≡ 48 = c.requires.form in
    let some : 0 < room f = omega (arith, r) in
    let en = entries_forty_eight f r in
    let im = below_inside f 8 some (omega (arith, en)) in
    let k1 = c.find_among_forty_eight-found.ensures.looks in
    let k3 = looks_trans _ _ _ _ k1 c.load-mask.ensures.looks in
    let em : w 8 ≡ c.load-mask.result = sym (c.load-mask.ensures.found ∙ looks_word _ n f 8 v c.load-mask.new.hand.me.0 c.requires.at c.requires.mine im k3) in
    let p = c.in-Some.place in
    let at : IsRoom f w c.args.item.byte p = c.in-Some.ensures f w c.args.item.byte r em c.find_among_forty_eight-found.ensures.lowest in
    let small : p < 48 = omega (arith, at.0, r) in
    let ip : 2 + p / 8 < width f = below_inside f (2 + p / 8) some (omega (arith, en, small)) in
    let k4 = looks_trans _ _ _ _ k3 c.load-word.ensures.looks in
    let m = looks_mine _ _ _ n k4 c.requires.mine in
    m

pub store_item-requires-clause-tells : goal.store_item-requires-clause-tells
store_item-requires-clause-tells g c =
    let n = c.args.node in
    let f = c.args.form in
    let v = c.args.hand.now.me.0 in
    let w = words_of v n in
    let r : room f ≡ 48 = c.requires.form in
    let some : 0 < room f = omega (arith, r) in
    let en = entries_forty_eight f r in
    let im = below_inside f 8 some (omega (arith, en)) in
    let k1 = c.find_among_forty_eight-found.ensures.looks in
    let k3 = looks_trans _ _ _ _ k1 c.load-mask.ensures.looks in
    let em : w 8 ≡ c.load-mask.result = sym (c.load-mask.ensures.found ∙ looks_word _ n f 8 v c.load-mask.new.hand.me.0 c.requires.at c.requires.mine im k3) in
    let p = c.in-Some.place in
    let at : IsRoom f w c.args.item.byte p = c.in-Some.ensures f w c.args.item.byte r em c.find_among_forty_eight-found.ensures.lowest in
    let small : p < 48 = omega (arith, at.0, r) in
    let ip : 2 + p / 8 < width f = below_inside f (2 + p / 8) some (omega (arith, en, small)) in
    let k4 = looks_trans _ _ _ _ k3 c.load-word.ensures.looks in
    let m = looks_mine _ _ _ n k4 c.requires.mine in
    λ e. tells_since c.args.item.first _ _ (c.requires.tells e) k4.since

pub put-changed-requires : goal.put-changed-requires
put-changed-requires g c =
    let n = c.args.node in
    let f = c.args.form in
    let v = c.args.hand.now.me.0 in
    let w = words_of v n in
    let r : room f ≡ 48 = c.requires.form in
    let some : 0 < room f = omega (arith, r) in
    let en = entries_forty_eight f r in
    let im = below_inside f 8 some (omega (arith, en)) in
    let k1 = c.find_among_forty_eight-found.ensures.looks in
    let k3 = looks_trans _ _ _ _ k1 c.load-mask.ensures.looks in
    let em : w 8 ≡ c.load-mask.result = sym (c.load-mask.ensures.found ∙ looks_word _ n f 8 v c.load-mask.new.hand.me.0 c.requires.at c.requires.mine im k3) in
    let p = c.in-Some.place in
    let at : IsRoom f w c.args.item.byte p = c.in-Some.ensures f w c.args.item.byte r em c.find_among_forty_eight-found.ensures.lowest in
    let small : p < 48 = omega (arith, at.0, r) in
    let ip : 2 + p / 8 < width f = below_inside f (2 + p / 8) some (omega (arith, en, small)) in
    omega (arith, small)

pub store-requires-clause-of : goal.store-requires-clause-of
store-requires-clause-of g c =
    c.store_item.ensures.of

pub store-requires-clause-at : goal.store-requires-clause-at
store-requires-clause-at g c =
    c.store_item.ensures.at

pub store-requires-clause-inside : goal.store-requires-clause-inside
store-requires-clause-inside g c =
    let n = c.args.node in
    let f = c.args.form in
    let v = c.args.hand.now.me.0 in
    let w = words_of v n in
    let r : room f ≡ 48 = c.requires.form in
    let some : 0 < room f = omega (arith, r) in
    let en = entries_forty_eight f r in
    let im = below_inside f 8 some (omega (arith, en)) in
    let k1 = c.find_among_forty_eight-found.ensures.looks in
    let k3 = looks_trans _ _ _ _ k1 c.load-mask.ensures.looks in
    let em : w 8 ≡ c.load-mask.result = sym (c.load-mask.ensures.found ∙ looks_word _ n f 8 v c.load-mask.new.hand.me.0 c.requires.at c.requires.mine im k3) in
    let p = c.in-Some.place in
    let at : IsRoom f w c.args.item.byte p = c.in-Some.ensures f w c.args.item.byte r em c.find_among_forty_eight-found.ensures.lowest in
    let small : p < 48 = omega (arith, at.0, r) in
    let ip : 2 + p / 8 < width f = below_inside f (2 + p / 8) some (omega (arith, en, small)) in
    (omega arith, ip)

pub store-requires-clause-mine : goal.store-requires-clause-mine
store-requires-clause-mine g c =
    let n = c.args.node in
    let f = c.args.form in
    let v = c.args.hand.now.me.0 in
    let w = words_of v n in
    let r : room f ≡ 48 = c.requires.form in
    let some : 0 < room f = omega (arith, r) in
    let en = entries_forty_eight f r in
    let im = below_inside f 8 some (omega (arith, en)) in
    let k1 = c.find_among_forty_eight-found.ensures.looks in
    let k3 = looks_trans _ _ _ _ k1 c.load-mask.ensures.looks in
    let em : w 8 ≡ c.load-mask.result = sym (c.load-mask.ensures.found ∙ looks_word _ n f 8 v c.load-mask.new.hand.me.0 c.requires.at c.requires.mine im k3) in
    let p = c.in-Some.place in
    let at : IsRoom f w c.args.item.byte p = c.in-Some.ensures f w c.args.item.byte r em c.find_among_forty_eight-found.ensures.lowest in
    let small : p < 48 = omega (arith, at.0, r) in
    let ip : 2 + p / 8 < width f = below_inside f (2 + p / 8) some (omega (arith, en, small)) in
    let k4 = looks_trans _ _ _ _ k3 c.load-word.ensures.looks in
    let m = looks_mine _ _ _ n k4 c.requires.mine in
    let s = c.store_item.ensures.stays in
    let m2 = stays_mine n n _ _ s m in
    m2

pub store-requires-clause-tells : goal.store-requires-clause-tells
store-requires-clause-tells g c =
    let n = c.args.node in
    let f = c.args.form in
    let v = c.args.hand.now.me.0 in
    let w = words_of v n in
    let r : room f ≡ 48 = c.requires.form in
    let some : 0 < room f = omega (arith, r) in
    let en = entries_forty_eight f r in
    let im = below_inside f 8 some (omega (arith, en)) in
    let k1 = c.find_among_forty_eight-found.ensures.looks in
    let k3 = looks_trans _ _ _ _ k1 c.load-mask.ensures.looks in
    let em : w 8 ≡ c.load-mask.result = sym (c.load-mask.ensures.found ∙ looks_word _ n f 8 v c.load-mask.new.hand.me.0 c.requires.at c.requires.mine im k3) in
    let p = c.in-Some.place in
    let at : IsRoom f w c.args.item.byte p = c.in-Some.ensures f w c.args.item.byte r em c.find_among_forty_eight-found.ensures.lowest in
    let small : p < 48 = omega (arith, at.0, r) in
    let ip : 2 + p / 8 < width f = below_inside f (2 + p / 8) some (omega (arith, en, small)) in
    λ e. absurd (link_below f (2 + p / 8) some (omega (arith, en, small)) e)

pub store-requires-2-clause-of : goal.store-requires-2-clause-of
store-requires-2-clause-of g c =
    c.store.ensures.of

pub store-requires-2-clause-at : goal.store-requires-2-clause-at
store-requires-2-clause-at g c =
    c.store.ensures.at

pub store-requires-2-clause-inside : goal.store-requires-2-clause-inside
store-requires-2-clause-inside g c =
    let n = c.args.node in
    let f = c.args.form in
    let v = c.args.hand.now.me.0 in
    let w = words_of v n in
    let r : room f ≡ 48 = c.requires.form in
    let some : 0 < room f = omega (arith, r) in
    let en = entries_forty_eight f r in
    let im = below_inside f 8 some (omega (arith, en)) in
    (omega arith, im)

pub store-requires-2-clause-mine : goal.store-requires-2-clause-mine
store-requires-2-clause-mine g c =
    let n = c.args.node in
    let f = c.args.form in
    let v = c.args.hand.now.me.0 in
    let w = words_of v n in
    let r : room f ≡ 48 = c.requires.form in
    let some : 0 < room f = omega (arith, r) in
    let en = entries_forty_eight f r in
    let im = below_inside f 8 some (omega (arith, en)) in
    let k1 = c.find_among_forty_eight-found.ensures.looks in
    let k3 = looks_trans _ _ _ _ k1 c.load-mask.ensures.looks in
    let em : w 8 ≡ c.load-mask.result = sym (c.load-mask.ensures.found ∙ looks_word _ n f 8 v c.load-mask.new.hand.me.0 c.requires.at c.requires.mine im k3) in
    let p = c.in-Some.place in
    let at : IsRoom f w c.args.item.byte p = c.in-Some.ensures f w c.args.item.byte r em c.find_among_forty_eight-found.ensures.lowest in
    let small : p < 48 = omega (arith, at.0, r) in
    let ip : 2 + p / 8 < width f = below_inside f (2 + p / 8) some (omega (arith, en, small)) in
    let k4 = looks_trans _ _ _ _ k3 c.load-word.ensures.looks in
    let m = looks_mine _ _ _ n k4 c.requires.mine in
    let s = c.store_item.ensures.stays in
    let m2 = stays_mine n n _ _ s m in
    let t1 = stores_stays _ n f (2 + p / 8) c.put-changed.result.keys _ _ c.store_item.ensures.at ip m2 c.store.ensures.stored (omega arith) in
    let m3 = stays_mine n n _ _ t1 m2 in
    m3

pub store-requires-2-clause-tells : goal.store-requires-2-clause-tells
store-requires-2-clause-tells g c =
    let n = c.args.node in
    let f = c.args.form in
    let v = c.args.hand.now.me.0 in
    let w = words_of v n in
    let r : room f ≡ 48 = c.requires.form in
    let some : 0 < room f = omega (arith, r) in
    let en = entries_forty_eight f r in
    let im = below_inside f 8 some (omega (arith, en)) in
    λ e. absurd (link_below f 8 some (omega (arith, en)) e)

pub returns-clause-of : goal.returns-clause-of
returns-clause-of g c =
    c.store-2.ensures.of

pub returns-clause-at : goal.returns-clause-at
returns-clause-at g c =
    c.store-2.ensures.at

pub returns-clause-stays : goal.returns-clause-stays
returns-clause-stays g c =
    let n = c.args.node in
    let f = c.args.form in
    let v = c.args.hand.now.me.0 in
    let w = words_of v n in
    let r : room f ≡ 48 = c.requires.form in
    let some : 0 < room f = omega (arith, r) in
    let en = entries_forty_eight f r in
    let im = below_inside f 8 some (omega (arith, en)) in
    let k1 = c.find_among_forty_eight-found.ensures.looks in
    let k3 = looks_trans _ _ _ _ k1 c.load-mask.ensures.looks in
    let em : w 8 ≡ c.load-mask.result = sym (c.load-mask.ensures.found ∙ looks_word _ n f 8 v c.load-mask.new.hand.me.0 c.requires.at c.requires.mine im k3) in
    let p = c.in-Some.place in
    let at : IsRoom f w c.args.item.byte p = c.in-Some.ensures f w c.args.item.byte r em c.find_among_forty_eight-found.ensures.lowest in
    let small : p < 48 = omega (arith, at.0, r) in
    let ip : 2 + p / 8 < width f = below_inside f (2 + p / 8) some (omega (arith, en, small)) in
    let k4 = looks_trans _ _ _ _ k3 c.load-word.ensures.looks in
    let m = looks_mine _ _ _ n k4 c.requires.mine in
    let s = c.store_item.ensures.stays in
    let m2 = stays_mine n n _ _ s m in
    let t1 = stores_stays _ n f (2 + p / 8) c.put-changed.result.keys _ _ c.store_item.ensures.at ip m2 c.store.ensures.stored (omega arith) in
    let m3 = stays_mine n n _ _ t1 m2 in
    stays_trans n _ _ _ (looks_stays _ n _ _ k4) (stays_trans n _ _ _ s (stays_trans n _ _ _ t1 (stores_stays _ n f 8 c.put-changed.result.mask _ _ c.store.ensures.at im m3 c.store-2.ensures.stored (omega arith))))

pub returns-clause-put : goal.returns-clause-put
returns-clause-put g c =
    let n = c.args.node in
    let f = c.args.form in
    let v = c.args.hand.now.me.0 in
    let w = words_of v n in
    let r : room f ≡ 48 = c.requires.form in
    let some : 0 < room f = omega (arith, r) in
    let en = entries_forty_eight f r in
    let im = below_inside f 8 some (omega (arith, en)) in
    let k1 = c.find_among_forty_eight-found.ensures.looks in
    let k3 = looks_trans _ _ _ _ k1 c.load-mask.ensures.looks in
    let em : w 8 ≡ c.load-mask.result = sym (c.load-mask.ensures.found ∙ looks_word _ n f 8 v c.load-mask.new.hand.me.0 c.requires.at c.requires.mine im k3) in
    let p = c.in-Some.place in
    let at : IsRoom f w c.args.item.byte p = c.in-Some.ensures f w c.args.item.byte r em c.find_among_forty_eight-found.ensures.lowest in
    let small : p < 48 = omega (arith, at.0, r) in
    let ip : 2 + p / 8 < width f = below_inside f (2 + p / 8) some (omega (arith, en, small)) in
    let k4 = looks_trans _ _ _ _ k3 c.load-word.ensures.looks in
    let m = looks_mine _ _ _ n k4 c.requires.mine in
    let s = c.store_item.ensures.stays in
    let m2 = stays_mine n n _ _ s m in
    let t1 = stores_stays _ n f (2 + p / 8) c.put-changed.result.keys _ _ c.store_item.ensures.at ip m2 c.store.ensures.stored (omega arith) in
    let m3 = stays_mine n n _ _ t1 m2 in
    let x = c.args.item.first in
    let y = c.args.item.last in
    let ew : w (2 + p / 8) ≡ c.load-word.result = sym (c.load-word.ensures.found ∙ looks_word _ n f (2 + p / 8) v c.load-word.new.hand.me.0 c.requires.at c.requires.mine ip k4) in
    c.put-changed.ensures.forty_eight f w (words_of c.store-2.new.hand.me.0 n) x y r ew em c.requires.words at c.requires.some
    (put_two f w (words_of c.load-word.new.hand.me.0 n) (words_of c.store_item.new.hand.me.0 n) (words_of c.store.new.hand.me.0 n) (words_of c.store-2.new.hand.me.0 n) p x y (2 + p / 8) c.put-changed.result.keys 8 c.put-changed.result.mask
    (looks_agree _ n f _ _ c.requires.at c.requires.mine k4) c.store_item.ensures.words
    (stored_words _ n f (2 + p / 8) c.put-changed.result.keys _ _ c.store_item.ensures.at ip m2 c.store.ensures.stored) (stored_words _ n f 8 c.put-changed.result.mask _ _ c.store.ensures.at im m3 c.store-2.ensures.stored))

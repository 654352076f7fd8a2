use Rattle.std.proofs.Common.{◌≡◌, ℕ, ◌<◌, sym, ◌∙◌, subst, arith}
use Rattle.optimistic.specs.Layout.{room, entries}
use Rattle.optimistic.specs.forms.Children.{Becomes}
use Rattle.optimistic.specs.Moves.{words_of}
use Rattle.optimistic.proofs.lemmas.forms.PlaceLemmas.{entries_sixteen, entries_forty_eight}
use Rattle.optimistic.proofs.lemmas.MoveLemmas.{byte_wide, wide_room, below_inside, looks_word, looks_mine, looks_stays, stays_trans, stays_mine, stores_stays, stored_words, link_below}
use Rattle.optimistic.proofs.lemmas.forms.PlaceLemmas.{entries_four, clear_low}
use Rattle.optimistic.proofs.lemmas.MoveLemmas.{take_one, looks_agree}
use Rattle.optimistic.proofs.changes.take_out.Goals as goal

pub clear_entry-requires-clause-of : goal.clear_entry-requires-clause-of
clear_entry-requires-clause-of g c =
    c.requires.of

pub clear_entry-requires-clause-at : goal.clear_entry-requires-clause-at
clear_entry-requires-clause-at g c =
    c.requires.at

pub clear_entry-requires-clause-inside : goal.clear_entry-requires-clause-inside
clear_entry-requires-clause-inside g c =
    c.requires.inside

pub clear_entry-requires-clause-mine : goal.clear_entry-requires-clause-mine
clear_entry-requires-clause-mine g c =
    c.requires.mine

pub load-word-requires-clause-of : goal.load-word-requires-clause-of
load-word-requires-clause-of g c =
    c.clear_entry.ensures.of

pub load-word-requires-clause-at : goal.load-word-requires-clause-at
load-word-requires-clause-at g c =
    c.clear_entry.ensures.at

pub load-word-requires-clause-inside : goal.load-word-requires-clause-inside
load-word-requires-clause-inside g c =
    let n = c.args.node in
    let f = c.args.form in
    let v = c.args.hand.now.me.0 in
    let w = words_of v n in
    let r : room f ≡ 4 = omega (arith, c.room_of.ensures) in
    let some : 0 < room f = omega (arith, r) in
    let low : 2 < entries f = omega (arith, entries_four f r) in
    let i = below_inside f 2 some low in
    i

pub take_four-changed-requires : goal.take_four-changed-requires
take_four-changed-requires g c =
    let l = c.requires.inside in
    let r : room c.args.form ≡ 4 = omega (arith, c.room_of.ensures) in
    omega (arith, l, r)

pub store-requires-clause-of : goal.store-requires-clause-of
store-requires-clause-of g c =
    c.load-word.ensures.of

pub store-requires-clause-at : goal.store-requires-clause-at
store-requires-clause-at g c =
    c.load-word.ensures.at

pub store-requires-clause-inside : goal.store-requires-clause-inside
store-requires-clause-inside g c =
    let n = c.args.node in
    let f = c.args.form in
    let v = c.args.hand.now.me.0 in
    let w = words_of v n in
    let r : room f ≡ 4 = omega (arith, c.room_of.ensures) in
    let some : 0 < room f = omega (arith, r) in
    let low : 2 < entries f = omega (arith, entries_four f r) in
    let i = below_inside f 2 some low in
    (omega arith, i)

pub store-requires-clause-mine : goal.store-requires-clause-mine
store-requires-clause-mine g c =
    let n = c.args.node in
    let f = c.args.form in
    let v = c.args.hand.now.me.0 in
    let w = words_of v n in
    let p = c.args.place in
    let s = c.clear_entry.ensures.stays in
    let m1 = stays_mine n n _ _ s c.requires.mine in
    let m2 = looks_mine _ _ _ n c.load-word.ensures.looks m1 in
    m2

pub store-requires-clause-tells : goal.store-requires-clause-tells
store-requires-clause-tells g c =
    let n = c.args.node in
    let f = c.args.form in
    let v = c.args.hand.now.me.0 in
    let w = words_of v n in
    let r : room f ≡ 4 = omega (arith, c.room_of.ensures) in
    let some : 0 < room f = omega (arith, r) in
    let low : 2 < entries f = omega (arith, entries_four f r) in
    let i = below_inside f 2 some low in
    λ e. absurd (link_below f 2 some low e)

pub returns-in-4-clause-of : goal.returns-in-4-clause-of
returns-in-4-clause-of g c =
    c.store.ensures.of

pub returns-in-4-clause-at : goal.returns-in-4-clause-at
returns-in-4-clause-at g c =
    c.store.ensures.at

pub returns-in-4-clause-stays : goal.returns-in-4-clause-stays
returns-in-4-clause-stays g c =
    let n = c.args.node in
    let f = c.args.form in
    let v = c.args.hand.now.me.0 in
    let w = words_of v n in
    let p = c.args.place in
    let s = c.clear_entry.ensures.stays in
    let m1 = stays_mine n n _ _ s c.requires.mine in
    let r : room f ≡ 4 = omega (arith, c.room_of.ensures) in
    let some : 0 < room f = omega (arith, r) in
    let low : 2 < entries f = omega (arith, entries_four f r) in
    let i = below_inside f 2 some low in
    let m2 = looks_mine _ _ _ n c.load-word.ensures.looks m1 in
    stays_trans n _ _ _ s (stays_trans n _ _ _ (looks_stays _ n _ _ c.load-word.ensures.looks) (stores_stays _ n f 2 c.take_four-changed.result _ _ c.load-word.ensures.at i m2 c.store.ensures.stored (omega arith)))

pub returns-in-4-clause-gone : goal.returns-in-4-clause-gone
returns-in-4-clause-gone g c =
    let n = c.args.node in
    let f = c.args.form in
    let v = c.args.hand.now.me.0 in
    let w = words_of v n in
    let p = c.args.place in
    let s = c.clear_entry.ensures.stays in
    let m1 = stays_mine n n _ _ s c.requires.mine in
    let r : room f ≡ 4 = omega (arith, c.room_of.ensures) in
    let some : 0 < room f = omega (arith, r) in
    let low : 2 < entries f = omega (arith, entries_four f r) in
    let i = below_inside f 2 some low in
    let m2 = looks_mine _ _ _ n c.load-word.ensures.looks m1 in
    let l = c.requires.inside in
    let e : w 2 ≡ c.load-word.result = sym (c.load-word.ensures.found ∙ looks_word _ n f 2 _ _ c.clear_entry.ensures.at m1 i c.load-word.ensures.looks ∙ c.clear_entry.ensures.words 2 i ∙ clear_low f w p 2 low) in
    c.take_four-changed.ensures f w (words_of c.store.new.hand.me.0 n) r e c.requires.words c.requires.taken
    (take_one f w (words_of c.clear_entry.new.hand.me.0 n) (words_of c.load-word.new.hand.me.0 n) (words_of c.store.new.hand.me.0 n) p 2 c.take_four-changed.result c.clear_entry.ensures.words (looks_agree _ n f _ _ c.clear_entry.ensures.at m1 c.load-word.ensures.looks)
    (stored_words _ n f 2 c.take_four-changed.result _ _ c.load-word.ensures.at i m2 c.store.ensures.stored))

pub load-mask-requires-clause-of : goal.load-mask-requires-clause-of
load-mask-requires-clause-of g c =
    c.clear_entry.ensures.of

pub load-mask-requires-clause-at : goal.load-mask-requires-clause-at
load-mask-requires-clause-at g c =
    c.clear_entry.ensures.at

pub load-mask-requires-clause-inside : goal.load-mask-requires-clause-inside
load-mask-requires-clause-inside g c =
    let n = c.args.node in
    let f = c.args.form in
    let v = c.args.hand.now.me.0 in
    let w = words_of v n in
    let r : room f ≡ 16 = omega (arith, c.room_of.ensures) in
    let some : 0 < room f = omega (arith, r) in
    let low : 4 < entries f = omega (arith, entries_sixteen f r) in
    let i = below_inside f 4 some low in
    i

pub take-rest-requires : goal.take-rest-requires
take-rest-requires g c =
    let l = c.requires.inside in
    let r : room c.args.form ≡ 16 = omega (arith, c.room_of.ensures) in
    omega (arith, l, r)

pub store-requires-in-16-clause-of : goal.store-requires-in-16-clause-of
store-requires-in-16-clause-of g c =
    c.load-mask.ensures.of

pub store-requires-in-16-clause-at : goal.store-requires-in-16-clause-at
store-requires-in-16-clause-at g c =
    c.load-mask.ensures.at

pub store-requires-in-16-clause-inside : goal.store-requires-in-16-clause-inside
store-requires-in-16-clause-inside g c =
    let n = c.args.node in
    let f = c.args.form in
    let v = c.args.hand.now.me.0 in
    let w = words_of v n in
    let r : room f ≡ 16 = omega (arith, c.room_of.ensures) in
    let some : 0 < room f = omega (arith, r) in
    let low : 4 < entries f = omega (arith, entries_sixteen f r) in
    let i = below_inside f 4 some low in
    (omega arith, i)

pub store-requires-in-16-clause-mine : goal.store-requires-in-16-clause-mine
store-requires-in-16-clause-mine g c =
    let n = c.args.node in
    let f = c.args.form in
    let v = c.args.hand.now.me.0 in
    let w = words_of v n in
    let p = c.args.place in
    let s = c.clear_entry.ensures.stays in
    let m1 = stays_mine n n _ _ s c.requires.mine in
    let m2 = looks_mine _ _ _ n c.load-mask.ensures.looks m1 in
    m2

pub store-requires-in-16-clause-tells : goal.store-requires-in-16-clause-tells
store-requires-in-16-clause-tells g c =
    let n = c.args.node in
    let f = c.args.form in
    let v = c.args.hand.now.me.0 in
    let w = words_of v n in
    let r : room f ≡ 16 = omega (arith, c.room_of.ensures) in
    let some : 0 < room f = omega (arith, r) in
    let low : 4 < entries f = omega (arith, entries_sixteen f r) in
    let i = below_inside f 4 some low in
    λ e. absurd (link_below f 4 some low e)

pub returns-in-16-clause-of : goal.returns-in-16-clause-of
returns-in-16-clause-of g c =
    c.store-in-16.ensures.of

pub returns-in-16-clause-at : goal.returns-in-16-clause-at
returns-in-16-clause-at g c =
    c.store-in-16.ensures.at

pub returns-in-16-clause-stays : goal.returns-in-16-clause-stays
returns-in-16-clause-stays g c =
    let n = c.args.node in
    let f = c.args.form in
    let v = c.args.hand.now.me.0 in
    let w = words_of v n in
    let p = c.args.place in
    let s = c.clear_entry.ensures.stays in
    let m1 = stays_mine n n _ _ s c.requires.mine in
    let r : room f ≡ 16 = omega (arith, c.room_of.ensures) in
    let some : 0 < room f = omega (arith, r) in
    let low : 4 < entries f = omega (arith, entries_sixteen f r) in
    let i = below_inside f 4 some low in
    let m2 = looks_mine _ _ _ n c.load-mask.ensures.looks m1 in
    stays_trans n _ _ _ s (stays_trans n _ _ _ (looks_stays _ n _ _ c.load-mask.ensures.looks) (stores_stays _ n f 4 c.take-rest.result _ _ c.load-mask.ensures.at i m2 c.store-in-16.ensures.stored (omega arith)))

pub returns-in-16-clause-gone : goal.returns-in-16-clause-gone
returns-in-16-clause-gone g c =
    let n = c.args.node in
    let f = c.args.form in
    let v = c.args.hand.now.me.0 in
    let w = words_of v n in
    let p = c.args.place in
    let s = c.clear_entry.ensures.stays in
    let m1 = stays_mine n n _ _ s c.requires.mine in
    let r : room f ≡ 16 = omega (arith, c.room_of.ensures) in
    let some : 0 < room f = omega (arith, r) in
    let low : 4 < entries f = omega (arith, entries_sixteen f r) in
    let i = below_inside f 4 some low in
    let m2 = looks_mine _ _ _ n c.load-mask.ensures.looks m1 in
    let l = c.requires.inside in
    let e : w 4 ≡ c.load-mask.result = sym (c.load-mask.ensures.found ∙ looks_word _ n f 4 _ _ c.clear_entry.ensures.at m1 i c.load-mask.ensures.looks ∙ c.clear_entry.ensures.words 4 i ∙ clear_low f w p 4 low) in
    c.take-rest.ensures.sixteen f w (words_of c.store-in-16.new.hand.me.0 n) r e c.requires.words (omega (arith, l, r)) c.requires.taken
    (take_one f w (words_of c.clear_entry.new.hand.me.0 n) (words_of c.load-mask.new.hand.me.0 n) (words_of c.store-in-16.new.hand.me.0 n) p 4 c.take-rest.result c.clear_entry.ensures.words (looks_agree _ n f _ _ c.clear_entry.ensures.at m1 c.load-mask.ensures.looks)
    (stored_words _ n f 4 c.take-rest.result _ _ c.load-mask.ensures.at i m2 c.store-in-16.ensures.stored))

pub load-lines-requires-clause-of : goal.load-lines-requires-clause-of
load-lines-requires-clause-of g c =
    c.clear_entry.ensures.of

pub load-lines-requires-clause-at : goal.load-lines-requires-clause-at
load-lines-requires-clause-at g c =
    c.clear_entry.ensures.at

pub load-lines-requires-clause-inside : goal.load-lines-requires-clause-inside
load-lines-requires-clause-inside g c =
    let n = c.args.node in
    let f = c.args.form in
    let v = c.args.hand.now.me.0 in
    let w = words_of v n in
    let r : room f ≡ 48 = omega (arith, c.room_of.ensures) in
    let some : 0 < room f = omega (arith, r) in
    let low : 8 < entries f = omega (arith, entries_forty_eight f r) in
    let i = below_inside f 8 some low in
    i

pub take-fewer-requires : goal.take-fewer-requires
take-fewer-requires g c =
    let l = c.requires.inside in
    let r : room c.args.form ≡ 48 = omega (arith, c.room_of.ensures) in
    omega (arith, l, r)

pub store-requires-in-48-clause-of : goal.store-requires-in-48-clause-of
store-requires-in-48-clause-of g c =
    c.load-lines.ensures.of

pub store-requires-in-48-clause-at : goal.store-requires-in-48-clause-at
store-requires-in-48-clause-at g c =
    c.load-lines.ensures.at

pub store-requires-in-48-clause-inside : goal.store-requires-in-48-clause-inside
store-requires-in-48-clause-inside g c =
    let n = c.args.node in
    let f = c.args.form in
    let v = c.args.hand.now.me.0 in
    let w = words_of v n in
    let r : room f ≡ 48 = omega (arith, c.room_of.ensures) in
    let some : 0 < room f = omega (arith, r) in
    let low : 8 < entries f = omega (arith, entries_forty_eight f r) in
    let i = below_inside f 8 some low in
    (omega arith, i)

pub store-requires-in-48-clause-mine : goal.store-requires-in-48-clause-mine
store-requires-in-48-clause-mine g c =
    let n = c.args.node in
    let f = c.args.form in
    let v = c.args.hand.now.me.0 in
    let w = words_of v n in
    let p = c.args.place in
    let s = c.clear_entry.ensures.stays in
    let m1 = stays_mine n n _ _ s c.requires.mine in
    let m2 = looks_mine _ _ _ n c.load-lines.ensures.looks m1 in
    m2

pub store-requires-in-48-clause-tells : goal.store-requires-in-48-clause-tells
store-requires-in-48-clause-tells g c =
    let n = c.args.node in
    let f = c.args.form in
    let v = c.args.hand.now.me.0 in
    let w = words_of v n in
    let r : room f ≡ 48 = omega (arith, c.room_of.ensures) in
    let some : 0 < room f = omega (arith, r) in
    let low : 8 < entries f = omega (arith, entries_forty_eight f r) in
    let i = below_inside f 8 some low in
    λ e. absurd (link_below f 8 some low e)

pub returns-in-48-clause-of : goal.returns-in-48-clause-of
returns-in-48-clause-of g c =
    c.store-in-48.ensures.of

pub returns-in-48-clause-at : goal.returns-in-48-clause-at
returns-in-48-clause-at g c =
    c.store-in-48.ensures.at

pub returns-in-48-clause-stays : goal.returns-in-48-clause-stays
returns-in-48-clause-stays g c =
    let n = c.args.node in
    let f = c.args.form in
    let v = c.args.hand.now.me.0 in
    let w = words_of v n in
    let p = c.args.place in
    let s = c.clear_entry.ensures.stays in
    let m1 = stays_mine n n _ _ s c.requires.mine in
    let r : room f ≡ 48 = omega (arith, c.room_of.ensures) in
    let some : 0 < room f = omega (arith, r) in
    let low : 8 < entries f = omega (arith, entries_forty_eight f r) in
    let i = below_inside f 8 some low in
    let m2 = looks_mine _ _ _ n c.load-lines.ensures.looks m1 in
    stays_trans n _ _ _ s (stays_trans n _ _ _ (looks_stays _ n _ _ c.load-lines.ensures.looks) (stores_stays _ n f 8 c.take-fewer.result _ _ c.load-lines.ensures.at i m2 c.store-in-48.ensures.stored (omega arith)))

pub returns-in-48-clause-gone : goal.returns-in-48-clause-gone
returns-in-48-clause-gone g c =
    let n = c.args.node in
    let f = c.args.form in
    let v = c.args.hand.now.me.0 in
    let w = words_of v n in
    let p = c.args.place in
    let s = c.clear_entry.ensures.stays in
    let m1 = stays_mine n n _ _ s c.requires.mine in
    let r : room f ≡ 48 = omega (arith, c.room_of.ensures) in
    let some : 0 < room f = omega (arith, r) in
    let low : 8 < entries f = omega (arith, entries_forty_eight f r) in
    let i = below_inside f 8 some low in
    let m2 = looks_mine _ _ _ n c.load-lines.ensures.looks m1 in
    let l = c.requires.inside in
    let e : w 8 ≡ c.load-lines.result = sym (c.load-lines.ensures.found ∙ looks_word _ n f 8 _ _ c.clear_entry.ensures.at m1 i c.load-lines.ensures.looks ∙ c.clear_entry.ensures.words 8 i ∙ clear_low f w p 8 low) in
    c.take-fewer.ensures.forty_eight f w (words_of c.store-in-48.new.hand.me.0 n) r e c.requires.words (omega (arith, l, r)) c.requires.taken
    (take_one f w (words_of c.clear_entry.new.hand.me.0 n) (words_of c.load-lines.new.hand.me.0 n) (words_of c.store-in-48.new.hand.me.0 n) p 8 c.take-fewer.result c.clear_entry.ensures.words (looks_agree _ n f _ _ c.clear_entry.ensures.at m1 c.load-lines.ensures.looks)
    (stored_words _ n f 8 c.take-fewer.result _ _ c.load-lines.ensures.at i m2 c.store-in-48.ensures.stored))

pub take_wide-requires-clause-of : goal.take_wide-requires-clause-of
take_wide-requires-clause-of g c =
    c.clear_entry.ensures.of

pub take_wide-requires-clause-at : goal.take_wide-requires-clause-at
take_wide-requires-clause-at g c =
    c.clear_entry.ensures.at

pub take_wide-requires-clause-inside : goal.take_wide-requires-clause-inside
take_wide-requires-clause-inside g c =
    let n = c.args.node in
    let f = c.args.form in
    let v = c.args.hand.now.me.0 in
    let w = words_of v n in
    let l = c.requires.inside in
    let r : room f ≡ 256 = wide_room f (omega (arith, l)) (λ (e : room f ≡ 4). absurd (omega (arith, e, c.room_of.ensures))) (λ (e : room f ≡ 16). absurd (omega (arith, e, c.room_of.ensures))) (λ (e : room f ≡ 48). absurd (omega (arith, e, c.room_of.ensures))) in
    (omega (arith, l, r), r)

pub take_wide-requires-clause-mine : goal.take_wide-requires-clause-mine
take_wide-requires-clause-mine g c =
    let n = c.args.node in
    let f = c.args.form in
    let v = c.args.hand.now.me.0 in
    let w = words_of v n in
    let p = c.args.place in
    let s = c.clear_entry.ensures.stays in
    let m1 = stays_mine n n _ _ s c.requires.mine in
    m1

pub returns-in_default-clause-of : goal.returns-in_default-clause-of
returns-in_default-clause-of g c =
    c.take_wide.ensures.of

pub returns-in_default-clause-at : goal.returns-in_default-clause-at
returns-in_default-clause-at g c =
    c.take_wide.ensures.at

pub returns-in_default-clause-stays : goal.returns-in_default-clause-stays
returns-in_default-clause-stays g c =
    let n = c.args.node in
    let f = c.args.form in
    let v = c.args.hand.now.me.0 in
    let w = words_of v n in
    stays_trans n _ _ _ c.clear_entry.ensures.stays c.take_wide.ensures.stays

pub returns-in_default-clause-gone : goal.returns-in_default-clause-gone
returns-in_default-clause-gone g c =
    let n = c.args.node in
    let f = c.args.form in
    let v = c.args.hand.now.me.0 in
    let w = words_of v n in
    let l = c.requires.inside in
    let r : room f ≡ 256 = wide_room f (omega (arith, l)) (λ (e : room f ≡ 4). absurd (omega (arith, e, c.room_of.ensures))) (λ (e : room f ≡ 16). absurd (omega (arith, e, c.room_of.ensures))) (λ (e : room f ≡ 48). absurd (omega (arith, e, c.room_of.ensures))) in
    subst (λ (z : ℕ). Becomes f w (words_of c.take_wide.new.hand.me.0 n) z (λ key. 0) 0) (sym (byte_wide f w c.args.place r)) (c.take_wide.ensures.gone w c.clear_entry.ensures.words c.requires.taken)

use Rattle.std.proofs.Common.{◌≡◌, ℕ, ◌+◌, ◌/◌, ◌<◌, ap, sym, ◌∙◌, subst, arith}
use Rattle.optimistic.specs.Layout.{room, entries}
use Rattle.optimistic.specs.forms.Bytes.{with_at}
use Rattle.optimistic.specs.forms.Children.{with_entry, Becomes, put_first, Same}
use Rattle.optimistic.specs.Moves.{words_of}
use Rattle.optimistic.proofs.lemmas.MoveLemmas.{wide_mask, two_inside, looks_word, looks_mine, looks_stays, stays_trans, stays_mine, stores_stays, stored_words, link_below, is_inner_of}
use Rattle.optimistic.proofs.lemmas.words.Moments.{tells_since}
use Rattle.optimistic.proofs.lemmas.forms.PlaceLemmas.{entries_above}
use Rattle.optimistic.proofs.lemmas.MoveLemmas.{put_one, looks_agree, wide_inner, wide_values}
use Rattle.optimistic.proofs.changes.put_in_wide.Goals as goal

pub count_with-more-requires-clause-of : goal.count_with-more-requires-clause-of
count_with-more-requires-clause-of g c =
    c.requires.of

pub count_with-more-requires-clause-at : goal.count_with-more-requires-clause-at
count_with-more-requires-clause-at g c =
    c.requires.at

pub count_with-more-requires-clause-inside : goal.count_with-more-requires-clause-inside
count_with-more-requires-clause-inside g c =
    omega (arith, c.place_of_byte-place.ensures.small, c.requires.form)

pub store_item-requires-clause-of : goal.store_item-requires-clause-of
store_item-requires-clause-of g c =
    c.count_with-more.ensures.of

pub store_item-requires-clause-at : goal.store_item-requires-clause-at
store_item-requires-clause-at g c =
    c.count_with-more.ensures.at

pub store_item-requires-clause-inside : goal.store_item-requires-clause-inside
store_item-requires-clause-inside g c =
    let n = c.args.node in
    let f = c.args.form in
    let v = c.args.hand.now.me.0 in
    let w = words_of v n in
    let r : room f ≡ 256 = c.requires.form in
    let some : 0 < room f = omega (arith, r) in
    let i2 = two_inside f some in
    let p = c.place_of_byte-place.result in
    let x = c.args.item.first in
    let y = c.args.item.last in
    omega (arith, c.place_of_byte-place.ensures.small, r)

pub store_item-requires-clause-mine : goal.store_item-requires-clause-mine
store_item-requires-clause-mine g c =
    let n = c.args.node in
    let f = c.args.form in
    let v = c.args.hand.now.me.0 in
    let w = words_of v n in
    let r : room f ≡ 256 = c.requires.form in
    let some : 0 < room f = omega (arith, r) in
    let i2 = two_inside f some in
    let p = c.place_of_byte-place.result in
    let x = c.args.item.first in
    let y = c.args.item.last in
    let is4 = wide_inner f r c.if-form-lt5.true in
    let m = looks_mine _ _ _ n c.count_with-more.ensures.looks c.requires.mine in
    m

pub store_item-requires-clause-tells : goal.store_item-requires-clause-tells
store_item-requires-clause-tells g c =
    λ e. tells_since c.args.item.first _ _ (c.requires.tells e) c.count_with-more.ensures.looks.since

pub store-requires-clause-of : goal.store-requires-clause-of
store-requires-clause-of g c =
    c.store_item.ensures.of

pub store-requires-clause-at : goal.store-requires-clause-at
store-requires-clause-at g c =
    c.store_item.ensures.at

pub store-requires-clause-inside : goal.store-requires-clause-inside
store-requires-clause-inside g c =
    let n = c.args.node in
    let f = c.args.form in
    let v = c.args.hand.now.me.0 in
    let w = words_of v n in
    let r : room f ≡ 256 = c.requires.form in
    let some : 0 < room f = omega (arith, r) in
    let i2 = two_inside f some in
    let p = c.place_of_byte-place.result in
    let x = c.args.item.first in
    let y = c.args.item.last in
    (omega arith, i2)

pub store-requires-clause-mine : goal.store-requires-clause-mine
store-requires-clause-mine g c =
    let n = c.args.node in
    let f = c.args.form in
    let v = c.args.hand.now.me.0 in
    let w = words_of v n in
    let r : room f ≡ 256 = c.requires.form in
    let some : 0 < room f = omega (arith, r) in
    let i2 = two_inside f some in
    let p = c.place_of_byte-place.result in
    let x = c.args.item.first in
    let y = c.args.item.last in
    let is4 = wide_inner f r c.if-form-lt5.true in
    let m = looks_mine _ _ _ n c.count_with-more.ensures.looks c.requires.mine in
    let m2 = stays_mine n n _ _ c.store_item.ensures.stays m in
    m2

pub store-requires-clause-tells : goal.store-requires-clause-tells
store-requires-clause-tells g c =
    let n = c.args.node in
    let f = c.args.form in
    let v = c.args.hand.now.me.0 in
    let w = words_of v n in
    let r : room f ≡ 256 = c.requires.form in
    let some : 0 < room f = omega (arith, r) in
    let i2 = two_inside f some in
    let p = c.place_of_byte-place.result in
    let x = c.args.item.first in
    let y = c.args.item.last in
    λ e. absurd (link_below f 2 some (entries_above f some) e)

pub load-mask-requires-clause-of : goal.load-mask-requires-clause-of
load-mask-requires-clause-of g c =
    c.requires.of

pub load-mask-requires-clause-at : goal.load-mask-requires-clause-at
load-mask-requires-clause-at g c =
    c.requires.at

pub load-mask-requires-clause-inside : goal.load-mask-requires-clause-inside
load-mask-requires-clause-inside g c =
    let n = c.args.node in
    let f = c.args.form in
    let v = c.args.hand.now.me.0 in
    let w = words_of v n in
    let r : room f ≡ 256 = c.requires.form in
    let some : 0 < room f = omega (arith, r) in
    let i2 = two_inside f some in
    let p = c.place_of_byte-place.result in
    let x = c.args.item.first in
    let y = c.args.item.last in
    let is8 = wide_values f r c.if-form-lt5.false in
    let small : p < 256 = c.place_of_byte-place.ensures.small in
    let im = wide_mask f p r c.if-form-lt5.false small in
    im

pub store_item-requires-else-form-lt5-clause-of : goal.store_item-requires-else-form-lt5-clause-of
store_item-requires-else-form-lt5-clause-of g c =
    c.load-mask.ensures.of

pub store_item-requires-else-form-lt5-clause-at : goal.store_item-requires-else-form-lt5-clause-at
store_item-requires-else-form-lt5-clause-at g c =
    c.load-mask.ensures.at

pub store_item-requires-else-form-lt5-clause-inside : goal.store_item-requires-else-form-lt5-clause-inside
store_item-requires-else-form-lt5-clause-inside g c =
    let n = c.args.node in
    let f = c.args.form in
    let v = c.args.hand.now.me.0 in
    let w = words_of v n in
    let r : room f ≡ 256 = c.requires.form in
    let some : 0 < room f = omega (arith, r) in
    let i2 = two_inside f some in
    let p = c.place_of_byte-place.result in
    let x = c.args.item.first in
    let y = c.args.item.last in
    omega (arith, c.place_of_byte-place.ensures.small, r)

pub store_item-requires-else-form-lt5-clause-mine : goal.store_item-requires-else-form-lt5-clause-mine
store_item-requires-else-form-lt5-clause-mine g c =
    let n = c.args.node in
    let f = c.args.form in
    let v = c.args.hand.now.me.0 in
    let w = words_of v n in
    let r : room f ≡ 256 = c.requires.form in
    let some : 0 < room f = omega (arith, r) in
    let i2 = two_inside f some in
    let p = c.place_of_byte-place.result in
    let x = c.args.item.first in
    let y = c.args.item.last in
    let is8 = wide_values f r c.if-form-lt5.false in
    let small : p < 256 = c.place_of_byte-place.ensures.small in
    let im = wide_mask f p r c.if-form-lt5.false small in
    let m = looks_mine _ _ _ n c.load-mask.ensures.looks c.requires.mine in
    m

pub store_item-requires-else-form-lt5-clause-tells : goal.store_item-requires-else-form-lt5-clause-tells
store_item-requires-else-form-lt5-clause-tells g c =
    λ e. tells_since c.args.item.first _ _ (c.requires.tells e) c.load-mask.ensures.looks.since

pub store-requires-else-form-lt5-clause-of : goal.store-requires-else-form-lt5-clause-of
store-requires-else-form-lt5-clause-of g c =
    c.store_item-else-form-lt5.ensures.of

pub store-requires-else-form-lt5-clause-at : goal.store-requires-else-form-lt5-clause-at
store-requires-else-form-lt5-clause-at g c =
    c.store_item-else-form-lt5.ensures.at

pub store-requires-else-form-lt5-clause-inside : goal.store-requires-else-form-lt5-clause-inside
store-requires-else-form-lt5-clause-inside g c =
    let n = c.args.node in
    let f = c.args.form in
    let v = c.args.hand.now.me.0 in
    let w = words_of v n in
    let r : room f ≡ 256 = c.requires.form in
    let some : 0 < room f = omega (arith, r) in
    let i2 = two_inside f some in
    let p = c.place_of_byte-place.result in
    let x = c.args.item.first in
    let y = c.args.item.last in
    let is8 = wide_values f r c.if-form-lt5.false in
    let small : p < 256 = c.place_of_byte-place.ensures.small in
    let im = wide_mask f p r c.if-form-lt5.false small in
    (omega arith, im)

pub store-requires-else-form-lt5-clause-mine : goal.store-requires-else-form-lt5-clause-mine
store-requires-else-form-lt5-clause-mine g c =
    let n = c.args.node in
    let f = c.args.form in
    let v = c.args.hand.now.me.0 in
    let w = words_of v n in
    let r : room f ≡ 256 = c.requires.form in
    let some : 0 < room f = omega (arith, r) in
    let i2 = two_inside f some in
    let p = c.place_of_byte-place.result in
    let x = c.args.item.first in
    let y = c.args.item.last in
    let is8 = wide_values f r c.if-form-lt5.false in
    let small : p < 256 = c.place_of_byte-place.ensures.small in
    let im = wide_mask f p r c.if-form-lt5.false small in
    let m = looks_mine _ _ _ n c.load-mask.ensures.looks c.requires.mine in
    let m2 = stays_mine n n _ _ c.store_item-else-form-lt5.ensures.stays m in
    m2

pub store-requires-else-form-lt5-clause-tells : goal.store-requires-else-form-lt5-clause-tells
store-requires-else-form-lt5-clause-tells g c =
    let n = c.args.node in
    let f = c.args.form in
    let v = c.args.hand.now.me.0 in
    let w = words_of v n in
    let r : room f ≡ 256 = c.requires.form in
    let some : 0 < room f = omega (arith, r) in
    let i2 = two_inside f some in
    let p = c.place_of_byte-place.result in
    let x = c.args.item.first in
    let y = c.args.item.last in
    let is8 = wide_values f r c.if-form-lt5.false in
    let small : p < 256 = c.place_of_byte-place.ensures.small in
    let im = wide_mask f p r c.if-form-lt5.false small in
    λ e. absurd (link_below f (2 + p / 64) some (subst (λ (z : ℕ). 2 + p / 64 < entries z) (sym is8) (omega (arith, small))) e)

pub returns-then-form-lt5-clause-of : goal.returns-then-form-lt5-clause-of
returns-then-form-lt5-clause-of g c =
    c.store.ensures.of

pub returns-then-form-lt5-clause-at : goal.returns-then-form-lt5-clause-at
returns-then-form-lt5-clause-at g c =
    c.store.ensures.at

pub returns-then-form-lt5-clause-stays : goal.returns-then-form-lt5-clause-stays
returns-then-form-lt5-clause-stays g c =
    let n = c.args.node in
    let f = c.args.form in
    let v = c.args.hand.now.me.0 in
    let w = words_of v n in
    let r : room f ≡ 256 = c.requires.form in
    let some : 0 < room f = omega (arith, r) in
    let i2 = two_inside f some in
    let p = c.place_of_byte-place.result in
    let x = c.args.item.first in
    let y = c.args.item.last in
    let is4 = wide_inner f r c.if-form-lt5.true in
    let m = looks_mine _ _ _ n c.count_with-more.ensures.looks c.requires.mine in
    let m2 = stays_mine n n _ _ c.store_item.ensures.stays m in
    stays_trans n _ _ _ (looks_stays _ n _ _ c.count_with-more.ensures.looks) (stays_trans n _ _ _ c.store_item.ensures.stays (stores_stays _ n f 2 _ _ _ c.store_item.ensures.at i2 m2 c.store.ensures.stored (omega arith)))

pub returns-then-form-lt5-clause-put : goal.returns-then-form-lt5-clause-put
returns-then-form-lt5-clause-put g c =
    let n = c.args.node in
    let f = c.args.form in
    let v = c.args.hand.now.me.0 in
    let w = words_of v n in
    let r : room f ≡ 256 = c.requires.form in
    let some : 0 < room f = omega (arith, r) in
    let i2 = two_inside f some in
    let p = c.place_of_byte-place.result in
    let x = c.args.item.first in
    let y = c.args.item.last in
    let is4 = wide_inner f r c.if-form-lt5.true in
    let m = looks_mine _ _ _ n c.count_with-more.ensures.looks c.requires.mine in
    let m2 = stays_mine n n _ _ c.store_item.ensures.stays m in
    let k = c.count_with-more.result in
    let same : Same f (words_of c.store.new.hand.me.0 n) (with_at (with_entry f w p x y) 2 k) = put_one f w (words_of c.count_with-more.new.hand.me.0 n) (words_of c.store_item.new.hand.me.0 n) (words_of c.store.new.hand.me.0 n) p x y 2 k
    (looks_agree _ n f _ _ c.requires.at c.requires.mine c.count_with-more.ensures.looks) c.store_item.ensures.words (stored_words _ n f 2 k _ _ c.store_item.ensures.at i2 m2 c.store.ensures.stored) in
    subst (λ (z : ℕ). Becomes z w (words_of c.store.new.hand.me.0 n) c.args.item.byte (put_first z x) y) (sym is4)
    (c.place_of_byte-place.ensures.put w (words_of c.store.new.hand.me.0 n) x y k (c.requires.some (is_inner_of f c.if-form-lt5.true)) (subst (λ (z : ℕ). Same z (words_of c.store.new.hand.me.0 n) (with_at (with_entry z w p x y) 2 k)) is4 same))

pub returns-else-form-lt5-clause-of : goal.returns-else-form-lt5-clause-of
returns-else-form-lt5-clause-of g c =
    c.store-else-form-lt5.ensures.of

pub returns-else-form-lt5-clause-at : goal.returns-else-form-lt5-clause-at
returns-else-form-lt5-clause-at g c =
    c.store-else-form-lt5.ensures.at

pub returns-else-form-lt5-clause-stays : goal.returns-else-form-lt5-clause-stays
returns-else-form-lt5-clause-stays g c =
    let n = c.args.node in
    let f = c.args.form in
    let v = c.args.hand.now.me.0 in
    let w = words_of v n in
    let r : room f ≡ 256 = c.requires.form in
    let some : 0 < room f = omega (arith, r) in
    let i2 = two_inside f some in
    let p = c.place_of_byte-place.result in
    let x = c.args.item.first in
    let y = c.args.item.last in
    let is8 = wide_values f r c.if-form-lt5.false in
    let small : p < 256 = c.place_of_byte-place.ensures.small in
    let im = wide_mask f p r c.if-form-lt5.false small in
    let m = looks_mine _ _ _ n c.load-mask.ensures.looks c.requires.mine in
    let m2 = stays_mine n n _ _ c.store_item-else-form-lt5.ensures.stays m in
    stays_trans n _ _ _ (looks_stays _ n _ _ c.load-mask.ensures.looks) (stays_trans n _ _ _ c.store_item-else-form-lt5.ensures.stays (stores_stays _ n f (2 + p / 64) c.put_byte-changed.result _ _ c.store_item-else-form-lt5.ensures.at im m2 c.store-else-form-lt5.ensures.stored (omega arith)))

pub returns-else-form-lt5-clause-put : goal.returns-else-form-lt5-clause-put
returns-else-form-lt5-clause-put g c =
    let n = c.args.node in
    let f = c.args.form in
    let v = c.args.hand.now.me.0 in
    let w = words_of v n in
    let r : room f ≡ 256 = c.requires.form in
    let some : 0 < room f = omega (arith, r) in
    let i2 = two_inside f some in
    let p = c.place_of_byte-place.result in
    let x = c.args.item.first in
    let y = c.args.item.last in
    let is8 = wide_values f r c.if-form-lt5.false in
    let small : p < 256 = c.place_of_byte-place.ensures.small in
    let im = wide_mask f p r c.if-form-lt5.false small in
    let m = looks_mine _ _ _ n c.load-mask.ensures.looks c.requires.mine in
    let m2 = stays_mine n n _ _ c.store_item-else-form-lt5.ensures.stays m in
    let k = c.put_byte-changed.result in
    let is : p ≡ c.args.item.byte = c.place_of_byte-place.ensures.place in
    let u = words_of c.store-else-form-lt5.new.hand.me.0 n in
    let same : Same f u (with_at (with_entry f w p x y) (2 + p / 64) k) = put_one f w (words_of c.load-mask.new.hand.me.0 n) (words_of c.store_item-else-form-lt5.new.hand.me.0 n) u p x y (2 + p / 64) k
    (looks_agree _ n f _ _ c.requires.at c.requires.mine c.load-mask.ensures.looks) c.store_item-else-form-lt5.ensures.words (stored_words _ n f (2 + p / 64) k _ _ c.store_item-else-form-lt5.ensures.at im m2 c.store-else-form-lt5.ensures.stored) in
    let found : w (2 + c.args.item.byte / 64) ≡ c.load-mask.result = ap (λ (z : ℕ). w (2 + z / 64)) (sym is) ∙ sym (c.load-mask.ensures.found ∙ looks_word _ n f (2 + p / 64) v c.load-mask.new.hand.me.0 c.requires.at c.requires.mine im c.load-mask.ensures.looks) in
    subst (λ (z : ℕ). Becomes z w u c.args.item.byte (put_first z x) y) (sym is8)
    (c.put_byte-changed.ensures w u x y found (subst (λ (z : ℕ). Same 8 u (with_at (with_entry 8 w z x y) (2 + z / 64) k)) is (subst (λ (z : ℕ). Same z u (with_at (with_entry z w p x y) (2 + p / 64) k)) is8 same)))

use Rattle.std.proofs.Common.{◌≡◌, ◌≢◌, ℕ, ◌+◌, ◌*◌, ◌/◌, ◌%◌, ◌<◌, ap, sym, ◌∙◌, subst, arith}
use Rattle.std.specs.Int.{bit_at}
use Rattle.optimistic.specs.Layout.{room, entries}
use Rattle.optimistic.specs.forms.Bytes.{with_at}
use Rattle.optimistic.specs.forms.Children.{taken_in, Becomes, Same}
use Rattle.optimistic.specs.Moves.{words_of}
use Rattle.optimistic.proofs.lemmas.MoveLemmas.{wide_mask, wide_taken, two_inside, looks_word, looks_mine, looks_stays, stays_trans, stores_stays, stored_words, link_below, is_values_of}
use Rattle.optimistic.proofs.lemmas.forms.PlaceLemmas.{entries_above}
use Rattle.optimistic.proofs.lemmas.MoveLemmas.{take_one, without_values, looks_agree, wide_inner, wide_values}
use Rattle.optimistic.specs.forms.Children.{without_entry}
use Rattle.optimistic.proofs.lemmas.forms.Maps.{child_none}
use Rattle.optimistic.proofs.lemmas.forms.FormLemmas.{wide_take, values_take}
use Rattle.optimistic.proofs.changes.take_wide.Goals as goal

pub load-count-requires-clause-of : goal.load-count-requires-clause-of
load-count-requires-clause-of g c =
    c.requires.of

pub load-count-requires-clause-at : goal.load-count-requires-clause-at
load-count-requires-clause-at g c =
    c.requires.at

pub load-count-requires-clause-inside : goal.load-count-requires-clause-inside
load-count-requires-clause-inside g c =
    let n = c.args.node in
    let f = c.args.form in
    let v = c.args.hand.now.me.0 in
    let w = words_of v n in
    let p = c.args.place in
    let r : room f ≡ 256 = c.requires.inside.1 in
    let some : 0 < room f = omega (arith, r) in
    let i2 = two_inside f some in
    i2

pub store-requires-clause-of : goal.store-requires-clause-of
store-requires-clause-of g c =
    c.load-count.ensures.of

pub store-requires-clause-at : goal.store-requires-clause-at
store-requires-clause-at g c =
    c.load-count.ensures.at

pub store-requires-clause-inside : goal.store-requires-clause-inside
store-requires-clause-inside g c =
    let n = c.args.node in
    let f = c.args.form in
    let v = c.args.hand.now.me.0 in
    let w = words_of v n in
    let p = c.args.place in
    let r : room f ≡ 256 = c.requires.inside.1 in
    let some : 0 < room f = omega (arith, r) in
    let i2 = two_inside f some in
    (omega arith, i2)

pub store-requires-clause-mine : goal.store-requires-clause-mine
store-requires-clause-mine g c =
    let n = c.args.node in
    let f = c.args.form in
    let v = c.args.hand.now.me.0 in
    let w = words_of v n in
    let p = c.args.place in
    let r : room f ≡ 256 = c.requires.inside.1 in
    let some : 0 < room f = omega (arith, r) in
    let i2 = two_inside f some in
    let is4 = wide_inner f r c.if-form-lt5.true in
    let m = looks_mine _ _ _ n c.load-count.ensures.looks c.requires.mine in
    m

pub store-requires-clause-tells : goal.store-requires-clause-tells
store-requires-clause-tells g c =
    let n = c.args.node in
    let f = c.args.form in
    let v = c.args.hand.now.me.0 in
    let w = words_of v n in
    let p = c.args.place in
    let r : room f ≡ 256 = c.requires.inside.1 in
    let some : 0 < room f = omega (arith, r) in
    let i2 = two_inside f some in
    λ e. absurd (link_below f 2 some (entries_above f some) e)

pub load-mask-requires-clause-of : goal.load-mask-requires-clause-of
load-mask-requires-clause-of g c =
    c.requires.of

pub load-mask-requires-clause-at : goal.load-mask-requires-clause-at
load-mask-requires-clause-at g c =
    c.requires.at

pub load-mask-requires-clause-inside : goal.load-mask-requires-clause-inside
load-mask-requires-clause-inside g c =
    let n = c.args.node in
    let f = c.args.form in
    let v = c.args.hand.now.me.0 in
    let w = words_of v n in
    let p = c.args.place in
    let r : room f ≡ 256 = c.requires.inside.1 in
    let some : 0 < room f = omega (arith, r) in
    let i2 = two_inside f some in
    let is8 = wide_values f r c.if-form-lt5.false in
    let im = wide_mask f p r c.if-form-lt5.false c.requires.inside.0 in
    im

pub without_bit-rest-requires : goal.without_bit-rest-requires
without_bit-rest-requires g c =
    omega arith

pub store-requires-else-form-lt5-clause-of : goal.store-requires-else-form-lt5-clause-of
store-requires-else-form-lt5-clause-of g c =
    c.load-mask.ensures.of

pub store-requires-else-form-lt5-clause-at : goal.store-requires-else-form-lt5-clause-at
store-requires-else-form-lt5-clause-at g c =
    c.load-mask.ensures.at

pub store-requires-else-form-lt5-clause-inside : goal.store-requires-else-form-lt5-clause-inside
store-requires-else-form-lt5-clause-inside g c =
    let n = c.args.node in
    let f = c.args.form in
    let v = c.args.hand.now.me.0 in
    let w = words_of v n in
    let p = c.args.place in
    let r : room f ≡ 256 = c.requires.inside.1 in
    let some : 0 < room f = omega (arith, r) in
    let i2 = two_inside f some in
    let is8 = wide_values f r c.if-form-lt5.false in
    let im = wide_mask f p r c.if-form-lt5.false c.requires.inside.0 in
    (omega arith, im)

pub store-requires-else-form-lt5-clause-mine : goal.store-requires-else-form-lt5-clause-mine
store-requires-else-form-lt5-clause-mine g c =
    let n = c.args.node in
    let f = c.args.form in
    let v = c.args.hand.now.me.0 in
    let w = words_of v n in
    let p = c.args.place in
    let r : room f ≡ 256 = c.requires.inside.1 in
    let some : 0 < room f = omega (arith, r) in
    let i2 = two_inside f some in
    let is8 = wide_values f r c.if-form-lt5.false in
    let im = wide_mask f p r c.if-form-lt5.false c.requires.inside.0 in
    let m = looks_mine _ _ _ n c.load-mask.ensures.looks c.requires.mine in
    m

pub store-requires-else-form-lt5-clause-tells : goal.store-requires-else-form-lt5-clause-tells
store-requires-else-form-lt5-clause-tells g c =
    let n = c.args.node in
    let f = c.args.form in
    let v = c.args.hand.now.me.0 in
    let w = words_of v n in
    let p = c.args.place in
    let r : room f ≡ 256 = c.requires.inside.1 in
    let some : 0 < room f = omega (arith, r) in
    let i2 = two_inside f some in
    let is8 = wide_values f r c.if-form-lt5.false in
    let im = wide_mask f p r c.if-form-lt5.false c.requires.inside.0 in
    let small : p < 256 = c.requires.inside.0 in
    λ e. absurd (link_below f (2 + p / 64) some (subst (λ (z : ℕ). 2 + p / 64 < entries z) (sym is8) (omega (arith, small))) e)

pub returns-then-form-lt5-clause-of : goal.returns-then-form-lt5-clause-of
returns-then-form-lt5-clause-of g c =
    c.store.ensures.of

pub returns-then-form-lt5-clause-at : goal.returns-then-form-lt5-clause-at
returns-then-form-lt5-clause-at g c =
    c.store.ensures.at

pub returns-then-form-lt5-clause-stays : goal.returns-then-form-lt5-clause-stays
returns-then-form-lt5-clause-stays g c =
    let n = c.args.node in
    let f = c.args.form in
    let v = c.args.hand.now.me.0 in
    let w = words_of v n in
    let p = c.args.place in
    let r : room f ≡ 256 = c.requires.inside.1 in
    let some : 0 < room f = omega (arith, r) in
    let i2 = two_inside f some in
    let is4 = wide_inner f r c.if-form-lt5.true in
    let m = looks_mine _ _ _ n c.load-count.ensures.looks c.requires.mine in
    stays_trans n _ _ _ (looks_stays _ n _ _ c.load-count.ensures.looks) (stores_stays _ n f 2 c.one_fewer-fewer.result _ _ c.load-count.ensures.at i2 m c.store.ensures.stored (omega arith))

pub returns-then-form-lt5-clause-gone : goal.returns-then-form-lt5-clause-gone
returns-then-form-lt5-clause-gone g c =
    let n = c.args.node in
    let f = c.args.form in
    let v = c.args.hand.now.me.0 in
    let w = words_of v n in
    let p = c.args.place in
    let r : room f ≡ 256 = c.requires.inside.1 in
    let some : 0 < room f = omega (arith, r) in
    let i2 = two_inside f some in
    let is4 = wide_inner f r c.if-form-lt5.true in
    let m = looks_mine _ _ _ n c.load-count.ensures.looks c.requires.mine in
    λ u same t.
    let k = c.one_fewer-fewer.result in
    let x = words_of c.store.new.hand.me.0 n in
    let written : Same f x (with_at (without_entry f u p) 2 k) = take_one f u w (words_of c.load-count.new.hand.me.0 n) x p 2 k same (looks_agree _ n f _ _ c.requires.at c.requires.mine c.load-count.ensures.looks) (stored_words _ n f 2 k _ _ c.load-count.ensures.at i2 m c.store.ensures.stored) in
    let some_word : u (8 + 2 * p) ≢ 0 = λ (z : u (8 + 2 * p) ≡ 0). absurd (omega (arith, child_none (λ (q : ℕ). u (8 + 2 * q)) p z, t, wide_taken f u p r c.if-form-lt5.true)) in
    subst (λ (z : ℕ). Becomes z u x p (λ key. 0) 0) (sym is4) (wide_take u x p k c.requires.inside.0 some_word (subst (λ (z : ℕ). Same z x (with_at (without_entry z u p) 2 k)) is4 written))

pub returns-else-form-lt5-clause-of : goal.returns-else-form-lt5-clause-of
returns-else-form-lt5-clause-of g c =
    c.store-else-form-lt5.ensures.of

pub returns-else-form-lt5-clause-at : goal.returns-else-form-lt5-clause-at
returns-else-form-lt5-clause-at g c =
    c.store-else-form-lt5.ensures.at

pub returns-else-form-lt5-clause-stays : goal.returns-else-form-lt5-clause-stays
returns-else-form-lt5-clause-stays g c =
    let n = c.args.node in
    let f = c.args.form in
    let v = c.args.hand.now.me.0 in
    let w = words_of v n in
    let p = c.args.place in
    let r : room f ≡ 256 = c.requires.inside.1 in
    let some : 0 < room f = omega (arith, r) in
    let i2 = two_inside f some in
    let is8 = wide_values f r c.if-form-lt5.false in
    let im = wide_mask f p r c.if-form-lt5.false c.requires.inside.0 in
    let m = looks_mine _ _ _ n c.load-mask.ensures.looks c.requires.mine in
    stays_trans n _ _ _ (looks_stays _ n _ _ c.load-mask.ensures.looks) (stores_stays _ n f (2 + p / 64) c.without_bit-rest.result _ _ c.load-mask.ensures.at im m c.store-else-form-lt5.ensures.stored (omega arith))

pub returns-else-form-lt5-clause-gone : goal.returns-else-form-lt5-clause-gone
returns-else-form-lt5-clause-gone g c =
    let n = c.args.node in
    let f = c.args.form in
    let v = c.args.hand.now.me.0 in
    let w = words_of v n in
    let p = c.args.place in
    let r : room f ≡ 256 = c.requires.inside.1 in
    let some : 0 < room f = omega (arith, r) in
    let i2 = two_inside f some in
    let is8 = wide_values f r c.if-form-lt5.false in
    let im = wide_mask f p r c.if-form-lt5.false c.requires.inside.0 in
    let m = looks_mine _ _ _ n c.load-mask.ensures.looks c.requires.mine in
    λ u same t.
    let k = c.without_bit-rest.result in
    let x = words_of c.store-else-form-lt5.new.hand.me.0 n in
    let values = is_values_of f c.if-form-lt5.false in
    let written : Same f x (with_at (without_entry f u p) (2 + p / 64) k) = take_one f u w (words_of c.load-mask.new.hand.me.0 n) x p (2 + p / 64) k same (looks_agree _ n f _ _ c.requires.at c.requires.mine c.load-mask.ensures.looks) (stored_words _ n f (2 + p / 64) k _ _ c.load-mask.ensures.at im m c.store-else-form-lt5.ensures.stored) in
    let mask : u (2 + p / 64) ≡ c.load-mask.result = sym (c.load-mask.ensures.found ∙ looks_word _ n f (2 + p / 64) _ _ c.requires.at c.requires.mine im c.load-mask.ensures.looks ∙ same (2 + p / 64) im ∙ without_values f u p (2 + p / 64) values) in
    subst (λ (z : ℕ). Becomes z u x p (λ key. 0) 0) (sym is8) (values_take u x p k c.requires.inside.0 (subst (λ (z : ℕ). taken_in z u p ≡ 1) is8 t)
    (λ i. c.without_bit-rest.ensures.bits i ∙ ap (λ (z : ℕ). with_at (bit_at z) (p % 64) 0 i) (sym mask)) (subst (λ (z : ℕ). Same z x (with_at (without_entry z u p) (2 + p / 64) k)) is8 written))

use Rattle.std.proofs.Common.{◌≡◌, ℕ, ◌<◌, ◌≤◌, true, ap, sym, ◌∙◌, subst, arith}
use Rattle.optimistic.specs.Layout.{room, width}
use Rattle.optimistic.specs.words.Kept.{has}
use Rattle.optimistic.specs.Moves.{words_of}
use Rattle.optimistic.proofs.lemmas.MoveLemmas.{wide_values, stays_trans, stays_mine, stores_stays, stored_words, no_child}
use Rattle.optimistic.proofs.lemmas.FillLemmas.{empty_values}
use Rattle.optimistic.proofs.fill.clear_masks.Goals as goal

small : (form j : ℕ) → room form ≡ 256 → 5 ≤ form → j < 8 → j < width form
unfolding width
small form j r l m = subst (λ (z : ℕ). j < width z) (sym (wide_values form r l)) (omega arith)

pub store-requires-clause-inside : goal.store-requires-clause-inside
store-requires-clause-inside g c = (omega arith, small c.args.form 2 c.requires.form.0 c.requires.form.1 (omega arith))

pub store-requires-2-clause-inside : goal.store-requires-2-clause-inside
store-requires-2-clause-inside g c = (omega arith, small c.args.form 3 c.requires.form.0 c.requires.form.1 (omega arith))

pub store-requires-3-clause-inside : goal.store-requires-3-clause-inside
store-requires-3-clause-inside g c = (omega arith, small c.args.form 4 c.requires.form.0 c.requires.form.1 (omega arith))

pub store-requires-4-clause-inside : goal.store-requires-4-clause-inside
store-requires-4-clause-inside g c = (omega arith, small c.args.form 5 c.requires.form.0 c.requires.form.1 (omega arith))

pub store-requires-clause-tells : goal.store-requires-clause-tells
store-requires-clause-tells g c = λ _. no_child _

pub store-requires-2-clause-tells : goal.store-requires-2-clause-tells
store-requires-2-clause-tells g c = λ _. no_child _

pub store-requires-3-clause-tells : goal.store-requires-3-clause-tells
store-requires-3-clause-tells g c = λ _. no_child _

pub store-requires-4-clause-tells : goal.store-requires-4-clause-tells
store-requires-4-clause-tells g c = λ _. no_child _

pub store-requires-2-clause-mine : goal.store-requires-2-clause-mine
store-requires-2-clause-mine g c = ap (λ l. has l c.args.node) c.store.ensures.stored.mine ∙ c.requires.mine

pub store-requires-3-clause-mine : goal.store-requires-3-clause-mine
store-requires-3-clause-mine g c = ap (λ l. has l c.args.node) c.store-2.ensures.stored.mine ∙ (ap (λ l. has l c.args.node) c.store.ensures.stored.mine ∙ c.requires.mine)

pub store-requires-4-clause-mine : goal.store-requires-4-clause-mine
store-requires-4-clause-mine g c = ap (λ l. has l c.args.node) c.store-3.ensures.stored.mine ∙ (ap (λ l. has l c.args.node) c.store-2.ensures.stored.mine ∙ (ap (λ l. has l c.args.node) c.store.ensures.stored.mine ∙ c.requires.mine))

pub returns-clause-stays : goal.returns-clause-stays
returns-clause-stays g c =
    let n = c.args.node in
    let f = c.args.form in
    let i = λ (j : ℕ) (m : j < 8). small f j c.requires.form.0 c.requires.form.1 m in
    let a = stores_stays _ n f 2 0 _ _ c.requires.at (i 2 (omega arith)) c.requires.mine c.store.ensures.stored (omega arith) in
    let b = stays_trans n _ _ _ a (stores_stays _ n f 3 0 _ _ c.store.ensures.at (i 3 (omega arith)) (stays_mine n n _ _ a c.requires.mine) c.store-2.ensures.stored (omega arith)) in
    let d = stays_trans n _ _ _ b (stores_stays _ n f 4 0 _ _ c.store-2.ensures.at (i 4 (omega arith)) (stays_mine n n _ _ b c.requires.mine) c.store-3.ensures.stored (omega arith)) in
    stays_trans n _ _ _ d (stores_stays _ n f 5 0 _ _ c.store-3.ensures.at (i 5 (omega arith)) (stays_mine n n _ _ d c.requires.mine) c.store-4.ensures.stored (omega arith))

pub returns-clause-empty : goal.returns-clause-empty
returns-clause-empty g c =
    let n = c.args.node in
    let f = c.args.form in
    let i = λ (j : ℕ) (m : j < 8). small f j c.requires.form.0 c.requires.form.1 m in
    let m1 : has c.store.new.hand.me.0.mine n ≡ true = ap (λ l. has l n) c.store.ensures.stored.mine ∙ c.requires.mine in
    let m2 : has c.store-2.new.hand.me.0.mine n ≡ true = ap (λ l. has l n) c.store-2.ensures.stored.mine ∙ m1 in
    let m3 : has c.store-3.new.hand.me.0.mine n ≡ true = ap (λ l. has l n) c.store-3.ensures.stored.mine ∙ m2 in
    let w1 = words_of c.store.new.hand.me.0 n in
    let w2 = words_of c.store-2.new.hand.me.0 n in
    let w3 = words_of c.store-3.new.hand.me.0 n in
    let s2 = stored_words _ n f 3 0 _ _ c.store.ensures.at (i 3 (omega arith)) m1 c.store-2.ensures.stored in
    let s3 = stored_words _ n f 4 0 _ _ c.store-2.ensures.at (i 4 (omega arith)) m2 c.store-3.ensures.stored in
    let s4 = stored_words _ n f 5 0 _ _ c.store-3.ensures.at (i 5 (omega arith)) m3 c.store-4.ensures.stored in
    let z1 : w1 2 ≡ 0 = c.store.ensures.stored.here in
    let z2 : w2 3 ≡ 0 = c.store-2.ensures.stored.here in
    let z3 : w3 4 ≡ 0 = c.store-3.ensures.stored.here in
    empty_values f (words_of c.store-4.new.hand.me.0 n) c.requires.form.0 c.requires.form.1
    (s4 2 (i 2 (omega arith)) ∙ s3 2 (i 2 (omega arith)) ∙ s2 2 (i 2 (omega arith)) ∙ z1)
    (s4 3 (i 3 (omega arith)) ∙ s3 3 (i 3 (omega arith)) ∙ z2)
    (s4 4 (i 4 (omega arith)) ∙ z3)
    c.store-4.ensures.stored.here

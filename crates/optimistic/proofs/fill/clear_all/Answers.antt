use Rattle.std.proofs.Common.{◌≡◌, arith}
use Rattle.optimistic.specs.Layout.{room}
use Rattle.optimistic.specs.Moves.{words_of}
use Rattle.optimistic.proofs.lemmas.forms.PlaceLemmas.{entries_sixteen, entries_forty_eight}
use Rattle.optimistic.proofs.lemmas.MoveLemmas.{wide_room, two_inside, below_inside, stays_trans, stays_mine, stores_stays, stored_words, no_child}
use Rattle.optimistic.proofs.lemmas.FillLemmas.{empty_four, empty_sixteen, empty_forty_eight}
use Rattle.optimistic.proofs.fill.clear_all.Goals as goal

pub store-requires-clause-inside : goal.store-requires-clause-inside
store-requires-clause-inside g c = (omega arith, two_inside c.args.form c.requires.form)

pub store-requires-in-16-clause-inside : goal.store-requires-in-16-clause-inside
store-requires-in-16-clause-inside g c = let r : room c.args.form ≡ 16 = omega (arith, c.room_of.ensures) in (omega arith, below_inside c.args.form 4 c.requires.form (omega (arith, entries_sixteen c.args.form r)))

pub store-requires-in-48-clause-inside : goal.store-requires-in-48-clause-inside
store-requires-in-48-clause-inside g c = let r : room c.args.form ≡ 48 = omega (arith, c.room_of.ensures) in (omega arith, below_inside c.args.form 8 c.requires.form (omega (arith, entries_forty_eight c.args.form r)))

pub store-requires-clause-mine : goal.store-requires-clause-mine
store-requires-clause-mine g c = stays_mine c.args.node c.args.node _ _ c.clear_children.ensures.stays c.requires.mine

pub store-requires-in-16-clause-mine : goal.store-requires-in-16-clause-mine
store-requires-in-16-clause-mine g c = stays_mine c.args.node c.args.node _ _ c.clear_children.ensures.stays c.requires.mine

pub store-requires-in-48-clause-mine : goal.store-requires-in-48-clause-mine
store-requires-in-48-clause-mine g c = stays_mine c.args.node c.args.node _ _ c.clear_children.ensures.stays c.requires.mine

pub store-requires-clause-tells : goal.store-requires-clause-tells
store-requires-clause-tells g c = λ _. no_child _

pub store-requires-in-16-clause-tells : goal.store-requires-in-16-clause-tells
store-requires-in-16-clause-tells g c = λ _. no_child _

pub store-requires-in-48-clause-tells : goal.store-requires-in-48-clause-tells
store-requires-in-48-clause-tells g c = λ _. no_child _

pub clear_bytes-requires-clause-form : goal.clear_bytes-requires-clause-form
clear_bytes-requires-clause-form g c = wide_room c.args.form c.requires.form (λ (e : room c.args.form ≡ 4). absurd (omega (arith, e, c.room_of.ensures))) (λ (e : room c.args.form ≡ 16). absurd (omega (arith, e, c.room_of.ensures)))
    (λ (e : room c.args.form ≡ 48). absurd (omega (arith, e, c.room_of.ensures)))

pub clear_bytes-requires-clause-mine : goal.clear_bytes-requires-clause-mine
clear_bytes-requires-clause-mine g c = stays_mine c.args.node c.args.node _ _ c.clear_children.ensures.stays c.requires.mine

pub clear_bytes-requires-clause-cleared : goal.clear_bytes-requires-clause-cleared
clear_bytes-requires-clause-cleared g c = c.clear_children.ensures.cleared

pub returns-in-4-clause-stays : goal.returns-in-4-clause-stays
returns-in-4-clause-stays g c =
    let n = c.args.node in
    stays_trans n _ _ _ c.clear_children.ensures.stays (stores_stays _ n c.args.form 2 0 _ _ c.clear_children.ensures.at (two_inside c.args.form c.requires.form) (stays_mine n n _ _ c.clear_children.ensures.stays c.requires.mine) c.store.ensures.stored (omega arith))

pub returns-in-4-clause-empty : goal.returns-in-4-clause-empty
returns-in-4-clause-empty g c =
    let n = c.args.node in
    let r : room c.args.form ≡ 4 = omega (arith, c.room_of.ensures) in
    empty_four c.args.form (words_of c.clear_children.new.hand.me.0 n) (words_of c.store.new.hand.me.0 n) c.clear_children.ensures.cleared r
    (stored_words _ n c.args.form 2 0 _ _ c.clear_children.ensures.at (two_inside c.args.form c.requires.form) (stays_mine n n _ _ c.clear_children.ensures.stays c.requires.mine) c.store.ensures.stored)

pub returns-in-16-clause-stays : goal.returns-in-16-clause-stays
returns-in-16-clause-stays g c =
    let n = c.args.node in
    let r : room c.args.form ≡ 16 = omega (arith, c.room_of.ensures) in
    let i = below_inside c.args.form 4 c.requires.form (omega (arith, entries_sixteen c.args.form r)) in
    stays_trans n _ _ _ c.clear_children.ensures.stays (stores_stays _ n c.args.form 4 0 _ _ c.clear_children.ensures.at i (stays_mine n n _ _ c.clear_children.ensures.stays c.requires.mine) c.store-in-16.ensures.stored (omega arith))

pub returns-in-16-clause-empty : goal.returns-in-16-clause-empty
returns-in-16-clause-empty g c =
    let n = c.args.node in
    let r : room c.args.form ≡ 16 = omega (arith, c.room_of.ensures) in
    let i = below_inside c.args.form 4 c.requires.form (omega (arith, entries_sixteen c.args.form r)) in
    empty_sixteen c.args.form (words_of c.clear_children.new.hand.me.0 n) (words_of c.store-in-16.new.hand.me.0 n) c.clear_children.ensures.cleared r
    (stored_words _ n c.args.form 4 0 _ _ c.clear_children.ensures.at i (stays_mine n n _ _ c.clear_children.ensures.stays c.requires.mine) c.store-in-16.ensures.stored)

pub returns-in-48-clause-stays : goal.returns-in-48-clause-stays
returns-in-48-clause-stays g c =
    let n = c.args.node in
    let r : room c.args.form ≡ 48 = omega (arith, c.room_of.ensures) in
    let i = below_inside c.args.form 8 c.requires.form (omega (arith, entries_forty_eight c.args.form r)) in
    stays_trans n _ _ _ c.clear_children.ensures.stays (stores_stays _ n c.args.form 8 0 _ _ c.clear_children.ensures.at i (stays_mine n n _ _ c.clear_children.ensures.stays c.requires.mine) c.store-in-48.ensures.stored (omega arith))

pub returns-in-48-clause-empty : goal.returns-in-48-clause-empty
returns-in-48-clause-empty g c =
    let n = c.args.node in
    let r : room c.args.form ≡ 48 = omega (arith, c.room_of.ensures) in
    let i = below_inside c.args.form 8 c.requires.form (omega (arith, entries_forty_eight c.args.form r)) in
    empty_forty_eight c.args.form (words_of c.clear_children.new.hand.me.0 n) (words_of c.store-in-48.new.hand.me.0 n) c.clear_children.ensures.cleared r
    (stored_words _ n c.args.form 8 0 _ _ c.clear_children.ensures.at i (stays_mine n n _ _ c.clear_children.ensures.stays c.requires.mine) c.store-in-48.ensures.stored)

pub returns-in_default-clause-stays : goal.returns-in_default-clause-stays
returns-in_default-clause-stays g c = stays_trans c.args.node _ _ _ c.clear_children.ensures.stays c.clear_bytes.ensures.stays

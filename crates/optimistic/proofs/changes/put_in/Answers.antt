use Rattle.std.proofs.Common.{◌≡◌, arith}
use Rattle.optimistic.specs.Layout.{room}
use Rattle.optimistic.proofs.lemmas.MoveLemmas.{wide_room}
use Rattle.optimistic.proofs.changes.put_in.Goals as goal

pub put_in_four-requires-clause-of : goal.put_in_four-requires-clause-of
put_in_four-requires-clause-of g c =
    c.requires.of

pub put_in_four-requires-clause-at : goal.put_in_four-requires-clause-at
put_in_four-requires-clause-at g c =
    c.requires.at

pub put_in_four-requires-clause-form : goal.put_in_four-requires-clause-form
put_in_four-requires-clause-form g c =
    let r : room c.args.form ≡ 4 = omega (arith, c.room_of.ensures) in r

pub put_in_four-requires-clause-mine : goal.put_in_four-requires-clause-mine
put_in_four-requires-clause-mine g c =
    c.requires.mine

pub put_in_four-requires-clause-words : goal.put_in_four-requires-clause-words
put_in_four-requires-clause-words g c =
    c.requires.words

pub put_in_four-requires-clause-some : goal.put_in_four-requires-clause-some
put_in_four-requires-clause-some g c =
    c.requires.some

pub put_in_four-requires-clause-tells : goal.put_in_four-requires-clause-tells
put_in_four-requires-clause-tells g c =
    c.requires.tells

pub returns-in-4-clause-of : goal.returns-in-4-clause-of
returns-in-4-clause-of g c =
    c.put_in_four.ensures.of

pub returns-in-4-clause-at : goal.returns-in-4-clause-at
returns-in-4-clause-at g c =
    c.put_in_four.ensures.at

pub returns-in-4-clause-stays : goal.returns-in-4-clause-stays
returns-in-4-clause-stays g c =
    c.put_in_four.ensures.stays

pub returns-in-4-clause-put : goal.returns-in-4-clause-put
returns-in-4-clause-put g c =
    c.put_in_four.ensures.put

pub put_in_sixteen-requires-clause-of : goal.put_in_sixteen-requires-clause-of
put_in_sixteen-requires-clause-of g c =
    c.requires.of

pub put_in_sixteen-requires-clause-at : goal.put_in_sixteen-requires-clause-at
put_in_sixteen-requires-clause-at g c =
    c.requires.at

pub put_in_sixteen-requires-clause-form : goal.put_in_sixteen-requires-clause-form
put_in_sixteen-requires-clause-form g c =
    let r : room c.args.form ≡ 16 = omega (arith, c.room_of.ensures) in r

pub put_in_sixteen-requires-clause-mine : goal.put_in_sixteen-requires-clause-mine
put_in_sixteen-requires-clause-mine g c =
    c.requires.mine

pub put_in_sixteen-requires-clause-words : goal.put_in_sixteen-requires-clause-words
put_in_sixteen-requires-clause-words g c =
    c.requires.words

pub put_in_sixteen-requires-clause-some : goal.put_in_sixteen-requires-clause-some
put_in_sixteen-requires-clause-some g c =
    c.requires.some

pub put_in_sixteen-requires-clause-tells : goal.put_in_sixteen-requires-clause-tells
put_in_sixteen-requires-clause-tells g c =
    c.requires.tells

pub returns-in-16-clause-of : goal.returns-in-16-clause-of
returns-in-16-clause-of g c =
    c.put_in_sixteen.ensures.of

pub returns-in-16-clause-at : goal.returns-in-16-clause-at
returns-in-16-clause-at g c =
    c.put_in_sixteen.ensures.at

pub returns-in-16-clause-stays : goal.returns-in-16-clause-stays
returns-in-16-clause-stays g c =
    c.put_in_sixteen.ensures.stays

pub returns-in-16-clause-put : goal.returns-in-16-clause-put
returns-in-16-clause-put g c =
    c.put_in_sixteen.ensures.put

pub put_in_forty_eight-requires-clause-of : goal.put_in_forty_eight-requires-clause-of
put_in_forty_eight-requires-clause-of g c =
    c.requires.of

pub put_in_forty_eight-requires-clause-at : goal.put_in_forty_eight-requires-clause-at
put_in_forty_eight-requires-clause-at g c =
    c.requires.at

pub put_in_forty_eight-requires-clause-form : goal.put_in_forty_eight-requires-clause-form
put_in_forty_eight-requires-clause-form g c =
    let r : room c.args.form ≡ 48 = omega (arith, c.room_of.ensures) in r

pub put_in_forty_eight-requires-clause-mine : goal.put_in_forty_eight-requires-clause-mine
put_in_forty_eight-requires-clause-mine g c =
    c.requires.mine

pub put_in_forty_eight-requires-clause-words : goal.put_in_forty_eight-requires-clause-words
put_in_forty_eight-requires-clause-words g c =
    c.requires.words

pub put_in_forty_eight-requires-clause-some : goal.put_in_forty_eight-requires-clause-some
put_in_forty_eight-requires-clause-some g c =
    c.requires.some

pub put_in_forty_eight-requires-clause-tells : goal.put_in_forty_eight-requires-clause-tells
put_in_forty_eight-requires-clause-tells g c =
    c.requires.tells

pub returns-in-48-clause-of : goal.returns-in-48-clause-of
returns-in-48-clause-of g c =
    c.put_in_forty_eight.ensures.of

pub returns-in-48-clause-at : goal.returns-in-48-clause-at
returns-in-48-clause-at g c =
    c.put_in_forty_eight.ensures.at

pub returns-in-48-clause-stays : goal.returns-in-48-clause-stays
returns-in-48-clause-stays g c =
    c.put_in_forty_eight.ensures.stays

pub returns-in-48-clause-put : goal.returns-in-48-clause-put
returns-in-48-clause-put g c =
    c.put_in_forty_eight.ensures.put

pub put_in_wide-requires-clause-of : goal.put_in_wide-requires-clause-of
put_in_wide-requires-clause-of g c =
    c.requires.of

pub put_in_wide-requires-clause-at : goal.put_in_wide-requires-clause-at
put_in_wide-requires-clause-at g c =
    c.requires.at

pub put_in_wide-requires-clause-mine : goal.put_in_wide-requires-clause-mine
put_in_wide-requires-clause-mine g c =
    c.requires.mine

pub put_in_wide-requires-clause-some : goal.put_in_wide-requires-clause-some
put_in_wide-requires-clause-some g c =
    c.requires.some

pub put_in_wide-requires-clause-tells : goal.put_in_wide-requires-clause-tells
put_in_wide-requires-clause-tells g c =
    c.requires.tells

pub put_in_wide-requires-clause-form : goal.put_in_wide-requires-clause-form
put_in_wide-requires-clause-form g c =
    wide_room c.args.form c.requires.form (λ (e : room c.args.form ≡ 4). absurd (omega (arith, e, c.room_of.ensures))) (λ (e : room c.args.form ≡ 16). absurd (omega (arith, e, c.room_of.ensures))) (λ (e : room c.args.form ≡ 48). absurd (omega (arith, e, c.room_of.ensures)))

pub returns-in_default-clause-of : goal.returns-in_default-clause-of
returns-in_default-clause-of g c =
    c.put_in_wide.ensures.of

pub returns-in_default-clause-at : goal.returns-in_default-clause-at
returns-in_default-clause-at g c =
    c.put_in_wide.ensures.at

pub returns-in_default-clause-stays : goal.returns-in_default-clause-stays
returns-in_default-clause-stays g c =
    c.put_in_wide.ensures.stays

pub returns-in_default-clause-put : goal.returns-in_default-clause-put
returns-in_default-clause-put g c =
    c.put_in_wide.ensures.put

use Rattle.std.proofs.Common.{◌≡◌, ◌<◌, sym, ◌∙◌, refl, arith}
use Rattle.optimistic.specs.Layout.{room}
use Rattle.optimistic.specs.Moves.{words_of}
use Rattle.optimistic.proofs.lemmas.forms.PlaceLemmas.{entries_sixteen}
use Rattle.optimistic.proofs.lemmas.MoveLemmas.{wide_room, two_inside, below_inside, looks_word, looks_trans, looks_stays, stays_refl}
use Rattle.optimistic.proofs.lemmas.MoveLemmas.{wide_found, looks_agree}
use Rattle.optimistic.proofs.changes.find_place.Goals as goal

pub load-word-requires-clause-of : goal.load-word-requires-clause-of
load-word-requires-clause-of g c =
    c.requires.of

pub load-word-requires-clause-at : goal.load-word-requires-clause-at
load-word-requires-clause-at g c =
    c.requires.at

pub load-word-requires-clause-inside : goal.load-word-requires-clause-inside
load-word-requires-clause-inside g c =
    two_inside c.args.form c.requires.form

pub load-a-requires-clause-of : goal.load-a-requires-clause-of
load-a-requires-clause-of g c =
    c.requires.of

pub load-a-requires-clause-at : goal.load-a-requires-clause-at
load-a-requires-clause-at g c =
    c.requires.at

pub load-a-requires-clause-inside : goal.load-a-requires-clause-inside
load-a-requires-clause-inside g c =
    two_inside c.args.form c.requires.form

pub load-b-requires-clause-of : goal.load-b-requires-clause-of
load-b-requires-clause-of g c =
    c.load-a.ensures.of

pub load-b-requires-clause-at : goal.load-b-requires-clause-at
load-b-requires-clause-at g c =
    c.load-a.ensures.at

pub load-b-requires-clause-inside : goal.load-b-requires-clause-inside
load-b-requires-clause-inside g c =
    let n = c.args.node in
    let f = c.args.form in
    let v = c.args.hand.now.me.0 in
    let w = words_of v n in
    let r : room f ≡ 16 = omega (arith, c.room_of.ensures) in
    let some : 0 < room f = omega (arith, r) in
    let en = entries_sixteen f r in
    let i2 = below_inside f 2 some (omega (arith, en)) in
    let i3 = below_inside f 3 some (omega (arith, en)) in
    i3

pub find_among_forty_eight-requires-clause-of : goal.find_among_forty_eight-requires-clause-of
find_among_forty_eight-requires-clause-of g c =
    c.requires.of

pub find_among_forty_eight-requires-clause-at : goal.find_among_forty_eight-requires-clause-at
find_among_forty_eight-requires-clause-at g c =
    c.requires.at

pub find_among_forty_eight-requires-clause-form : goal.find_among_forty_eight-requires-clause-form
find_among_forty_eight-requires-clause-form g c =
    let n = c.args.node in
    let f = c.args.form in
    let v = c.args.hand.now.me.0 in
    let w = words_of v n in
    let r : room f ≡ 48 = omega (arith, c.room_of.ensures) in
    let some : 0 < room f = omega (arith, r) in
    r

pub find_among_forty_eight-requires-clause-mine : goal.find_among_forty_eight-requires-clause-mine
find_among_forty_eight-requires-clause-mine g c =
    c.requires.mine

pub find_among_forty_eight-requires-clause-words : goal.find_among_forty_eight-requires-clause-words
find_among_forty_eight-requires-clause-words g c =
    c.requires.words

pub returns-in-4-clause-of : goal.returns-in-4-clause-of
returns-in-4-clause-of g c =
    c.load-word.ensures.of

pub returns-in-4-clause-at : goal.returns-in-4-clause-at
returns-in-4-clause-at g c =
    c.load-word.ensures.at

pub returns-in-4-clause-stays : goal.returns-in-4-clause-stays
returns-in-4-clause-stays g c =
    looks_stays _ c.args.node _ _ c.load-word.ensures.looks

pub returns-in-4-clause-same : goal.returns-in-4-clause-same
returns-in-4-clause-same g c =
    looks_agree _ c.args.node c.args.form _ _ c.requires.at c.requires.mine c.load-word.ensures.looks

pub returns-in-4-clause-finds : goal.returns-in-4-clause-finds
returns-in-4-clause-finds g c =
    let n = c.args.node in
    let f = c.args.form in
    let v = c.args.hand.now.me.0 in
    let w = words_of v n in
    let r : room f ≡ 4 = omega (arith, c.room_of.ensures) in
    let some : 0 < room f = omega (arith, r) in
    c.find_four.ensures.finds f w r (sym (c.load-word.ensures.found ∙ looks_word _ n f 2 v c.load-word.new.hand.me.0 c.requires.at c.requires.mine (two_inside f some) c.load-word.ensures.looks)) c.requires.words

pub returns-in-16-clause-of : goal.returns-in-16-clause-of
returns-in-16-clause-of g c =
    c.load-b.ensures.of

pub returns-in-16-clause-at : goal.returns-in-16-clause-at
returns-in-16-clause-at g c =
    c.load-b.ensures.at

pub returns-in-16-clause-stays : goal.returns-in-16-clause-stays
returns-in-16-clause-stays g c =
    looks_stays _ c.args.node _ _ (looks_trans _ _ _ _ c.load-a.ensures.looks c.load-b.ensures.looks)

pub returns-in-16-clause-same : goal.returns-in-16-clause-same
returns-in-16-clause-same g c =
    looks_agree _ c.args.node c.args.form _ _ c.requires.at c.requires.mine (looks_trans _ _ _ _ c.load-a.ensures.looks c.load-b.ensures.looks)

pub returns-in-16-clause-finds : goal.returns-in-16-clause-finds
returns-in-16-clause-finds g c =
    let n = c.args.node in
    let f = c.args.form in
    let v = c.args.hand.now.me.0 in
    let w = words_of v n in
    let r : room f ≡ 16 = omega (arith, c.room_of.ensures) in
    let some : 0 < room f = omega (arith, r) in
    let en = entries_sixteen f r in
    let i2 = below_inside f 2 some (omega (arith, en)) in
    let i3 = below_inside f 3 some (omega (arith, en)) in
    let k1 = c.load-a.ensures.looks in
    let k2 = looks_trans _ _ _ _ k1 c.load-b.ensures.looks in
    c.find_sixteen.ensures.finds f w r (sym (c.load-a.ensures.found ∙ looks_word _ n f 2 v c.load-a.new.hand.me.0 c.requires.at c.requires.mine i2 k1)) (sym (c.load-b.ensures.found ∙ looks_word _ n f 3 v c.load-b.new.hand.me.0 c.requires.at c.requires.mine i3 k2)) c.requires.words

pub returns-in-48-clause-of : goal.returns-in-48-clause-of
returns-in-48-clause-of g c =
    c.find_among_forty_eight.ensures.of

pub returns-in-48-clause-at : goal.returns-in-48-clause-at
returns-in-48-clause-at g c =
    c.find_among_forty_eight.ensures.at

pub returns-in-48-clause-stays : goal.returns-in-48-clause-stays
returns-in-48-clause-stays g c =
    looks_stays _ c.args.node _ _ c.find_among_forty_eight.ensures.looks

pub returns-in-48-clause-same : goal.returns-in-48-clause-same
returns-in-48-clause-same g c =
    looks_agree _ c.args.node c.args.form _ _ c.requires.at c.requires.mine c.find_among_forty_eight.ensures.looks

pub returns-in_default-clause-of : goal.returns-in_default-clause-of
returns-in_default-clause-of g c =
    c.requires.of

pub returns-in_default-clause-at : goal.returns-in_default-clause-at
returns-in_default-clause-at g c =
    c.requires.at

pub returns-in_default-clause-stays : goal.returns-in_default-clause-stays
returns-in_default-clause-stays g c =
    stays_refl c.args.node _

pub returns-in_default-clause-same : goal.returns-in_default-clause-same
returns-in_default-clause-same g c =
    λ j l. refl

pub returns-in_default-clause-finds : goal.returns-in_default-clause-finds
returns-in_default-clause-finds g c =
    let n = c.args.node in
    let f = c.args.form in
    let v = c.args.hand.now.me.0 in
    let w = words_of v n in
    let r : room f ≡ 256 = wide_room f c.requires.form (λ (e : room f ≡ 4). absurd (omega (arith, e, c.room_of.ensures))) (λ (e : room f ≡ 16). absurd (omega (arith, e, c.room_of.ensures))) (λ (e : room f ≡ 48). absurd (omega (arith, e, c.room_of.ensures))) in
    wide_found f w c.args.byte c.place_of_byte.result r (c.place_of_byte.ensures.finds w) (c.place_of_byte.ensures.values w)

pub returns-in-48-clause-finds : goal.returns-in-48-clause-finds
returns-in-48-clause-finds g c =
    c.find_among_forty_eight.ensures.finds

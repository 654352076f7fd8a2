use Rattle.std.proofs.Common.{◌≡◌, ℕ, ◌+◌, ap, sym, ◌∙◌, arith}
use Rattle.std.specs.Int.{bit_at}
use Rattle.optimistic.specs.Layout.{room}
use Rattle.optimistic.specs.Moves.{words_of}
use Rattle.optimistic.proofs.lemmas.forms.PlaceLemmas.{taken_four, taken_sixteen, taken_forty_eight, entries_sixteen, entries_forty_eight}
use Rattle.optimistic.proofs.lemmas.MoveLemmas.{told_bit, wide_room, two_inside, below_inside, looks_word}
use Rattle.optimistic.proofs.moves.is_taken.Goals as goal

pub load-word-requires-clause-inside : goal.load-word-requires-clause-inside
load-word-requires-clause-inside g c = two_inside c.args.form (let l = c.requires.inside in omega arith)

pub load-mask-requires-clause-inside : goal.load-mask-requires-clause-inside
load-mask-requires-clause-inside g c = let r : room c.args.form ≡ 16 = omega (arith, c.room_of.ensures) in below_inside c.args.form 4 (omega (arith, r)) (omega (arith, entries_sixteen c.args.form r))

pub load-mask-requires-in-48-clause-inside : goal.load-mask-requires-in-48-clause-inside
load-mask-requires-in-48-clause-inside g c = let r : room c.args.form ≡ 48 = omega (arith, c.room_of.ensures) in below_inside c.args.form 8 (omega (arith, r)) (omega (arith, entries_forty_eight c.args.form r))

pub has_bit-requires : goal.has_bit-requires
has_bit-requires g c = let r : room c.args.form ≡ 4 = omega (arith, c.room_of.ensures) in let l = c.requires.inside in omega (arith, l, r)

pub has_bit-requires-in-16 : goal.has_bit-requires-in-16
has_bit-requires-in-16 g c = let r : room c.args.form ≡ 16 = omega (arith, c.room_of.ensures) in let l = c.requires.inside in omega (arith, l, r)

pub has_bit-requires-in-48 : goal.has_bit-requires-in-48
has_bit-requires-in-48 g c = let r : room c.args.form ≡ 48 = omega (arith, c.room_of.ensures) in let l = c.requires.inside in omega (arith, l, r)

pub is_taken_wide-requires-clause-inside : goal.is_taken_wide-requires-clause-inside
is_taken_wide-requires-clause-inside g c =
    let l = c.requires.inside in
    let r : room c.args.form ≡ 256 = wide_room c.args.form (omega (arith, l)) (λ (e : room c.args.form ≡ 4). absurd (omega (arith, e, c.room_of.ensures))) (λ (e : room c.args.form ≡ 16). absurd (omega (arith, e, c.room_of.ensures)))
    (λ (e : room c.args.form ≡ 48). absurd (omega (arith, e, c.room_of.ensures))) in
    (omega (arith, l, r), r)

pub returns-in-4-clause-taken : goal.returns-in-4-clause-taken
returns-in-4-clause-taken g c =
    let r : room c.args.form ≡ 4 = omega (arith, c.room_of.ensures) in
    let v = c.args.hand.now.me.0 in
    told_bit _ _ _ (ap (λ (x : ℕ). bit_at x (32 + c.args.place)) (c.load-word.ensures.found ∙ looks_word _ c.args.node c.args.form 2 v c.load-word.new.hand.me.0 c.requires.at c.requires.mine (two_inside c.args.form (omega (arith, r))) c.load-word.ensures.looks)
    ∙ sym (taken_four c.args.form (words_of v c.args.node) c.args.place r)) c.has_bit.ensures

pub returns-in-16-clause-taken : goal.returns-in-16-clause-taken
returns-in-16-clause-taken g c =
    let r : room c.args.form ≡ 16 = omega (arith, c.room_of.ensures) in
    let v = c.args.hand.now.me.0 in
    told_bit _ _ _ (ap (λ (x : ℕ). bit_at x c.args.place) (c.load-mask.ensures.found ∙ looks_word _ c.args.node c.args.form 4 v c.load-mask.new.hand.me.0 c.requires.at c.requires.mine
    (below_inside c.args.form 4 (omega (arith, r)) (omega (arith, entries_sixteen c.args.form r))) c.load-mask.ensures.looks)
    ∙ sym (taken_sixteen c.args.form (words_of v c.args.node) c.args.place r)) c.has_bit-in-16.ensures

pub returns-in-48-clause-taken : goal.returns-in-48-clause-taken
returns-in-48-clause-taken g c =
    let r : room c.args.form ≡ 48 = omega (arith, c.room_of.ensures) in
    let v = c.args.hand.now.me.0 in
    told_bit _ _ _ (ap (λ (x : ℕ). bit_at x c.args.place) (c.load-mask-in-48.ensures.found ∙ looks_word _ c.args.node c.args.form 8 v c.load-mask-in-48.new.hand.me.0 c.requires.at c.requires.mine
    (below_inside c.args.form 8 (omega (arith, r)) (omega (arith, entries_forty_eight c.args.form r))) c.load-mask-in-48.ensures.looks)
    ∙ sym (taken_forty_eight c.args.form (words_of v c.args.node) c.args.place r)) c.has_bit-in-48.ensures

pub load-word-requires-clause-of : goal.load-word-requires-clause-of
load-word-requires-clause-of g c = c.requires.of

pub load-word-requires-clause-at : goal.load-word-requires-clause-at
load-word-requires-clause-at g c = c.requires.at

pub load-mask-requires-clause-of : goal.load-mask-requires-clause-of
load-mask-requires-clause-of g c = c.requires.of

pub load-mask-requires-clause-at : goal.load-mask-requires-clause-at
load-mask-requires-clause-at g c = c.requires.at

pub load-mask-requires-in-48-clause-of : goal.load-mask-requires-in-48-clause-of
load-mask-requires-in-48-clause-of g c = c.requires.of

pub load-mask-requires-in-48-clause-at : goal.load-mask-requires-in-48-clause-at
load-mask-requires-in-48-clause-at g c = c.requires.at

pub is_taken_wide-requires-clause-of : goal.is_taken_wide-requires-clause-of
is_taken_wide-requires-clause-of g c = c.requires.of

pub is_taken_wide-requires-clause-at : goal.is_taken_wide-requires-clause-at
is_taken_wide-requires-clause-at g c = c.requires.at

pub is_taken_wide-requires-clause-mine : goal.is_taken_wide-requires-clause-mine
is_taken_wide-requires-clause-mine g c = c.requires.mine

pub returns-in-4-clause-of : goal.returns-in-4-clause-of
returns-in-4-clause-of g c = c.load-word.ensures.of

pub returns-in-4-clause-at : goal.returns-in-4-clause-at
returns-in-4-clause-at g c = c.load-word.ensures.at

pub returns-in-4-clause-looks : goal.returns-in-4-clause-looks
returns-in-4-clause-looks g c = c.load-word.ensures.looks

pub returns-in-16-clause-of : goal.returns-in-16-clause-of
returns-in-16-clause-of g c = c.load-mask.ensures.of

pub returns-in-16-clause-at : goal.returns-in-16-clause-at
returns-in-16-clause-at g c = c.load-mask.ensures.at

pub returns-in-16-clause-looks : goal.returns-in-16-clause-looks
returns-in-16-clause-looks g c = c.load-mask.ensures.looks

pub returns-in-48-clause-of : goal.returns-in-48-clause-of
returns-in-48-clause-of g c = c.load-mask-in-48.ensures.of

pub returns-in-48-clause-at : goal.returns-in-48-clause-at
returns-in-48-clause-at g c = c.load-mask-in-48.ensures.at

pub returns-in-48-clause-looks : goal.returns-in-48-clause-looks
returns-in-48-clause-looks g c = c.load-mask-in-48.ensures.looks

pub returns-in_default-clause-of : goal.returns-in_default-clause-of
returns-in_default-clause-of g c = c.is_taken_wide.ensures.of

pub returns-in_default-clause-at : goal.returns-in_default-clause-at
returns-in_default-clause-at g c = c.is_taken_wide.ensures.at

pub returns-in_default-clause-looks : goal.returns-in_default-clause-looks
returns-in_default-clause-looks g c = c.is_taken_wide.ensures.looks

pub returns-in_default-clause-taken : goal.returns-in_default-clause-taken
returns-in_default-clause-taken g c = c.is_taken_wide.ensures.taken

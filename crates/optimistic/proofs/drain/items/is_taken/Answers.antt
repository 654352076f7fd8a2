use Rattle.std.proofs.Common.{◌≡◌, ℕ, ◌+◌, ap, sym, ◌∙◌, arith}
use Rattle.std.specs.Int.{bit_at}
use Rattle.optimistic.specs.Layout.{room}
use Rattle.optimistic.specs.words.Last.{node_in}
use Rattle.optimistic.proofs.lemmas.forms.PlaceLemmas.{taken_four, entries_sixteen, entries_forty_eight}
use Rattle.optimistic.proofs.lemmas.MoveLemmas.{told_bit, two_inside, below_inside}
use Rattle.optimistic.proofs.drain.items.is_taken.Goals as goal

pub word-requires : goal.word-requires
word-requires c =
    let r : room c.args.form ≡ 4 = omega (arith, c.room_of.ensures) in
    let a = c.requires.at in
    omega (arith, a, two_inside c.args.form (omega (arith, r)))

pub word-requires-in-16 : goal.word-requires-in-16
word-requires-in-16 c =
    let r : room c.args.form ≡ 16 = omega (arith, c.room_of.ensures) in
    let a = c.requires.at in
    omega (arith, a, below_inside c.args.form 4 (omega (arith, r)) (omega (arith, entries_sixteen c.args.form r)))

pub word-requires-in-48 : goal.word-requires-in-48
word-requires-in-48 c =
    let r : room c.args.form ≡ 48 = omega (arith, c.room_of.ensures) in
    let a = c.requires.at in
    omega (arith, a, below_inside c.args.form 8 (omega (arith, r)) (omega (arith, entries_forty_eight c.args.form r)))

pub returns-in-4 : goal.returns-in-4
returns-in-4 c =
    let r : room c.args.form ≡ 4 = omega (arith, c.room_of.ensures) in
    told_bit _ _ _ (ap (λ (x : ℕ). bit_at x (32 + c.args.place)) c.word.ensures ∙ sym (taken_four c.args.form (node_in c.args.words.now c.args.node) c.args.place r)) c.has_bit.ensures

use Rattle.std.proofs.Common.{◌≡◌, arith}
use Rattle.optimistic.specs.Layout.{room}
use Rattle.optimistic.proofs.lemmas.MoveLemmas.{line_inside}
use Rattle.optimistic.proofs.drain.items.byte_of_place.Goals as goal

pub word-requires : goal.word-requires
word-requires c =
    let a = c.requires.at in
    omega (arith, a, line_inside c.args.form c.args.place c.requires.inside (λ (e : room c.args.form ≡ 256). let r = c.room_of.ensures in let d = c.if-room_of-eq256.false in absurd (omega (arith, e, r, d))))

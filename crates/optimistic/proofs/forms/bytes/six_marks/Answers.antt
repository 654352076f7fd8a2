use Rattle.std.proofs.Common.{[], ◌∷◌}
use Rattle.optimistic.specs.forms.Bytes.{key_of, IsMarked}
use Rattle.optimistic.proofs.lemmas.forms.ByteLemmas.{word_key, first_key}
use Rattle.optimistic.proofs.lemmas.forms.Marks.{same_marks}
use Rattle.optimistic.proofs.forms.bytes.six_marks.Goals as goal

pub returns : goal.returns
returns c =
    let ws = c.args.a ∷ c.args.b ∷ c.args.c ∷ c.args.d ∷ c.args.e ∷ c.args.f ∷ [] in
    let key = key_of ws in
    let x = c.args.byte in
    let one = same_marks key (first_key ws) c.word_marks.ensures in
    let two : IsMarked 1 16 key x c.beside-two.result = c.beside-two.ensures key x c.args.b one c.word_marks-2.ensures (word_key ws 1) in
    let three : IsMarked 1 24 key x c.beside-three.result = c.beside-three.ensures key x c.args.c two c.word_marks-3.ensures (word_key ws 2) in
    let four : IsMarked 1 32 key x c.beside-four.result = c.beside-four.ensures key x c.args.d three c.word_marks-4.ensures (word_key ws 3) in
    let five : IsMarked 1 40 key x c.beside-five.result = c.beside-five.ensures key x c.args.e four c.word_marks-5.ensures (word_key ws 4) in
    c.beside.ensures key x c.args.f five c.word_marks-6.ensures (word_key ws 5)

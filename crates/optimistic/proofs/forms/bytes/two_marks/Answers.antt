use Rattle.std.proofs.Common.{[], ◌∷◌}
use Rattle.optimistic.specs.forms.Bytes.{key_of}
use Rattle.optimistic.proofs.lemmas.forms.ByteLemmas.{word_key, first_key}
use Rattle.optimistic.proofs.lemmas.forms.Marks.{same_marks}
use Rattle.optimistic.proofs.forms.bytes.two_marks.Goals as goal

pub returns : goal.returns
returns c =
    let ws = c.args.a ∷ c.args.b ∷ [] in
    c.beside.ensures (key_of ws) c.args.byte c.args.b (same_marks (key_of ws) (first_key ws) c.word_marks.ensures) c.word_marks-2.ensures (word_key ws 1)

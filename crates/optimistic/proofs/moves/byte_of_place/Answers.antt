use Rattle.std.proofs.Common.{ℕ, ◌+◌, ◌/◌, ◌%◌, ap, sym, ◌∙◌}
use Rattle.optimistic.specs.forms.Bytes.{byte_of}
use Rattle.optimistic.specs.Moves.{words_of}
use Rattle.optimistic.proofs.lemmas.forms.PlaceLemmas.{byte_narrow}
use Rattle.optimistic.proofs.lemmas.MoveLemmas.{line_inside, looks_word}
use Rattle.optimistic.proofs.moves.byte_of_place.Goals as goal

pub load-word-requires-clause-of : goal.load-word-requires-clause-of
load-word-requires-clause-of g c = c.requires.of

pub load-word-requires-clause-at : goal.load-word-requires-clause-at
load-word-requires-clause-at g c = c.requires.at

pub load-word-requires-clause-inside : goal.load-word-requires-clause-inside
load-word-requires-clause-inside g c = line_inside c.args.form c.args.place c.requires.inside.0 c.requires.inside.1

pub returns-clause-of : goal.returns-clause-of
returns-clause-of g c = c.load-word.ensures.of

pub returns-clause-at : goal.returns-clause-at
returns-clause-at g c = c.load-word.ensures.at

pub returns-clause-looks : goal.returns-clause-looks
returns-clause-looks g c = c.load-word.ensures.looks

pub returns-clause-byte : goal.returns-clause-byte
returns-clause-byte g c =
    let v = c.args.hand.now.me.0 in
    c.byte_at.ensures ∙ ap (λ (x : ℕ). byte_of x (c.args.place % 8)) (c.load-word.ensures.found ∙ looks_word _ c.args.node c.args.form (2 + c.args.place / 8) v c.load-word.new.hand.me.0 c.requires.at c.requires.mine
    (line_inside c.args.form c.args.place c.requires.inside.0 c.requires.inside.1) c.load-word.ensures.looks)
    ∙ sym (byte_narrow c.args.form (words_of v c.args.node) c.args.place c.requires.inside.1)

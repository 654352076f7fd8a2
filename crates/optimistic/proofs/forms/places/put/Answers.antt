use Rattle.std.proofs.Common.{◌%◌, ap, sym, ◌∙◌}
use Rattle.std.specs.Int.{bit_at}
use Rattle.optimistic.specs.forms.Bytes.{byte_of, with_at}
use Rattle.optimistic.proofs.lemmas.forms.PlaceLemmas.{put_sixteen, put_forty_eight}
use Rattle.optimistic.proofs.forms.places.put.Goals as goal

pub returns-clause-sixteen : goal.returns-clause-sixteen
returns-clause-sixteen c form w w' x y sixteen e f is place some same =
    put_sixteen form w w' c.args.byte c.args.place c.with_byte.result c.with_bit.result is sixteen x y place some
    (λ q. c.with_byte.ensures q ∙ ap (λ z. with_at (byte_of z) (c.args.place % 8) c.args.byte q) (sym e)) (λ i. c.with_bit.ensures i ∙ ap (λ z. with_at (bit_at z) c.args.place 1 i) (sym f)) same

pub returns-clause-forty_eight : goal.returns-clause-forty_eight
returns-clause-forty_eight c form w w' x y wide e f is place some same =
    put_forty_eight form w w' c.args.byte c.args.place c.with_byte.result c.with_bit.result is wide x y place some
    (λ q. c.with_byte.ensures q ∙ ap (λ z. with_at (byte_of z) (c.args.place % 8) c.args.byte q) (sym e)) (λ i. c.with_bit.ensures i ∙ ap (λ z. with_at (bit_at z) c.args.place 1 i) (sym f)) same

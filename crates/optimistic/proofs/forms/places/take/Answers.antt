use Rattle.std.proofs.Common.{ap, sym, ◌∙◌, refl}
use Rattle.std.specs.Int.{bit_at}
use Rattle.optimistic.specs.forms.Bytes.{with_at}
use Rattle.optimistic.specs.forms.Children.{byte_in}
use Rattle.optimistic.proofs.lemmas.forms.PlaceLemmas.{take_sixteen, take_forty_eight}
use Rattle.optimistic.proofs.forms.places.take.Goals as goal

pub returns-clause-sixteen : goal.returns-clause-sixteen
returns-clause-sixteen c form w w' sixteen f is within was same =
    take_sixteen form w w' (byte_in form w c.args.place) c.args.place c.without_bit.result is sixteen within was refl (λ i. c.without_bit.ensures.bits i ∙ ap (λ z. with_at (bit_at z) c.args.place 0 i) (sym f)) same

pub returns-clause-forty_eight : goal.returns-clause-forty_eight
returns-clause-forty_eight c form w w' wide f is within was same =
    take_forty_eight form w w' (byte_in form w c.args.place) c.args.place c.without_bit.result is wide within was refl (λ i. c.without_bit.ensures.bits i ∙ ap (λ z. with_at (bit_at z) c.args.place 0 i) (sym f)) same

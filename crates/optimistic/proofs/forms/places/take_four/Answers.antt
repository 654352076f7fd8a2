use Rattle.std.proofs.Common.{◌+◌, ap, sym, ◌∙◌, refl}
use Rattle.std.specs.Int.{bit_at}
use Rattle.optimistic.specs.forms.Bytes.{byte_of, with_at}
use Rattle.optimistic.specs.forms.Children.{byte_in}
use Rattle.optimistic.proofs.lemmas.forms.BitsAt.{four_keys, four_takes}
use Rattle.optimistic.proofs.lemmas.forms.PlaceLemmas.{take_four_is}
use Rattle.optimistic.proofs.forms.places.take_four.Goals as goal

pub returns : goal.returns
returns c form w w' four e is was same =
    let word = c.args.word in
    let r = c.without_bit.result in
    let p = c.args.place in
    take_four_is form w w' (byte_in form w p) p r is four c.requires was refl
    (λ i l. four_keys word r p 0 i c.without_bit.ensures.bits l ∙ ap (λ z. byte_of z i) (sym e))
    (λ i. four_takes word r p 0 i c.without_bit.ensures.bits ∙ ap (λ z. with_at (λ q. bit_at z (32 + q)) p 0 i) (sym e))
    same

use Rattle.std.proofs.Common.{◌+◌, ap, sym, ◌∙◌}
use Rattle.std.specs.Int.{bit_at}
use Rattle.optimistic.specs.forms.Bytes.{byte_of, with_at}
use Rattle.optimistic.proofs.lemmas.forms.BitsAt.{four_keys, four_takes, four_bits}
use Rattle.optimistic.proofs.lemmas.forms.PlaceLemmas.{put_four_is}
use Rattle.optimistic.proofs.forms.places.put_four.Goals as goal

pub returns : goal.returns
returns c form w w' x y four e is place some same =
    let word = c.args.word in
    let v = c.with_byte.result in
    let r = c.with_bit.result in
    let p = c.args.place in
    let b = c.args.byte in
    put_four_is form w w' b p r is four x y place some
    (λ i l. four_keys v r p 1 i c.with_bit.ensures l ∙ c.with_byte.ensures i ∙ ap (λ z. with_at (byte_of z) p b i) (sym e))
    (λ i. four_takes v r p 1 i c.with_bit.ensures ∙ four_bits word v p b i 1 c.requires c.with_byte.ensures ∙ ap (λ z. with_at (λ q. bit_at z (32 + q)) p 1 i) (sym e))
    same

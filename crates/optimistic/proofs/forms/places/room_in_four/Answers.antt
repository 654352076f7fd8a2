use Rattle.std.proofs.Common.{◌+◌, ◌/◌, ap, sym, ◌∙◌}
use Rattle.std.specs.Int.{bit_at}
use Rattle.optimistic.specs.forms.Children.{byte_in}
use Rattle.optimistic.proofs.lemmas.forms.Scans.{shifted_bit}
use Rattle.optimistic.proofs.lemmas.forms.ChildLemmas.{room_of}
use Rattle.optimistic.proofs.lemmas.forms.PlaceLemmas.{lowest_four, taken_four}
use Rattle.optimistic.proofs.forms.places.room_in_four.Goals as goal

pub returns : goal.returns
returns c form w four e =
    room_of form w c.args.byte c.place_for.result (c.args.word / 4294967296) 4 four
    (λ i l. taken_four form w i four ∙ ap (λ z. bit_at z (32 + i)) e ∙ sym (shifted_bit c.args.word 32 i))
    (c.place_for.ensures (byte_in form w) c.args.byte (lowest_four form w c.args.byte c.find_four.result c.args.word four e c.find_four.ensures.lowest))

use Rattle.std.proofs.Common.{ap, ◌∙◌}
use Rattle.std.specs.Int.{bit_at}
use Rattle.optimistic.specs.forms.Children.{byte_in}
use Rattle.optimistic.proofs.lemmas.forms.ChildLemmas.{room_of}
use Rattle.optimistic.proofs.lemmas.forms.PlaceLemmas.{lowest_sixteen, taken_sixteen}
use Rattle.optimistic.proofs.forms.places.room_in_sixteen.Goals as goal

pub returns : goal.returns
returns c form w sixteen p2 p3 p4 =
    room_of form w c.args.byte c.place_for.result c.args.mask 16 sixteen
    (λ i l. taken_sixteen form w i sixteen ∙ ap (λ z. bit_at z i) p4)
    (c.place_for.ensures (byte_in form w) c.args.byte (lowest_sixteen form w c.args.byte c.find_sixteen.result c.args.a c.args.b sixteen p2 p3 c.find_sixteen.ensures.lowest))

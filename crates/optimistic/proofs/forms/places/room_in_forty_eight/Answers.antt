use Rattle.std.proofs.Common.{ap, ◌∙◌}
use Rattle.std.specs.Int.{bit_at}
use Rattle.optimistic.specs.forms.Children.{byte_in}
use Rattle.optimistic.proofs.lemmas.forms.ChildLemmas.{room_of}
use Rattle.optimistic.proofs.lemmas.forms.PlaceLemmas.{taken_forty_eight}
use Rattle.optimistic.proofs.forms.places.room_in_forty_eight.Goals as goal

pub returns : goal.returns
returns c form w b wide p8 low =
    room_of form w b c.place_for.result c.args.mask 48 wide (λ i l. taken_forty_eight form w i wide ∙ ap (λ z. bit_at z i) p8) (c.place_for.ensures (byte_in form w) b low)

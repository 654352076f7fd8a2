use Rattle.std.proofs.Common.{sym, subst, [], ◌∷◌}
use Rattle.optimistic.specs.forms.Bytes.{key_of, IsLowest}
use Rattle.optimistic.specs.forms.Children.{byte_in}
use Rattle.optimistic.proofs.lemmas.forms.ChildLemmas.{finds_is, inside_of}
use Rattle.optimistic.proofs.lemmas.forms.PlaceLemmas.{lowest_forty_eight}
use Rattle.optimistic.proofs.forms.places.find_forty_eight.Goals as goal

pub returns-clause-inside : goal.returns-clause-inside
returns-clause-inside c = inside_of 48 (key_of (c.args.a ∷ c.args.b ∷ c.args.c ∷ c.args.d ∷ c.args.e ∷ c.args.f ∷ [])) c.args.byte c.place_of_forty_eight.result c.place_of_forty_eight.ensures

pub returns-clause-finds : goal.returns-clause-finds
returns-clause-finds c form w wide p2 p3 p4 p5 p6 p7 is =
    finds_is form w c.args.byte is c.place_of_forty_eight.result
    (subst (λ n. IsLowest n (byte_in form w) c.args.byte c.place_of_forty_eight.result) (sym wide)
    (lowest_forty_eight form w c.args.byte c.place_of_forty_eight.result c.args.a c.args.b c.args.c c.args.d c.args.e c.args.f wide p2 p3 p4 p5 p6 p7 c.place_of_forty_eight.ensures))

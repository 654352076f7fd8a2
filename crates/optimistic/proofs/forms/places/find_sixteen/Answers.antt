use Rattle.std.proofs.Common.{sym, subst, [], ◌∷◌}
use Rattle.optimistic.specs.forms.Bytes.{key_of, IsLowest}
use Rattle.optimistic.specs.forms.Children.{byte_in}
use Rattle.optimistic.proofs.lemmas.forms.ChildLemmas.{finds_is, inside_of}
use Rattle.optimistic.proofs.lemmas.forms.PlaceLemmas.{lowest_sixteen}
use Rattle.optimistic.proofs.forms.places.find_sixteen.Goals as goal

pub returns-clause-inside : goal.returns-clause-inside
returns-clause-inside c = inside_of 16 (key_of (c.args.a ∷ c.args.b ∷ [])) c.args.byte c.place_of_sixteen.result c.place_of_sixteen.ensures

pub returns-clause-finds : goal.returns-clause-finds
returns-clause-finds c form w sixteen e f is =
    finds_is form w c.args.byte is c.place_of_sixteen.result
    (subst (λ n. IsLowest n (byte_in form w) c.args.byte c.place_of_sixteen.result) (sym sixteen) (lowest_sixteen form w c.args.byte c.place_of_sixteen.result c.args.a c.args.b sixteen e f c.place_of_sixteen.ensures))

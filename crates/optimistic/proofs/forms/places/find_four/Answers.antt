use Rattle.std.proofs.Common.{sym, subst}
use Rattle.optimistic.specs.forms.Bytes.{byte_of, IsLowest}
use Rattle.optimistic.specs.forms.Children.{byte_in}
use Rattle.optimistic.proofs.lemmas.forms.ChildLemmas.{finds_is, inside_of}
use Rattle.optimistic.proofs.lemmas.forms.PlaceLemmas.{lowest_four}
use Rattle.optimistic.proofs.forms.places.find_four.Goals as goal

pub returns-clause-inside : goal.returns-clause-inside
returns-clause-inside c = inside_of 4 (byte_of c.args.word) c.args.byte c.place_of_four.result c.place_of_four.ensures

pub returns-clause-finds : goal.returns-clause-finds
returns-clause-finds c form w four e is =
    finds_is form w c.args.byte is c.place_of_four.result (subst (λ n. IsLowest n (byte_in form w) c.args.byte c.place_of_four.result) (sym four) (lowest_four form w c.args.byte c.place_of_four.result c.args.word four e c.place_of_four.ensures))

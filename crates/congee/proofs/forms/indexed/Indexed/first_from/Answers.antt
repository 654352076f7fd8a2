use Rattle.std.proofs.Common.{◌≡◌, ℕ, ◌≤◌, None, get_or, subst, arith}
use Rattle.std.specs.FinMap as map
use Rattle.congee.specs.forms.Bytes.{IsFirst}
use Rattle.congee.specs.forms.Index.{place_of, indexed_map}
use Rattle.congee.proofs.lemmas.forms.IndexLemmas.{is_first, none_from}
use Rattle.congee.proofs.forms.indexed.Indexed.first_from.Goals as goal

pub returns-in-None : goal.returns-in-None
returns-in-None g c = subst (λ m. (b : ℕ) → c.args.from ≤ b → map.get m b ≡ None) c.self.view_is (none_from c.self.invariant c.args.from c.in-None.ensures)

pub returns-in-Some : goal.returns-in-Some
returns-in-Some g c =
    let found = c.in-Some.ensures in
    let first = is_first c.self.invariant c.args.from c.in-Some.byte c.index-as_slice-place.result (omega arith) found.0 found.1 found.2 in
    let child : get_or c.self.inside.children.items (place_of c.self.inside.index c.in-Some.byte) c.index-as_slice-place.result ≡ c.index-as_slice-place.result = cc (c.as_slice.ensures.value, c.index-as_slice-place.is, c.place.ensures) in
    subst (λ m. IsFirst m c.args.from c.in-Some.byte c.index-as_slice-place.result) c.self.view_is
    (subst (λ x. IsFirst (indexed_map c.self.inside.index c.self.inside.children.items) c.args.from c.in-Some.byte x) child first)

use Rattle.std.proofs.Common.{◌≢◌, sym, ap, ◌∙◌, arith}
use Rattle.std.specs.FinMap as map
use Rattle.congee.specs.forms.Index.{place_of}
use Rattle.congee.proofs.lemmas.forms.IndexLemmas.{get_blank, get_there}
use Rattle.congee.proofs.forms.indexed.Indexed.get_child.Goals as goal

pub returns-then-place-eq-EMPTY_MARKER : goal.returns-then-place-eq-EMPTY_MARKER
returns-then-place-eq-EMPTY_MARKER g c = sym (ap (λ m. map.get m c.args.byte) (sym c.self.view_is) ∙ get_blank c.self.invariant c.args.byte (omega arith) (omega (arith, c.place-place.ensures, c.if-place-eq-EMPTY_MARKER.true)))

pub returns : goal.returns
returns g c =
    let n : place_of c.self.inside.index c.args.byte ≢ 48 = omega (arith, c.place-place.ensures, c.if-place-eq-EMPTY_MARKER.false) in
    let e = get_there c.self.invariant c.args.byte c.index-as_slice-place.result (omega arith) n in
    cc (e, c.self.view_is, c.index-as_slice-place.is, c.as_slice.ensures.value, c.place-place.ensures)

use Rattle.std.proofs.Common.{◌≢◌, sym, ap, ◌∙◌, refl, arith}
use Rattle.std.specs.FinMap as map
use Rattle.congee.specs.forms.Mask.{bit_of}
use Rattle.congee.proofs.lemmas.forms.MaskLemmas.{get_there, get_none}
use Rattle.congee.proofs.forms.masked.Masked.get_child.Goals as goal

pub returns-then-has : goal.returns-then-has
returns-then-has g c =
    let e = get_there c.self.invariant c.args.byte c.index-as_slice-byte.result (omega arith) (c.if-has.ensures.0 refl) in
    cc (e, c.self.view_is, c.index-as_slice-byte.is, c.as_slice.ensures.value)

pub returns-else-has : goal.returns-else-has
returns-else-has g c =
    let n : bit_of c.self.inside.mask.bytes c.args.byte ≢ 1 = λ e. absurd (cc (c.if-has.ensures.1 e)) in
    sym (ap (λ m. map.get m c.args.byte) (sym c.self.view_is) ∙ get_none c.self.invariant c.args.byte n)

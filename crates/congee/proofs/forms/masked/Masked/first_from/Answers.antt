use Rattle.std.proofs.Common.{◌≡◌, ℕ, ◌≤◌, None, get_or, subst, arith}
use Rattle.std.specs.FinMap as map
use Rattle.congee.specs.forms.Bytes.{IsFirst}
use Rattle.congee.specs.forms.Mask.{masked_map}
use Rattle.congee.proofs.lemmas.forms.MaskLemmas.{is_first, none_from}
use Rattle.congee.proofs.forms.masked.Masked.first_from.Goals as goal

pub returns-in-None : goal.returns-in-None
returns-in-None g c = subst (λ m. (b : ℕ) → c.args.from ≤ b → map.get m b ≡ None) c.self.view_is (none_from c.self.invariant c.args.from c.in-None.ensures)

pub returns-in-Some : goal.returns-in-Some
returns-in-Some g c =
    let found = c.in-Some.ensures in
    let first = is_first c.self.invariant c.args.from c.in-Some.byte c.index-as_slice-byte.result (omega arith) found.0 found.1 found.2 in
    let child : get_or c.self.inside.children.items c.in-Some.byte c.index-as_slice-byte.result ≡ c.index-as_slice-byte.result = cc (c.as_slice.ensures.value, c.index-as_slice-byte.is) in
    subst (λ m. IsFirst m c.args.from c.in-Some.byte c.index-as_slice-byte.result) c.self.view_is
    (subst (λ x. IsFirst (masked_map c.self.inside.mask.bytes c.self.inside.children.items) c.args.from c.in-Some.byte x) child first)

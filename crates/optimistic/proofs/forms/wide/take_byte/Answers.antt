use Rattle.std.proofs.Common.{◌%◌, ap, sym, ◌∙◌, arith}
use Rattle.std.specs.Int.{bit_at}
use Rattle.optimistic.specs.forms.Bytes.{with_at}
use Rattle.optimistic.proofs.lemmas.forms.FormLemmas.{values_take}
use Rattle.optimistic.proofs.forms.wide.take_byte.Goals as goal

pub returns : goal.returns
returns c w w' e was same =
    values_take w w' c.args.byte c.without_bit.result (omega arith) was (λ i. c.without_bit.ensures.bits i ∙ ap (λ z. with_at (bit_at z) (c.args.byte % 64) 0 i) (sym e)) same

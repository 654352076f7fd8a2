use Rattle.std.proofs.Common.{◌%◌, ap, sym, ◌∙◌, arith}
use Rattle.std.specs.Int.{bit_at}
use Rattle.optimistic.specs.forms.Bytes.{with_at}
use Rattle.optimistic.proofs.lemmas.forms.FormLemmas.{values_put}
use Rattle.optimistic.proofs.forms.wide.put_byte.Goals as goal

pub returns : goal.returns
returns c w w' x y e same =
    values_put w w' c.args.byte c.with_bit.result (omega arith) x y (λ i. c.with_bit.ensures i ∙ ap (λ z. with_at (bit_at z) (c.args.byte % 64) 1 i) (sym e)) same

use Rattle.std.specs.Prelude.{IsTrue, ◌↔◌}
use Rattle.std.proofs.Common.{◌≡◌, ◌%◌, sym, subst}
use Rattle.std.specs.Int.{bit_at}
use Rattle.optimistic.proofs.forms.wide.has_byte.Goals as goal

pub returns : goal.returns
returns c w e = subst (λ z. IsTrue c.has_bit.result ↔ (bit_at z (c.args.byte % 64) ≡ 1)) (sym e) c.has_bit.ensures

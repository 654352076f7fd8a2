use Rattle.std.proofs.Common.{refl, ◌∙◌, arith}
use Rattle.congee.proofs.lemmas.forms.MoveLemmas.{one_gone, all_gone}
use Rattle.congee.proofs.forms.base_node.Node.clear.Goals as goal

pub loop-byte-init : goal.loop-byte-init
loop-byte-init g c = record { form = refl; prefix = refl; gone = λ q l. absurd (omega (arith, l)) }

pub loop-byte-preserved : goal.loop-byte-preserved
loop-byte-preserved g c = record {
  form = c.remove.ensures.after.form ∙ c.loop-byte.invariant.form;
  prefix = c.remove.ensures.after.prefix ∙ c.loop-byte.invariant.prefix;
  gone = rw c.remove.ensures.after.children (one_gone c.in-Some.ensures c.loop-byte.invariant.gone);
}

pub returns : goal.returns
returns g c = record {
  form = c.loop-byte.invariant.form;
  prefix = c.loop-byte.invariant.prefix;
  children = all_gone _ c.loop-byte.next c.loop-byte.invariant.gone c.in_default.ensures;
}

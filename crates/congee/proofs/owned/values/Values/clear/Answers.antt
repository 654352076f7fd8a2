use Rattle.std.proofs.Common.{refl, ◌∙◌, arith}
use Rattle.congee.proofs.lemmas.forms.MoveLemmas.{one_gone, all_gone}
use Rattle.congee.proofs.owned.values.Values.clear.Goals as goal

pub loop-byte-init : goal.loop-byte-init
loop-byte-init g c = record { form = refl; gone = λ q l. absurd (omega (arith, l)) }

pub loop-byte-preserved : goal.loop-byte-preserved
loop-byte-preserved g c = record {
  form = c.remove.ensures.after.form ∙ c.loop-byte.invariant.form;
  gone = rw c.remove.ensures.after.kept (one_gone c.in-Some.ensures c.loop-byte.invariant.gone);
}

pub returns : goal.returns
returns g c = record {
  form = c.loop-byte.invariant.form;
  kept = all_gone _ c.loop-byte.next c.loop-byte.invariant.gone c.in_default.ensures;
}

use Rattle.std.proofs.Common.{sym, ◌∙◌, arith}
use Rattle.congee.proofs.lemmas.protocol.PlainLemmas.{names_go, names_end}
use Rattle.congee.proofs.protocol.plain_node.copy_names.Goals as goal

pub loop-i-preserved : goal.loop-i-preserved
loop-i-preserved c = names_go c.args.from.now c.loop-i.to c.loop-i.i _ c.only_name.result (c.requires ∙ sym c.loop-i.auto.to) c.loop-i-test.true c.loop-i.invariant c.only_name.ensures

pub returns-clause-names : goal.returns-clause-names
returns-clause-names c = names_end c.args.from.now c.loop-i.to (c.requires ∙ sym c.loop-i.auto.to) (λ b l. c.loop-i.invariant b (omega (arith, l, c.loop-i-test.false)))

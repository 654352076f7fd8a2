use Rattle.congee.proofs.lemmas.protocol.AlikeCalls.{step_alike, begun_alike}
use Rattle.congee.proofs.lemmas.protocol.AlikeKnown.{others_alike, spared_call, spared_heap, spared_order}
use Rattle.congee.proofs.protocol.machine.Machine.numbered.Goals as goal

pub returns-clause-steps : goal.returns-clause-steps
returns-clause-steps g c = λ s seen i a h n h' ms m m' d fail answer order q k never. step_alike _ _ _ _ _ never seen i a h n h' ms m m' d fail answer order q k

pub returns-clause-others : goal.returns-clause-others
returns-clause-others g c = λ i j a h h' ms m m' other d order order' q p at ne k l. others_alike _ _ _ order order' i j a k.notes h h' other q ne l k.effect (p.each j other at).known

pub returns-clause-spared : goal.returns-clause-spared
returns-clause-spared g c = λ order h h' ms d. record {
  calls = spared_call _ order h h' ms d;
  nodes = spared_heap _ order h h' ms d;
  order_is = spared_order _ order h h' ms d;
}

pub returns-clause-begins : goal.returns-clause-begins
returns-clause-begins g c = λ order h root n op. begun_alike _ order h root n op

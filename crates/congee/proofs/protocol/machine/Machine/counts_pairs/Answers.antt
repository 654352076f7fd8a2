use Rattle.congee.proofs.lemmas.protocol.AlonePairs.{pairs_counted}
use Rattle.congee.proofs.protocol.machine.Machine.counts_pairs.Goals as goal

pub returns : goal.returns
returns g c = λ a h m t w st. pairs_counted a h t w m st

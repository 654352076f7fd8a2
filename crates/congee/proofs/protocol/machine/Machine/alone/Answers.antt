use Rattle.congee.proofs.lemmas.protocol.Alone.{begins_on, step_on, whole_left}
use Rattle.congee.proofs.protocol.machine.Machine.alone.Goals as goal

pub returns-clause-begins : goal.returns-clause-begins
returns-clause-begins g c = λ h root op. begins_on _ h root op

pub returns-clause-step : goal.returns-clause-step
returns-clause-step g c = λ s h h' i a ms m m' d answer p o here others. step_on _ _ _ a h ms p o i m here others _ _ h' m' d answer

pub returns-clause-whole : goal.returns-clause-whole
returns-clause-whole g c = λ a h root op tr. whole_left _ a h root op tr

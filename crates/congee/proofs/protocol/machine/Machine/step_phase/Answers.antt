use Rattle.std.proofs.Common.{refl, ap}
use Rattle.congee.specs.protocol.Steps.{next_phase_of}
use Rattle.congee.specs.declared.protocol.phase.Phase.TheVariants as phase
use Rattle.congee.proofs.protocol.machine.Machine.step_phase.Goals as goal

pub returns-in-Scan-clause-step : goal.returns-in-Scan-clause-step
returns-in-Scan-clause-step g c = rw c.in-Scan.is (refl, refl, (c.step.new.self, c.step.result, c.step.ensures, ap (λ d. next_phase_of (phase.Scan c.step.new.self) d) c.report.ensures))

use Rattle.std.proofs.Common.{[], Err, refl, inr}
use Rattle.std.proofs.KnownBytes.{Appends-nil}
use Rattle.joint.specs.declared.refusal.Refusal.TheVariants.{Memory}
use Rattle.trial.proofs.threads.threads.Goals as goal

-- nothing is a front of any text
pub returns-in-Err-Memory : goal.returns-in-Err-Memory
returns-in-Err-Memory g c = ([], (Err Memory, _, inr (refl, 0, refl)), Appends-nil _)

-- Which phase hands a node over.
use Rattle.std.proofs.Common.{◌≡◌, ap}
use Rattle.std.specs.Prelude.{Option, Some}
use Rattle.judge.specs.declared.journal.Reply.{Reply}
use Rattle.congee.specs.declared.protocol.phase.Phase.{Phase}
use Rattle.congee.specs.declared.protocol.phase.Phase.TheVariants.{Retire}
use Rattle.congee.specs.protocol.State.{retiring}
use Rattle.joint.specs.declared.id.Id.{Id}

-- a phase that hands a node over is the Retire of that node
pub retiring_some : {V : Type 0} (s : Phase Id V) (n : Id) → retiring s ≡ Some n → (next : Option Id) × (p : Id) × (r : Reply V) × (s ≡ Retire n next p r)
retiring_some {V} (Retire m next p r) n e = (next, p, r, ap (λ x. Retire x next p r) (let q : m ≡ n = cc in q))
retiring_some _ n e = absurd (cc e)

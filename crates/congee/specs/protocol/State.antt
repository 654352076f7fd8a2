-- What a call says of itself between two of its steps.
use Rattle.std.specs.Prelude.{Bool, true, false, List, [], ◌∷◌, Option, None, Some}
use Rattle.std.specs.Option.{option_to_list}
use Rattle.congee.specs.declared.protocol.machine.Machine.{Machine}
use Rattle.congee.specs.declared.protocol.phase.Kind.{Kind}
use Rattle.congee.specs.declared.protocol.phase.Kind.TheVariants.{Get}
use Rattle.congee.specs.declared.protocol.phase.Phase.{Phase}
use Rattle.congee.specs.declared.protocol.phase.Phase.TheVariants.{AskOld, AskNew, Obsolete, Retire, UnlockBelow, Unlock, Scan, Ended}
use Rattle.congee.specs.declared.protocol.scan.Stage.{Stage}
use Rattle.congee.specs.declared.protocol.scan.Stage.TheVariants.{Over}

-- a call that has ended
abbrev pub ended : {C V : Type 0} → C → Machine C V
ended root = record { root = root; key = 0; kind = Get; given = None; phase = Ended }

-- the call has ended
abbrev pub is_over : {C V : Type 0} → Phase C V → Bool
is_over Ended = true
is_over _ = false

-- the scan has told its end
abbrev pub is_past : {C V : Type 0} → Stage C V → Bool
is_past Over = true
is_past _ = false

-- the call is a scan that has told its end
abbrev pub is_done : {C V : Type 0} → Phase C V → Bool
is_done (Scan s) = is_past s.stage
is_done _ = false

-- the node that the next step of a call marks and hands over for its destruction
abbrev pub retiring : {C V : Type 0} → Phase C V → Option C
retiring (Retire n next p r) = Some n
retiring _ = None

-- the nodes that a call has taken out of the tree and not yet handed over
abbrev pub taken : {C V : Type 0} → Phase C V → List C
taken (Obsolete n next p r) = n ∷ option_to_list next
taken (Retire n next p r) = n ∷ option_to_list next
taken _ = []

-- whether a call's next step takes its closure's answer
abbrev pub is_asking : {C V : Type 0} → Phase C V → Bool
is_asking (AskOld s old) = true
is_asking (AskNew plan) = true
is_asking _ = false

-- whether a call on one key has yet to take effect
abbrev pub is_pending : {C V : Type 0} → Phase C V → Bool
is_pending (Obsolete n next p r) = false
is_pending (Retire n next p r) = false
is_pending (UnlockBelow n p r) = false
is_pending (Unlock n r) = false
is_pending (Scan s) = false
is_pending Ended = false
is_pending _ = true

-- whether a call may change what stands at its key
abbrev pub may_write : {V : Type 0} → Kind V → Bool
may_write Get = false
may_write _ = true

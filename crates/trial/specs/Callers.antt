-- What a script answers where a worker's call asks.
use Rattle.std.specs.Prelude.{ℕ, ◌+◌, ◌%◌, ◌^◌, Bool, List, Option, None, Some, slice_get}
use Rattle.congee.specs.declared.protocol.machine.Noise.{Noise}
use Rattle.joint.specs.declared.id.Id.{Id}
use Rattle.joint.specs.declared.steps.Outcome.{Outcome}
use Rattle.joint.specs.declared.steps.Outcome.TheVariants.{Asks}
use Rattle.trial.specs.declared.caller.Caller.{Caller}
use Rattle.trial.specs.declared.caller.Closure.{Closure}
use Rattle.trial.specs.declared.caller.Closure.TheVariants.{Add, Drop, Put}

-- from the value that stands, if one does, to the one to put there, if any
abbrev pub answer_of : Closure → Option ℕ → Option ℕ
answer_of (Add n) None = None
answer_of (Add n) (Some v) = Some ((v + n) % 2 ^ 64)
answer_of Drop found = None
answer_of (Put n) None = Some n
answer_of (Put n) (Some v) = Some ((v + n) % 2 ^ 64)

-- a call of this closure that hasn't asked
abbrev pub fresh : Option Closure → Caller
fresh closure = record { closure = closure; answer = None }

-- its next step sees nothing, fails where the line says so, and takes the answer that the step before asked for
abbrev pub noise_of : Caller → Bool → Noise Id ℕ
noise_of c fail = record { fail = fail; seen = None; answer = c.answer }

-- a call once its closure, if it has one, has answered
abbrev pub answered : Option Closure → Option ℕ → Caller
answered None found = fresh None
answered (Some f) found = record { closure = Some f; answer = Some (answer_of f found) }

-- after a step that ended so: where it asked, the answer stands ready
abbrev pub after_step : Caller → Outcome ℕ → Caller
after_step c (Asks found) = answered c.closure found
after_step c _ = fresh c.closure

-- one that was never begun has no closure
abbrev pub caller_or : Option Caller → Caller
caller_or None = fresh None
caller_or (Some c) = c

-- a worker's call
abbrev pub caller_at : List Caller → ℕ → Caller
caller_at callers who = caller_or (slice_get callers who)

-- When a call's next step takes its closure's answer, by what its worker was told.
use Rattle.std.specs.Prelude.{◌≡◌, ◌≢◌, ◌==◌, ℕ, ◌<◌, Bool, true, false, List, [], ◌∷◌, length, take, slice_get, Option, None, Some}
use Rattle.congee.specs.declared.protocol.machine.Noise.{Noise}
use Rattle.joint.specs.declared.id.Id.{Id}
use Rattle.joint.specs.declared.steps.Event.{Event}
use Rattle.joint.specs.declared.steps.Event.TheVariants.{Begin, Go}
use Rattle.joint.specs.declared.steps.Op.{Op}
use Rattle.joint.specs.declared.steps.Op.TheVariants.{ComputeInsert}
use Rattle.joint.specs.declared.steps.Outcome.{Outcome}
use Rattle.joint.specs.declared.steps.Outcome.TheVariants.{Asks}
use Rattle.joint.specs.calls.Alone.{OthersUnlocked, AllInFlight, steps_alone}
use Rattle.joint.specs.calls.Runs.{Taken}
use Rattle.joint.specs.engine.Engine.{World, is_busy}

-- whether a step asked for an answer
abbrev pub is_question : {V : Type 0} → Outcome V → Bool
is_question (Asks found) = true
is_question _ = false

-- whether a worker's call wants an answer after a step, where it did or did not before: a further step of its own tells it,
-- and no other step changes it
abbrev pub wants_if : {V : Type 0} → Bool → Bool → Event V → Outcome V → Bool
wants_if before true (Go noise) told = is_question told
wants_if before _ event told = before

-- the same after these steps
abbrev pub wants_after : {V : Type 0} → ℕ → Bool → List (Taken V) → Bool
wants_after who before [] = before
wants_after who before (t ∷ ts) = wants_after who (wants_if before (t.step.worker == who) t.step.event t.report.outcome) ts

-- an answer to the call's question; one that computes what to insert wants a value
abbrev pub IsReply : {V : Type 0} → Op V → Option (Option V) → Type 0
IsReply op None = ⊥
IsReply (ComputeInsert k) (Some None) = ⊥
IsReply op (Some answer) = Unit {0}

-- where the call asked
abbrev pub RepliesTo : {V : Type 0} → Op V → Outcome V → Option (Option V) → Type 0
RepliesTo op (Asks found) answer = IsReply op answer
RepliesTo op told answer = Unit {0}

-- the next step of a worker's call that was told this last: no exchange is to fail in it, and where the call asked the
-- answer comes with it
pub record IsNextTold {V : Type 0} (who : ℕ) (op : Op V) (told : Outcome V) (t : Taken V) : Type 0 where
  pub noise : Noise Id V
  pub step : t.step ≡ record { worker = who; event = Go noise }
  pub unfailed : noise.fail ≡ false
  pub answered : RepliesTo op told noise.answer

-- these steps are the call's next ones
abbrev pub AreNextTold : {V : Type 0} → ℕ → Op V → Outcome V → List (Taken V) → Type 0
AreNextTold who op told [] = Unit {0}
AreNextTold who op told (t ∷ ts) = IsNextTold who op told t × AreNextTold who op t.report.outcome ts

-- a step and those after it: where it begins a call while no other call holds a lock, and the first n of those after it are
-- the call's next ones, so many steps don't leave it in flight
abbrev pub EndsAloneTold : {V : Type 0} → World V → Taken V → List (Taken V) → Type 0
EndsAloneTold {V} s t ts = (who n : ℕ) (op : Op V) → t.step ≡ record { worker = who; event = Begin op } → OthersUnlocked s who → AreNextTold who op t.report.outcome (take n ts) → AllInFlight (t ∷ take n ts)
    → length (t ∷ take n ts) < steps_alone s op

-- of each step of a run
abbrev pub AllEndAloneTold : {V : Type 0} → World V → List (Taken V) → Type 0
AllEndAloneTold s [] = Unit {0}
AllEndAloneTold s (t ∷ ts) = EndsAloneTold s t ts × AllEndAloneTold t.after ts

-- no other worker has a call in flight
abbrev pub OthersIdle : {V : Type 0} → World V → ℕ → Type 0
OthersIdle s who = (i : ℕ) → i ≢ who → is_busy (slice_get s.calls i) ≡ false

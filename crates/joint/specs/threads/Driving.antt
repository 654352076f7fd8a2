-- A whole call, turn by turn: what each turn is, and what the call answers.
use Rattle.std.specs.Prelude.{◌≡◌, ℕ, false, List, [], ◌∷◌, Option, None, Some, Result, Ok, Err, option_map, slice_set}
use Rattle.joint.specs.declared.refusal.Refusal.{Refusal}
use Rattle.joint.specs.declared.refusal.Refusal.TheVariants.{Foreign}
use Rattle.joint.specs.declared.steps.Done.{Done as Answer}
use Rattle.joint.specs.declared.steps.Event.TheVariants.{Begin, Go}
use Rattle.joint.specs.declared.steps.Op.{Op}
use Rattle.joint.specs.declared.steps.Outcome.{Outcome}
use Rattle.joint.specs.declared.steps.Outcome.TheVariants.{Running, Asks, Found, Registered, Done, Refused}
use Rattle.joint.specs.declared.steps.Report.{Report}
use Rattle.joint.specs.declared.steps.Step.{Step}

-- the step that begins a worker's call
abbrev pub begin_step : {V : Type 0} → ℕ → Op V → Step V
begin_step who op = record { worker = who; event = Begin op }

-- the next step of a worker's call, with the closure's answer where there is one
abbrev pub go_step : {V : Type 0} → ℕ → Option (Option V) → Step V
go_step who answer = record { worker = who; event = Go (record { fail = false; seen = None; answer = answer }) }

-- the turn after a report: an answer comes exactly where one was wanted, and none after the end of the call
abbrev pub IsGo : {V : Type 0} → ℕ → Outcome V → Step V → Type 0
IsGo who Running step = step ≡ go_step who None
IsGo {V} who (Asks found) step = (a : Option V) × (step ≡ go_step who (Some a))
IsGo who (Found place key value) step = step ≡ go_step who None
IsGo who (Registered n) step = ⊥
IsGo who (Done done) step = ⊥
IsGo who (Refused refusal) step = ⊥

-- the turn of a worker's call after the last report: its begin, where there is none
abbrev pub IsTurn : {V : Type 0} → ℕ → Op V → Option (Report V) → Step V → Type 0
IsTurn who op None step = step ≡ begin_step who op
IsTurn who op (Some r) step = IsGo who r.outcome step

-- what a turn of a call may tell: no registration, and no token of another index
abbrev pub IsToldInCall : {V : Type 0} → Outcome V → Type 0
IsToldInCall (Registered n) = ⊥
IsToldInCall (Refused Foreign) = ⊥
IsToldInCall _ = Unit {0}

-- how a call has ended that answers this
abbrev pub ended : {V : Type 0} → Result (Answer V) Refusal → Outcome V
ended (Ok done) = Done done
ended (Err refusal) = Refused refusal

-- the same turn, with the closure before and after it: its answer is what it gives for the value that stands
abbrev pub Goes : {V F : Type 0} → (F → Option V → Option V → F → Type 0) → ℕ → Outcome V → F → Step V → F → Type 0
Goes calls who Running f step f' = (step ≡ go_step who None) × (f' ≡ f)
Goes {V} calls who (Asks found) f step f' = (a : Option V) × calls f found a f' × (step ≡ go_step who (Some a))
Goes calls who (Found place key value) f step f' = (step ≡ go_step who None) × (f' ≡ f)
Goes calls who (Registered n) f step f' = ⊥
Goes calls who (Done done) f step f' = ⊥
Goes calls who (Refused refusal) f step f' = ⊥

-- a turn: the begin where nothing was told yet, and else the next step
abbrev pub Turns : {V F : Type 0} → (F → Option V → Option V → F → Type 0) → ℕ → Op V → Option (Report V) → F → Step V → F → Type 0
Turns calls who op None f step f' = (step ≡ begin_step who op) × (f' ≡ f)
Turns calls who op (Some r) f step f' = Goes calls who r.outcome f step f'

-- the caller's places after a pair that is found is written to its own
abbrev pub put_by : {V Q : Type 0} → (ℕ → V → Q) → Outcome V → List Q → List Q
put_by pair (Found place key value) places = slice_set places place (pair key value)
put_by pair _ places = places

-- one turn: the step, and what it told
pub record Turn (V : Type 0) : Type 0 where
  pub step : Step V
  pub report : Report V

-- the turns of a call, from the last report on: each is given as `gives` says, each pair that is found is written to
-- its place, and the last one ends the call so
abbrev pub AreTurns : {V F S Q : Type 0} → (S → Step V → Report V → S → Type 0) → (F → Option V → Option V → F → Type 0) → (ℕ → V → Q) → ℕ → Op V → S → F → Option (Report V) → List Q → List (Turn V) → S → List Q → Outcome V → Type 0
AreTurns gives calls pair who op s f last places [] s' places' outcome = (s' ≡ s) × (places' ≡ places) × (option_map (λ r. r.outcome) last ≡ Some outcome)
AreTurns {V} {F} {S} {Q} gives calls pair who op s f last places (t ∷ ts) s' places' outcome = (f1 : F) × (s1 : S) × Turns calls who op last f t.step f1 × gives s t.step t.report s1
    × AreTurns gives calls pair who op s1 f1 (Some t.report) (put_by pair t.report.outcome places) ts s' places' outcome

-- a whole call, which ends so
abbrev pub IsDriven : {V F S Q : Type 0} → (S → Step V → Report V → S → Type 0) → (F → Option V → Option V → F → Type 0) → (ℕ → V → Q) → ℕ → Op V → F → S → List Q → S → List Q → Outcome V → Type 0
IsDriven {V} gives calls pair who op f s places s' places' outcome = (ts : List (Turn V)) × AreTurns gives calls pair who op s f None places ts s' places' outcome

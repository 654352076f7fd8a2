-- A whole call of a worker's: its begin, and then steps to which nothing comes from outside.
use Rattle.std.specs.Prelude.{◌≡◌, ℕ, zero, suc, ◌<◌, ◌≤◌, Bool, true, false, List, [], ◌∷◌, length, replicate, take, slice_get, Option, None, Some, IsSome, option_map, slice_set}
use Rattle.judge.specs.Answer.{Pairs}
use Rattle.congee.specs.protocol.Scans.{IsScan}
use Rattle.joint.specs.declared.steps.Done.TheVariants.{Scanned}
use Rattle.joint.specs.declared.steps.Event.TheVariants.{Begin, Go}
use Rattle.joint.specs.declared.steps.Op.{Op}
use Rattle.joint.specs.declared.steps.Op.TheVariants.{Keys, IsEmpty, Stats}
use Rattle.joint.specs.declared.steps.Outcome.{Outcome}
use Rattle.joint.specs.declared.steps.Outcome.TheVariants.{Running, Found, Done}
use Rattle.joint.specs.declared.steps.Report.{Report}
use Rattle.joint.specs.declared.steps.Step.{Step}
use Rattle.joint.specs.declared.steps.Survey.TheVariants as survey
use Rattle.joint.specs.Reports.{range_of, goes_unasked, is_in_flight}
use Rattle.joint.specs.calls.Runs.{IsRun}
use Rattle.joint.specs.engine.Surveys.{MapTells}
use Rattle.joint.specs.engine.Engine.{World, is_busy, misuse}

-- a further step of the worker's call, to which nothing comes from outside
abbrev pub next_step : {V : Type 0} → ℕ → Step V
next_step who = record { worker = who; event = Go (record { fail = false; seen = None; answer = None }) }

-- the first so many steps of a call
abbrev pub steps_of : {V : Type 0} → ℕ → Op V → ℕ → List (Step V)
steps_of who op zero = []
steps_of who op (suc n) = record { worker = who; event = Begin op } ∷ replicate n (next_step who)

-- each report but the last says that the call goes on
abbrev pub GoOn : {V : Type 0} → List (Report V) → Type 0
GoOn [] = Unit {0}
GoOn (r ∷ []) = Unit {0}
GoOn (r ∷ (q ∷ rs)) = (goes_unasked r.outcome ≡ true) × GoOn (q ∷ rs)

-- the last of a report and those after it
abbrev pub last_or : {V : Type 0} → Report V → List (Report V) → Report V
last_or r [] = r
last_or r (q ∷ rs) = last_or q rs

-- the last report, if there is one
abbrev pub last_of : {V : Type 0} → List (Report V) → Option (Report V)
last_of [] = None
last_of (r ∷ rs) = Some (last_or r rs)

-- the caller's places after a pair that is found is written to its own
abbrev pub put : {V : Type 0} → Outcome V → List (ℕ × V) → List (ℕ × V)
put (Found place key value) places = slice_set places place (key, value)
put _ places = places

-- the caller's places after these reports
abbrev pub put_all : {V : Type 0} → List (Report V) → List (ℕ × V) → List (ℕ × V)
put_all [] places = places
put_all (r ∷ rs) places = put_all rs (put r.outcome places)

-- the report without the pair, which is at its place
abbrev pub put_away : {V : Type 0} → Outcome V → Outcome V
put_away (Found place key value) = Running
put_away o = o

-- the same of a report
abbrev pub kept_report : {V : Type 0} → Report V → Report V
kept_report r = record r { outcome = put_away r.outcome }

-- a call of at most so many steps, which answers its last report: it stops where the call ends or wants an answer, and
-- else after so many steps; each pair that a scan finds comes to its place
pub record IsCalled {V : Type 0} (same : V → V → Bool) (always : Bool) (s : World V) (who : ℕ) (op : Op V) (most : ℕ) (places : List (ℕ × V)) (result : Option (Report V)) (places' : List (ℕ × V)) (s' : World V) : Type 0 where
  pub reports : List (Report V)
  pub run : IsRun same always s (steps_of who op (length reports)) reports s'
  pub bounded : length reports ≤ most
  pub goes : GoOn reports
  pub last : option_map kept_report (last_of reports) ≡ result
  pub found : places' ≡ put_all reports places
  pub stops : (r : Report V) → result ≡ Some r → length reports < most → goes_unasked r.outcome ≡ false
  pub begins : 0 < most → IsSome result
  -- where its begin isn't misused, it stays in flight exactly where the last report says so
  pub flight : misuse s who (Begin op) ≡ None → (r : Report V) → result ≡ Some r → is_busy (slice_get s'.calls who) ≡ is_in_flight r.outcome

-- a scan that is done has filled the first of its places with what a scan promises, by the pairs that stood: nobody
-- changed them meanwhile
abbrev pub FillsOf : {V : Type 0} → Option (ℕ × ℕ × ℕ) → Pairs V → Option (Report V) → List (ℕ × V) → Type 0
FillsOf {V} (Some (start, end, size)) m (Some r) places' = (count : ℕ) → r.outcome ≡ Done (Scanned count) → size ≤ length places' → (count ≤ length places') × IsScan {V = V} start end size (m ∷ []) (take count places')
FillsOf range m r places' = Unit {0}

-- the same of a call, where it is a scan
abbrev pub FillsPlaces : {V : Type 0} → Pairs V → Op V → Option (Report V) → List (ℕ × V) → Type 0
FillsPlaces m op r places' = FillsOf (range_of op) m r places'

-- a call of one step, where it is done, told of the pairs that stood
abbrev pub TellsMap : {V : Type 0} → Pairs V → Op V → Option (Report V) → Type 0
TellsMap m Keys (Some r) = MapTells m survey.Keys r.outcome
TellsMap m IsEmpty (Some r) = MapTells m survey.IsEmpty r.outcome
TellsMap m Stats (Some r) = MapTells m survey.Stats r.outcome
TellsMap m op r = Unit {0}

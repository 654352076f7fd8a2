-- A whole call as its list of steps.
use Rattle.std.specs.Prelude.{◌≡◌, ℕ, zero, suc, ◌+◌, ◌≤◌, List, [], ◌∷◌, ◌++◌, length, Option, Some, None, MatchOption}
use Rattle.std.specs.List.{Contains}
use Rattle.crossbeam_epoch.specs.declared.world.report.Event.{Event}
use Rattle.crossbeam_epoch.specs.declared.world.report.Event.TheVariants.{Begin, Go}
use Rattle.crossbeam_epoch.specs.declared.world.report.Op.{Op}
use Rattle.crossbeam_epoch.specs.declared.world.report.Outcome.{Outcome}
use Rattle.crossbeam_epoch.specs.declared.world.report.Outcome.TheVariants.{Running}
use Rattle.crossbeam_epoch.specs.declared.world.report.Report.{Report}
use Rattle.crossbeam_epoch.specs.declared.world.report.Step.{Step}
use Rattle.crossbeam_epoch.specs.world.Log.{LogLine, log_after, Shows}
use Rattle.crossbeam_epoch.specs.world.Machine.{State}
use Rattle.crossbeam_epoch.specs.declared.names.Name.{Name}
use Rattle.crossbeam_epoch.specs.world.Fits.{Fits}
use Rattle.crossbeam_epoch.specs.world.History.{Mark}
use Rattle.crossbeam_epoch.specs.world.Reach.{Moment, HasMoments, moments_after}
use Rattle.crossbeam_epoch.specs.world.Steps.{state_after, history_after, AreReports}

-- the event of a call's n-th step
abbrev pub event_at : Op → ℕ → Event
event_at op zero = Begin op
event_at op (suc n) = Go

-- the first n steps of a call
abbrev pub call_steps : ℕ → Op → ℕ → List Step
call_steps who op zero = []
call_steps who op (suc n) = call_steps who op n ++ (record { who = who; event = event_at op n }) ∷ []

-- the newest report; the call went on after each one before it
abbrev pub EndsWith : List Report → Option Report → Type 0
EndsWith reports None = reports ≡ []
EndsWith reports (Some r) = (front : List Report) × (reports ≡ front ++ r ∷ []) × ((x : Report) → Contains front x → x.outcome ≡ Running)

-- a call took these steps, and stopped where it ended or after `most`
pub record IsCall {T J : Type 0} (s : State T J) (who : ℕ) (op : Op) (most : ℕ) (reports : List Report) (newest : Option Report) (s' : State T J) : Type 0 where
  pub few : length reports ≤ most
  pub legal : AreReports s (call_steps who op (length reports)) reports
  pub state : s' ≡ state_after s (call_steps who op (length reports)) reports
  pub newest_is : EndsWith reports newest
  pub stops : MatchOption newest (most ≡ 0) (λ r. r.outcome ≡ Running → length reports ≡ most)

-- a call that took n steps and goes on
pub record IsGoing {T J : Type 0} (s : State T J) (who : ℕ) (op : Op) (n : ℕ) (newest : Option Report) (event : Event) (now : State T J) : Type 0 where
  pub reports : List Report
  pub long : length reports ≡ n
  pub legal : AreReports s (call_steps who op n) reports
  pub state : now ≡ state_after s (call_steps who op n) reports
  pub newest_is : EndsWith reports newest
  pub going : (x : Report) → Contains reports x → x.outcome ≡ Running
  pub next : event ≡ event_at op n

-- the steps of a call lead each history on, and each log
pub record Extends {T J : Type 0} (names : T → List Name) (s : State T J) (who : ℕ) (op : Op) (reports : List Report) (s' : State T J) : Type 0 where
  pub kept : (h : List Mark) → Fits h s → Fits (history_after s (call_steps who op (length reports)) reports h) s'
  pub told : (h : List Moment) → HasMoments names h s → HasMoments names (moments_after names s (call_steps who op (length reports)) reports h) s'
  pub shown : (log : List LogLine) (h : List Mark) → Shows log h s → Shows (log_after (call_steps who op (length reports)) reports log) (history_after s (call_steps who op (length reports)) reports h) s'

-- a whole call, as many steps of it as the longest call takes at most; what it answers is how it stands after the last one
abbrev pub IsWholeCall : {T J : Type 0} → (names : T → List Name) → State T J → (who : ℕ) → Op → Outcome → State T J → Type 0
IsWholeCall names s who op outcome s' = (reports : List Report) × (newest : Report) × IsCall s who op (length s.table + 527) reports (Some newest) s' × (outcome ≡ newest.outcome) × Extends names s who op reports s'

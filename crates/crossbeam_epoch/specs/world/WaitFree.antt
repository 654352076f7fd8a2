-- Calls are wait-free: each ends within so many steps of its own participant, whatever the others do between them.
use Rattle.std.specs.Prelude.{◌≡◌, ◌≢◌, ℕ, ◌+◌, ◌<◌, ◌==◌, Bool, false, List, [], ◌∷◌, Option, Some, None, if◌then◌else◌}
use Rattle.crossbeam_epoch.specs.declared.world.report.Event.{Event}
use Rattle.crossbeam_epoch.specs.declared.world.report.Event.TheVariants.{Begin, Go}
use Rattle.crossbeam_epoch.specs.declared.world.report.Op.{Op}
use Rattle.crossbeam_epoch.specs.declared.world.report.Op.TheVariants.{Pin, Unpin, Repin, Flush, Release, Secure}
use Rattle.crossbeam_epoch.specs.declared.world.report.Outcome.{Outcome}
use Rattle.crossbeam_epoch.specs.declared.world.report.Outcome.TheVariants.{Running, Done, Refused}
use Rattle.crossbeam_epoch.specs.declared.world.report.Report.{Report}
use Rattle.crossbeam_epoch.specs.declared.world.report.Step.{Step}

-- the most steps of a call, its begin counted, in a table of so many places
abbrev pub most_steps : ℕ → Op → ℕ
most_steps places Pin = places + 527
most_steps places Unpin = 1
most_steps places Repin = 3
most_steps places Flush = places + 527
most_steps places Release = 3
most_steps places (Secure n) = 4

-- whether a step of this participant goes on with that one's call
abbrev pub is_own : ℕ → ℕ → Event → Bool
is_own who q (Begin op) = false
is_own who q Go = q == who

-- one step that leaves a call in flight and n more, none from its end on
abbrev pub counted : Outcome → ℕ → ℕ
counted Running n = 1 + n
counted Done n = 0
counted (Refused f) n = 0

-- how many of a participant's steps among these leave its call in flight, up to the one that ends it
abbrev pub steps_in_flight : ℕ → List Step → List Report → ℕ
steps_in_flight who [] reports = 0
steps_in_flight who (step ∷ steps) [] = 0
steps_in_flight who (step ∷ steps) (r ∷ reports) =
    if is_own who step.who step.event then counted r.outcome (steps_in_flight who steps reports) else steps_in_flight who steps reports

-- a call that this step begins is left in flight by fewer steps than its most, the begin counted
abbrev pub EndsInTime : ℕ → Step → Report → List Step → List Report → Type 0
EndsInTime places step r steps reports = (op : Op) → step.event ≡ Begin op → r.outcome ≡ Running → 1 + steps_in_flight step.who steps reports < most_steps places op

-- and so is each call that one of these steps begins
abbrev pub AllEndInTime : ℕ → List Step → List Report → Type 0
AllEndInTime places [] reports = Unit {0}
AllEndInTime places (step ∷ steps) [] = Unit {0}
AllEndInTime places (step ∷ steps) (r ∷ reports) = EndsInTime places step r steps reports × AllEndInTime places steps reports

-- there is a last report, and by it the call isn't in flight
abbrev pub IsOver : Option Report → Type 0
IsOver None = ⊥
IsOver (Some r) = r.outcome ≢ Running

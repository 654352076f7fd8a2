-- The end of a collector: who is still registered, and the jobs that are left.
use Rattle.std.specs.Prelude.{◌≡◌, ℕ, zero, suc, ◌+◌, nat_lt, List, [], ◌∷◌, ◌++◌, if◌then◌else◌}
use Rattle.crossbeam_epoch.specs.declared.bag.Deferral.{Deferral}
use Rattle.crossbeam_epoch.specs.declared.bag.Sealed.{Sealed}
use Rattle.crossbeam_epoch.specs.world.History.{Mark, Called, times_called, IsGraceful, AreCalledLater}
use Rattle.crossbeam_epoch.specs.world.Machine.{State, place, destroys, after_work}
use Rattle.crossbeam_epoch.specs.world.Store.{Store}

-- how many of the first n places are taken
abbrev pub registered_below : {T J : Type 0} → State T J → ℕ → ℕ
registered_below s zero = 0
registered_below s (suc n) = registered_below s n + (if (place s n).registered then 1 else 0)

-- how many participants are registered
abbrev pub registered_in : {T J : Type 0} → State T J → ℕ
registered_in s = registered_below s s.limits.participants

-- the jobs of these bags, one bag after another
abbrev pub jobs_of : {J : Type 0} → List (Sealed J) → List (Deferral J)
jobs_of [] = []
jobs_of (b ∷ bags) = b.jobs ++ jobs_of bags

-- the cells after these jobs were called one after another
abbrev pub after_jobs : {T J : Type 0} → Store T → List (Deferral J) → Store T
after_jobs st [] = st
after_jobs st (e ∷ jobs) = after_jobs (after_work st e.work) jobs

-- the history after these jobs were called one after another
abbrev pub history_of_calls : {T J : Type 0} → Store T → List (Deferral J) → List Mark → List Mark
history_of_calls st [] h = h
history_of_calls st (e ∷ jobs) h = history_of_calls (after_work st e.work) jobs (Called e.ticket (destroys st e.work) ∷ h)

-- each job below the next ticket was called once, none while a participant blocked it
pub record IsEnded (h : List Mark) (next : ℕ) : Type 0 where
  pub graceful : IsGraceful h
  pub later : AreCalledLater h
  pub once : (t : ℕ) → times_called h t ≡ (if nat_lt t next then 1 else 0)

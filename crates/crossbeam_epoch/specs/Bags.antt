-- What stands in a bag.
use Rattle.std.specs.Prelude.{ℕ, Bool, true, false, List, count_by}
use Rattle.crossbeam_epoch.specs.declared.bag.Deferral.{Deferral}
use Rattle.crossbeam_epoch.specs.declared.bag.Work.{Work}
use Rattle.crossbeam_epoch.specs.declared.bag.Work.TheVariants.{Blank, Remove, Run}

-- there is something to be done
abbrev pub is_job : {J : Type 0} → Work J → Bool
is_job Blank = false
is_job (Remove name) = true
is_job (Run job) = true

-- how many jobs stand in a bag, without its blanks
abbrev pub jobs_in : {J : Type 0} → List (Deferral J) → ℕ
jobs_in bag = count_by (λ d. is_job d.work) bag

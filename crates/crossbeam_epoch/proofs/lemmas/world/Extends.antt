-- The steps of a whole call lead each history on.
use Rattle.std.proofs.Common.{ℕ, List, Option, length}
use Rattle.crossbeam_epoch.specs.declared.names.Name.{Name}
use Rattle.crossbeam_epoch.specs.declared.world.report.Op.{Op}
use Rattle.crossbeam_epoch.specs.declared.world.report.Report.{Report}
use Rattle.crossbeam_epoch.specs.world.Calls.{call_steps, IsCall, Extends}
use Rattle.crossbeam_epoch.specs.world.Machine.{State}
use Rattle.crossbeam_epoch.proofs.lemmas.world.Logs.{shows_run}
use Rattle.crossbeam_epoch.proofs.lemmas.world.Runs.{fits_run}
use Rattle.crossbeam_epoch.proofs.lemmas.world.Told.{tells_run}

module _ {T J : Type 0} where
  -- the steps of a whole call lead on each history, the moments and the log
  pub leads_on : (names : T → List Name) (s s' : State T J) (who : ℕ) (op : Op) (most : ℕ) (reports : List Report) (newest : Option Report) → IsCall s who op most reports newest s' → Extends names s who op reports s'
  leads_on names s s' who op most reports newest c = record {
    kept = λ h f. rw c.state (fits_run h s (call_steps who op (length reports)) reports c.legal f);
    told = λ h t. rw c.state (tells_run names h s (call_steps who op (length reports)) reports c.legal t);
    shown = λ log h w. rw c.state (shows_run log h s (call_steps who op (length reports)) reports c.legal w);
  }

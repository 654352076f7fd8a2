-- What bounds an index.
use Rattle.std.specs.Prelude.{◌≡◌, ◌≤◌, ℕ}
use Rattle.joint.specs.declared.limits.Limits.{Limits}
use Rattle.joint.specs.declared.limits.TheConstants.{CELLS_MAX}

-- every limit stands in its range
pub record AreAllowed (l : Limits) : Type 0 where
  pub some_participant : 1 ≤ l.epoch.participants
  pub participants : l.epoch.participants ≤ 256
  pub some_cell : 1 ≤ l.epoch.cells
  pub cells : l.epoch.cells ≤ CELLS_MAX
  pub some_epochs : 3 ≤ l.epoch.epoch_max
  pub epochs : l.epoch.epoch_max ≤ 4611686018427387904
  pub expiry : l.epoch.expiry ≡ 2
  pub some_version : 1 ≤ l.version_max
  pub versions : l.version_max ≤ 1152921504606846975

-- so many workers and cells, and every other limit at its greatest
abbrev pub usual : ℕ → ℕ → Limits
usual participants cells = record {
  epoch = record { participants = participants; cells = cells; turn_max = 4294967295; epoch_max = 4611686018427387904; expiry = 2 };
  version_max = 1152921504606846975;
  id = 0;
}

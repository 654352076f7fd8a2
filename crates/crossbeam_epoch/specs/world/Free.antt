-- How the list of free cells fits the cells.
use Rattle.std.specs.Prelude.{◌≡◌, ℕ, ◌+◌, ◌==◌, nat_lt, nat_le, ◌≤◌, Bool, List, length, is_none, if◌then◌else◌, slice_index_or, ◌&&◌}
use Rattle.std.specs.List.{sum_by}
use Rattle.crossbeam_epoch.specs.declared.world.cells.Cell.{Cell}
use Rattle.crossbeam_epoch.specs.world.Store.{fresh}

-- a used cell that may take another value
abbrev pub is_reusable : {T : Type 0} → ℕ → Cell T → Bool
is_reusable turn_max c = is_none c.value && nat_le c.turns turn_max

-- a cell counts one where it may not
abbrev pub not_reusable : {T : Type 0} → ℕ → Cell T → ℕ
not_reusable turn_max c = if is_reusable turn_max c then 0 else 1

-- how often a cell stands in the list
abbrev pub times : ℕ → List ℕ → ℕ
times i free = sum_by (λ x. if x == i then 1 else 0) free

-- whether the cell at a place is so
abbrev pub is_reusable_at : {T : Type 0} → List (Cell T) → ℕ → ℕ → Bool
is_reusable_at cells turn_max i = nat_lt i (length cells) && is_reusable turn_max (slice_index_or cells i fresh)

-- the list of free cells fits the cells
pub record FitsFree {T : Type 0} (cells : List (Cell T)) (free : List ℕ) (most turn_max : ℕ) : Type 0 where
  -- the list has each cell that may take another value once, and no other
  pub each : (i : ℕ) → times i free ≡ (if is_reusable_at cells turn_max i then 1 else 0)
  -- so it is no longer than the cells
  pub room : length free + sum_by (not_reusable turn_max) cells ≡ length cells
  pub few : length cells ≤ most

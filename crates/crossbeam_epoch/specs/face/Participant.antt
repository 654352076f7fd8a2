-- What contracts see of a handle.
use Rattle.std.specs.Prelude.{ℕ, ◌≡◌, nat_lt, List, None, Some}
use Rattle.std.specs.Bool.{MatchBool}
use Rattle.std.specs.Borrow.{Bor}
use Rattle.crossbeam_epoch.specs.declared.bag.Deferral.{Deferral}
use Rattle.crossbeam_epoch.specs.declared.face.collector.Collector.{Collector}
use Rattle.crossbeam_epoch.specs.declared.face.guard.Row.{Row}
use Rattle.crossbeam_epoch.specs.declared.face.handle.Seals.{Seals}
use Rattle.crossbeam_epoch.specs.declared.face.seats.View.{View}

-- a participant: its collector, its place, how many guards are out and the epoch that confirmed their pin, the jobs that it
-- keeps, the seals that it tells, and what its seat at the words knows
pub record Handle (T J : Type 0) : Type 0 where
  pub collector : Bor (Collector T J)
  pub row : Row
  pub guards : ℕ
  pub epoch : ℕ
  pub bag : List (Deferral J)
  pub seals : Seals
  pub knows : View

-- with guards out its word is pinned, confirmed by this epoch, and else it is unpinned
abbrev pub IsPinned : ℕ → ℕ → View → Type 0
IsPinned guards epoch v = MatchBool (nat_lt 0 guards) (v.pin ≡ Some epoch) ((v.at ≡ None) × (v.pin ≡ None))

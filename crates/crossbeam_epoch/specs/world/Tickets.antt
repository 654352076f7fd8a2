-- The tickets that were given.
use Rattle.std.specs.Prelude.{ℕ}

-- the tickets that were given, and the jobs that wait
pub record TicketCount : Type 0 where
  -- the next ticket; those below it were given
  pub next : ℕ
  -- how many jobs are deferred and not yet called
  pub waiting : ℕ

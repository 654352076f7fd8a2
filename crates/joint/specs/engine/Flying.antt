-- The calls on the tree that are in flight, as they are watched beside their machines.
use Rattle.std.specs.Prelude.{◌≡◌, ◌≤◌, ◌==◌, ℕ, Some, length, slice_get, if◌then◌else◌}
use Rattle.congee.specs.declared.protocol.machine.Machine.{Machine}
use Rattle.congee.specs.protocol.Play.{Flight, Over, begun, flight, Follows}
use Rattle.joint.specs.declared.engine.in_flight.InFlight.{InFlight}
use Rattle.joint.specs.declared.engine.in_flight.InFlight.TheVariants.{Idle, Collecting, Reserving, Securing, Walking}
use Rattle.joint.specs.declared.id.Id.{Id}
use Rattle.joint.specs.engine.Engine.{World}
use Rattle.joint.specs.Names.{root}

-- the call on the tree that each worker has in flight
abbrev pub Flights : Type 0 → Type 0
Flights V = ℕ → Flight V

-- no worker has one
abbrev pub no_flights : {V : Type 0} → Flights V
no_flights w = Over

-- one worker has this one, and the others have theirs
abbrev pub with_flight : {V : Type 0} → Flights V → ℕ → Flight V → Flights V
with_flight fs w f v = if v == w then f else fs v

-- how a worker's call in flight is watched, with its machine on the tree
abbrev pub IsInFlight : {V : Type 0} → InFlight V → Machine Id V → Flight V → Type 0
IsInFlight Idle m f = f ≡ Over
IsInFlight (Collecting op) m f = f ≡ Over
IsInFlight (Reserving op) m f = f ≡ flight (begun root op)
IsInFlight (Securing op) m f = f ≡ flight (begun root op)
IsInFlight Walking m f = Follows m f

-- so is that of each worker, and beyond them there is none
pub record AreInFlight {V : Type 0} (s : World V) (fs : Flights V) : Type 0 where
  pub each : (i : ℕ) (k : InFlight V) (m : Machine Id V) → slice_get s.calls i ≡ Some k → slice_get s.machines i ≡ Some m → IsInFlight k m (fs i)
  pub beyond : (i : ℕ) → length s.calls ≤ i → fs i ≡ Over

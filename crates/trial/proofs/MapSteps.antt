-- A tree between whole calls, beside the map of its pairs.
use Rattle.std.proofs.Common.{◌≡◌, ℕ, nat_eq, true, List, [], ◌∷◌, None, Some}
use Rattle.std.specs.FinMap.{empty}
use Rattle.judge.specs.Answer.{Pairs}
use Rattle.congee.specs.Keys.{IsMapOf}
use Rattle.congee.specs.protocol.Play.{Over}
use Rattle.joint.specs.declared.steps.Done.TheVariants.{Scanned}
use Rattle.joint.specs.declared.steps.Event.TheVariants.{Register}
use Rattle.joint.specs.declared.steps.Op.{Op}
use Rattle.joint.specs.declared.steps.Outcome.TheVariants.{Done}
use Rattle.joint.specs.declared.steps.Report.{Report}
use Rattle.joint.specs.nodes.Nodes.{nodes}
use Rattle.joint.specs.calls.MapCalls.{AreOfCall, HasScanned, KeepsAll, PlaysCall, answered_after, told_after, told_places}
use Rattle.joint.specs.Reports.{range_of, target}
use Rattle.joint.specs.calls.Runs.{Taken, AreTaken, after_all}
use Rattle.joint.specs.engine.Engine.{IsFresh, World}
use Rattle.joint.specs.engine.Flying.{Flights, no_flights, AreInFlight}
use Rattle.joint.specs.world.World.{Holds, IsStep}

-- what the machine promises of whole calls, of registrations, and of a tree as it is opened
pub record MapLaws : Type 0 where
  pub plays : (s : World ℕ) (first : Taken ℕ) (more : List (Taken ℕ)) (fs : Flights ℕ) (m : Pairs ℕ) (who : ℕ) (op : Op ℕ) → Holds nat_eq true s → AreTaken nat_eq true s (first ∷ more)
      → IsMapOf (nodes s.forest) m → AreInFlight s fs → AreOfCall who op first more
      → PlaysCall nat_eq fs m who (answered_after first.report.outcome None more) (target op) (told_after first.report.outcome more) (after_all s (first ∷ more))
  pub scan : (s : World ℕ) (first : Taken ℕ) (more : List (Taken ℕ)) (fs : Flights ℕ) (m : Pairs ℕ) (who : ℕ) (op : Op ℕ) (start end size count : ℕ) → Holds nat_eq true s → AreTaken nat_eq true s (first ∷ more)
      → IsMapOf (nodes s.forest) m → AreInFlight s fs → range_of op ≡ Some (start, end, size) → AreOfCall who op first more → told_after first.report.outcome more ≡ Done (Scanned count)
      → HasScanned start end size count m (told_places [] more)
  pub registers : (s : World ℕ) (who : ℕ) (r : Report ℕ) (s' : World ℕ) (fs : Flights ℕ) (m : Pairs ℕ) → Holds nat_eq true s → IsStep nat_eq true s (record { worker = who; event = Register }) r s'
      → IsMapOf (nodes s.forest) m → AreInFlight s fs → KeepsAll fs m s'
  pub fresh : (s : World ℕ) → IsFresh s → IsMapOf (nodes s.forest) empty × AreInFlight s no_flights

-- these pairs stand, and nothing of the tree is in flight
pub record Rests (s : World ℕ) (m : Pairs ℕ) : Type 0 where
  pub holds : Holds nat_eq true s
  pub flights : Flights ℕ
  pub stand : IsMapOf (nodes s.forest) m
  pub in_flight : AreInFlight s flights
  pub over : (i : ℕ) → flights i ≡ Over

-- so too after what leaves them
pub rests_after : (m : Pairs ℕ) (s s' : World ℕ) (b : Rests s m) → Holds nat_eq true s' → KeepsAll b.flights m s' → Rests s' m
rests_after m s s' b h x = record { holds = h; flights = b.flights; stand = x.0; in_flight = x.1; over = b.over }

-- How many workers are registered.
use Rattle.std.proofs.Common.{◌≡◌, ℕ, zero, suc, ◌≤◌, ◌+◌, Bool, true, false, ap, arith}
use Rattle.std.specs.Prelude.{if◌then◌else◌}
use Rattle.crossbeam_epoch.specs.world.Ending.{registered_below, registered_in}
use Rattle.crossbeam_epoch.specs.world.Machine.{State, place}
use Rattle.joint.specs.nodes.Nodes.{Nodes, frame}

one_more : (b : Bool) (k n : ℕ) → k ≤ n → k + (if b then 1 else 0) ≤ suc n
one_more true k n l = omega (arith, l)
one_more false k n l = omega (arith, l)

-- at most n of the first n places are taken
pub registered_few : {T J : Type 0} (s : State T J) (n : ℕ) → registered_below s n ≤ n
registered_few s zero = omega arith
registered_few s (suc n) = one_more (place s n).registered (registered_below s n) n (registered_few s n)

-- as many are registered where all stays but the cells and the charge
pub registered_kept : {V : Type 0} (s s' : Nodes V) → frame s' ≡ frame s → registered_in s'.collector ≡ registered_in s.collector
registered_kept {V} s s' e = ap (λ (f : Nodes V). registered_in f.collector) e

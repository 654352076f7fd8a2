-- The removals that wait in the collector's bags.
use Rattle.std.specs.Prelude.{◌≡◌, ℕ, is_some, if◌then◌else◌}
use Rattle.crossbeam_epoch.specs.declared.bag.Deferral.{Deferral}
use Rattle.crossbeam_epoch.specs.declared.names.Name.{Name}
use Rattle.crossbeam_epoch.specs.world.Fits.{weight}
use Rattle.crossbeam_epoch.specs.world.Machine.{name_of}
use Rattle.crossbeam_epoch.specs.world.Sealing.{IsSealing, bit, counts_name}
use Rattle.congee.specs.protocol.Handing.{is_handed_over}
use Rattle.joint.specs.nodes.Nodes.{Nodes, nodes}
use Rattle.joint.specs.Names.{number}

-- whether a job is the removal of this name, as a number
abbrev pub removes : {J : Type 0} → Name → Deferral J → ℕ
removes n e = counts_name (name_of e.work) n

-- whether it is no removal
abbrev pub others : {J : Type 0} → Deferral J → ℕ
others e = if is_some (name_of e.work) then 0 else 1

-- no seal is past the epoch and no empty bag is queued; the removal of each node that waits for its destruction stands in
-- one place of a bag, and nothing else does
pub record IsFiled {V : Type 0} (s : Nodes V) : Type 0 where
  pub expiry : s.collector.limits.expiry ≡ 2
  pub sealing : IsSealing s.collector
  pub filed : (n : Name) → weight (removes n) s.collector ≡ bit (is_handed_over (nodes s (number n)))
  pub only : weight others s.collector ≡ 0

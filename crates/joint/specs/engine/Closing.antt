-- The end of the machine: its pairs are handed on, and the charge is again what it was before the first node.
use Rattle.std.specs.Prelude.{◌≡◌, ℕ, ◌<◌}
use Rattle.std.specs.FinMap.{entries}
use Rattle.judge.specs.Answer.{Pairs}
use Rattle.crossbeam_epoch.specs.world.Ending.{registered_in}
use Rattle.congee.specs.Keys.{IsMapOf}
use Rattle.joint.specs.declared.nodes.account.Account.{Account}
use Rattle.joint.specs.declared.refusal.Refusal.{Refusal}
use Rattle.joint.specs.declared.refusal.Refusal.TheVariants.{WorkersLeft}
use Rattle.joint.specs.nodes.Nodes.{nodes}
use Rattle.joint.specs.engine.Engine.{World}
use Rattle.joint.specs.engine.Standing.{pairs_of}
use Rattle.joint.specs.nodes.Draining.{Drained}

-- what came in with the allocator: what it had charged before the first node, and its limit
abbrev pub account_of : {V : Type 0} → World V → Account
account_of s = record { charged = s.forest.base; limit = s.forest.limit }

-- no worker was registered; the drainer took each pair, in ascending order of the keys, and the allocator has the charge
-- with which it came, and its limit
pub record IsClosed {V D : Type 0} (drains : D → ℕ → V → D → Type 0) (s : World V) (before : D) (charge limit : ℕ) (after : D) : Type 0 where
  pub no_worker : registered_in s.forest.collector ≡ 0
  pub drained : (m : Pairs V) → IsMapOf (nodes s.forest) m → Drained drains before (entries m) after
  -- the same of these pairs as a value
  pub pairs : Drained drains before (entries (pairs_of s)) after
  pub charge_is : charge ≡ s.forest.base
  pub limit_is : limit ≡ s.forest.limit

-- workers were registered, and all comes back as it was
pub record IsNotClosed {V D : Type 0} (s : World V) (before : D) (e : Refusal) (s' : World V) (after : D) : Type 0 where
  pub workers : 0 < registered_in s.forest.collector
  pub why : e ≡ WorkersLeft (registered_in s.forest.collector)
  pub state : s' ≡ s
  pub drainer : after ≡ before

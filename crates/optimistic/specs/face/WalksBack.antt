-- Walks that go back, which tell a range pair by pair from its greatest key down.
use Rattle.std.specs.Prelude.{◌≡◌, ℕ, ◌+◌, ◌≤◌, Option, None, Some}
use Rattle.optimistic.specs.declared.drain.nexts.Pair.{Pair}
use Rattle.optimistic.specs.declared.face.walk_back.WalkBack.{WalkBack}
use Rattle.optimistic.specs.tree.Nexts.{HasNone}
use Rattle.optimistic.specs.face.Calls.{Known, Saw}
use Rattle.optimistic.specs.face.Scans.{Once, LastBelow}

-- the key below which a walk's pairs are still to be told: behind that which is next, or the first of all if there is none
abbrev pub below_next : Option ℕ → ℕ
below_next None = 0
below_next (Some next) = next + 1

abbrev pub below : WalkBack → ℕ
below walk = below_next walk.from

-- A step of a walk: the last pair below its key, at one moment, before which it goes on; or there was none down to its first key, and it has
-- ended
abbrev pub IsStepBack : WalkBack → Option Pair → WalkBack → Known → Known → Type 0
IsStepBack a (Some p) b v w = LastBelow (below a) (Some p) v w × (a.first ≤ p.key) × (below b ≡ p.key) × (b.first ≡ a.first)
IsStepBack a None b v w = Saw v w × Once (λ log. HasNone log a.first (below a)) v w × (below b ≡ 0) × (b.first ≡ a.first)

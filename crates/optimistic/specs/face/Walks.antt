-- Walks, which tell a range pair by pair.
use Rattle.std.specs.Prelude.{◌≡◌, ℕ, ◌+◌, ◌^◌, ◌≤◌, Option, None, Some, unwrap_or}
use Rattle.optimistic.specs.declared.drain.nexts.Pair.{Pair}
use Rattle.optimistic.specs.declared.face.walk.Walk.{Walk}
use Rattle.optimistic.specs.tree.Nexts.{HasNone}
use Rattle.optimistic.specs.face.Calls.{Known, Saw}
use Rattle.optimistic.specs.face.Scans.{Once, FirstFrom}

-- the key from which on a walk's pairs are still to be told
abbrev pub ahead : Walk → ℕ
ahead walk = unwrap_or walk.from (2 ^ 64)

-- A step of a walk: the first pair from its key on, at one moment, behind which it goes on; or there was none up to its last key, and it has
-- ended
abbrev pub IsStep : Walk → Option Pair → Walk → Known → Known → Type 0
IsStep a (Some p) b v w = FirstFrom (ahead a) (Some p) v w × (p.key ≤ a.last) × (ahead b ≡ p.key + 1) × (b.last ≡ a.last)
IsStep a None b v w = Saw v w × Once (λ log. HasNone log (ahead a) (a.last + 1)) v w × (ahead b ≡ 2 ^ 64) × (b.last ≡ a.last)

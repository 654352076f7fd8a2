-- The number of pairs that an arena keeps beside its nodes.
use Rattle.std.specs.Prelude.{◌≡◌, ℕ, Option, None, Some}
use Rattle.std.specs.FinMap as map
use Rattle.congee.specs.owned.Table.{pairs_of}
use Rattle.congee.specs.declared.owned.arena.Arena.{Arena}

-- it is that of the pairs that stand in them
abbrev pub IsCounted : {P A K : Type 0} → Arena P A K → Type 0
IsCounted t = t.pairs ≡ map.len (pairs_of t.nodes)

-- one, if there is a value
abbrev pub one_if : {P : Type 0} → Option P → ℕ
one_if None = 0
one_if (Some v) = 1

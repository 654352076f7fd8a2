-- The code of a node's children.
use Rattle.std.specs.Coded.{Coded, coded_ℕ}
use Rattle.std.specs.Ordering.{nat_cmp}
use Rattle.std.specs.FinMap as map

-- a map from bytes, by a code of its values
abbrev pub map_code : {V : Type 0} → Coded V → Coded (map.FinMap nat_cmp V)
map_code c = map.code coded_ℕ c

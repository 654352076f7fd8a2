-- A node with one child.
use Rattle.std.specs.Prelude.{◌≡◌, ℕ, ◌<◌}
use Rattle.std.specs.Ordering.{nat_cmp}
use Rattle.std.specs.FinMap as map

-- a map has this child, and nothing else
pub record IsOnly {X : Type 0} (m : map.FinMap nat_cmp X) (child : X) : Type 0 where
  pub byte : ℕ
  pub low : byte < 256
  pub is : m ≡ map.insert map.empty byte child

-- The way of a scan through the tree, and the keys that it has yet to come to.
use Rattle.std.specs.Prelude.{◌≡◌, ℕ, suc, zero, ◌≤◌, ◌+◌, ◌-◌, ◌*◌, ◌^◌, ◌⊎◌, ◌↔◌, true, List, [], ◌∷◌, length, slice_index, IsSome}
use Rattle.std.specs.FinMap as map
use Rattle.congee.specs.Heap.{Below, fits}
use Rattle.congee.specs.Keys.{key_bytes}
use Rattle.congee.specs.owned.Arena.{Nodes, heap_of}
use Rattle.congee.specs.owned.Table.{pairs_of}
use Rattle.congee.specs.declared.owned.scan.Branch.{Branch}

-- node b hangs in node a under the byte that a's step passed last
pub record HangsBelow {P : Type 0} (s : Nodes P) (a b : Branch) : Type 0 where
  pub byte : ℕ
  pub passed : byte + 1 ≡ a.from
  pub bound : a.from ≤ 256
  pub hangs : (heap_of s a.node).children byte ≡ Below b.node

-- the nodes of these steps hang below that of step a, each in the one before
abbrev pub IsDescent : {P : Type 0} → Nodes P → Branch → List Branch → Type 0
IsDescent s a [] = a.from ≤ 256
IsDescent s a (b ∷ rest) = HangsBelow s a b × IsDescent s b rest

-- a way from the root down
abbrev pub IsCursor : {P : Type 0} → Nodes P → List Branch → Type 0
IsCursor s [] = Unit {0}
IsCursor s (a ∷ rest) = (a.node ≡ 0) × IsDescent s a rest

-- the key has the prefix of the step's node, and then a byte that the step has yet to look at
pub record HasAhead {P : Type 0} (s : Nodes P) (step : Branch) (key : List ℕ) : Type 0 where
  pub fitted : fits (heap_of s step.node).prefix key ≡ true
  pub past : step.from ≤ slice_index key (length (heap_of s step.node).prefix)

-- one of the steps has yet to come to the key
abbrev pub IsAhead : {P : Type 0} → Nodes P → List Branch → List ℕ → Type 0
IsAhead s [] key = ⊥
IsAhead s (step ∷ rest) key = HasAhead s step key ⊎ IsAhead s rest key

-- the pairs ahead are those from a number on
pub record IsAt {P : Type 0} (s : Nodes P) (steps : List Branch) (from : ℕ) : Type 0 where
  pub ahead : (q : ℕ) → IsSome (map.get (pairs_of s) q) → (from ≤ q) ↔ IsAhead s steps (key_bytes q)

-- no fewer than the steps that are still to come: a node has 256 bytes, and each may lead to a node of the next of so many levels
abbrev pub steps_left : ℕ → List Branch → ℕ
steps_left zero steps = 0
steps_left (suc levels) [] = 0
steps_left (suc levels) (step ∷ rest) = (257 - step.from) * 258 ^ levels + steps_left levels rest

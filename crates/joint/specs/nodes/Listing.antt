-- The nodes that stand, and those of them that wait for their destruction, each listed once.
use Rattle.std.specs.Prelude.{◌≢◌, ◌↔◌, ℕ, suc, ◌-◌, ◌&&◌, not, Bool, List, [], ◌∷◌}
use Rattle.std.specs.List.{AllPairs, Contains, filter}
use Rattle.crossbeam_epoch.specs.declared.world.cells.Cell.{Cell}
use Rattle.crossbeam_epoch.specs.world.Store.{value_at}
use Rattle.congee.specs.Heap.{Node}
use Rattle.congee.specs.protocol.Handing.{is_handed_over}
use Rattle.joint.specs.nodes.Nodes.{Nodes, nodes, of_value, size}
use Rattle.joint.specs.Names.{number, named}

-- the list has each number of which P holds once, and no other
pub record IsListOf (P : ℕ → Type 0) (ns : List ℕ) : Type 0 where
  pub once : AllPairs (λ m n. m ≢ n) ns
  pub those : (n : ℕ) → Contains ns n ↔ P n

-- the number of the last name that was given to the cell at a place
abbrev pub last_name : {T : Type 0} → ℕ → Cell T → ℕ
last_name i c = number (record { cell = i; turn = c.turns - 1 })

-- of these cells, the first of which stands at this place
abbrev pub last_names : {T : Type 0} → ℕ → List (Cell T) → List ℕ
last_names i [] = []
last_names i (c ∷ cs) = last_name i c ∷ last_names (suc i) cs

-- the nodes that pass a test
abbrev pub nodes_that : {V : Type 0} → (Node V → Bool) → Nodes V → List ℕ
nodes_that test s = filter (λ n. test (nodes s n)) (last_names 0 s.collector.store.cells)

-- whether a node stands
abbrev pub is_standing : {V : Type 0} → Node V → Bool
is_standing n = n.made && not n.destroyed

-- the nodes that stand
abbrev pub standing_nodes : {V : Type 0} → Nodes V → List ℕ
standing_nodes s = nodes_that is_standing s

-- those of them that were handed over
abbrev pub handed_nodes : {V : Type 0} → Nodes V → List ℕ
handed_nodes s = nodes_that is_handed_over s

-- what is charged for the node that stands under a number, in bytes
abbrev pub bytes_of : {V : Type 0} → Nodes V → ℕ → ℕ
bytes_of s n = of_value size (value_at s.collector.store (named n))

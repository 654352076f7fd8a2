-- The sizes of the nodes of a tree.
use Rattle.std.specs.Prelude.{◌≡◌, ℕ, zero, suc, ◌+◌, ◌<◌, List, [], ◌∷◌, Option, Some, IsSome}
use Rattle.std.specs.FinMap as map
use Rattle.congee.specs.Heap.{Below}
use Rattle.congee.specs.forms.Forms.{children_of, size_of}
use Rattle.congee.specs.owned.Arena.{hung_in}
use Rattle.congee.specs.owned.Stats.{Shape}
use Rattle.congee.specs.declared.forms.base_node.Node.{Node as Form}

-- the sum of the nodes' sizes, in bytes
abbrev pub sizes_of : List Shape → ℕ
sizes_of [] = 0
sizes_of (node ∷ nodes) = size_of node.form + sizes_of nodes

module _ {P : Type 0} where
  -- what hangs in a node hangs at bytes
  abbrev pub HasBytes : Option (Form ℕ P) → Type 0
  HasBytes o = (x : Form ℕ P) → o ≡ Some x → (b : ℕ) → IsSome (map.get (children_of x) b) → b < 256

  -- so it does in the nodes from one down, over so many levels
  unfoldable pub HasBytesFrom : (ℕ → Option (Form ℕ P)) → ℕ → ℕ → Type 0
  HasBytesFrom s zero n = Unit {0}
  HasBytesFrom s (suc f) n = HasBytes (s n)
      × ((x : Form ℕ P) (b c : ℕ) → s n ≡ Some x → hung_in (map.get (children_of x) b) ≡ Below c → HasBytesFrom s f c)

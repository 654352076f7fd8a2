-- Whether a form is full.
use Rattle.std.proofs.Common.{◌≡◌, ℕ, Bool, false, ◌==◌, refl}
use Rattle.std.specs.FinMap as map
use Rattle.congee.specs.forms.Forms.{form_of, children_of, is_full_of}
use Rattle.congee.specs.declared.forms.base_node.Node.{Node}
use Rattle.congee.specs.declared.forms.base_node.NodeType.{NodeType}
use Rattle.congee.specs.declared.forms.base_node.NodeType.TheVariants.{N4, N16, N48, N256}
use Rattle.congee.specs.declared.forms.base_node.Node.TheVariants as node

-- whether so many children fill a form
abbrev pub full_at : NodeType → ℕ → Bool
full_at N4 n = n == 4
full_at N16 n = n == 16
full_at N48 n = n == 48
full_at N256 n = false

-- whether a node is full is told by its form and how many children it has
pub full_is : {P : Type 0} (n : Node ℕ P) → is_full_of n ≡ full_at (form_of n) (map.len (children_of n))
full_is (node.N4 n) = refl
full_is (node.N16 n) = refl
full_is (node.N48 n) = refl
full_is (node.N256 n) = refl

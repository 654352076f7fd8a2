-- How many children the nodes of an owned tree have: a node but the root has one, two where it holds nodes; and none is too small for
-- its form, where no removal goes on without a lesser node that it wants.
use Rattle.std.specs.Prelude.{◌≡◌, ◌≢◌, ℕ, ◌+◌, ◌-◌, nat_lt, cond, Bool, true, false, max, List, [], ◌∷◌, length, drop, Option, None, Some}
use Rattle.std.specs.FinMap as map
use Rattle.std.specs.List.{All}
use Rattle.slab.specs.Slab.{get}
use Rattle.congee.specs.forms.Forms.{capacity_of, children_of, form_of, prefix_of}
use Rattle.congee.specs.owned.Arena.{Nodes}
use Rattle.congee.specs.owned.Going.{Going, Lesser}
use Rattle.congee.specs.owned.Stats.{Shape}
use Rattle.congee.specs.protocol.Filled.{Branches, FilledAs, least_in}
use Rattle.congee.specs.declared.forms.base_node.Node.{Node}
use Rattle.congee.specs.declared.forms.base_node.NodeType.{NodeType}
use Rattle.congee.specs.declared.forms.prefix.TheConstants.{MAX_PREFIX_LEN}

-- each node of the tree but the root, which alone is on level 0, has a child, two where it holds nodes, and isn't too small for
-- its form
abbrev pub AllFilled : List Shape → Type 0
AllFilled nodes = All (λ n. n.level ≢ 0 → FilledAs n.prefix n.children (capacity_of n.form)) nodes

-- each of them has a child, two where it holds nodes
abbrev pub AllBranch : List Shape → Type 0
AllBranch nodes = All (λ n. n.level ≢ 0 → Branches n.prefix n.children) nodes

-- so many places are those of the form, or none, where nothing is asked by the form
abbrev pub places_for : Bool → NodeType → ℕ
places_for true form = capacity_of form
places_for false form = 0

-- the fewest children of such a node, by its form and the bytes of its prefix
abbrev pub fewest : NodeType → ℕ → ℕ
fewest form prefix = max (least_in form) (cond (nat_lt prefix MAX_PREFIX_LEN) 2 1)

module _ {P : Type 0} where
  -- how many children it lacks
  abbrev pub lacks : Option (Node ℕ P) → ℕ
  lacks None = 0
  lacks (Some x) = fewest (form_of x) (length (prefix_of x)) - map.len (children_of x)

  -- how many those in a list lack
  abbrev pub lacks_all : List (Option (Node ℕ P)) → ℕ
  lacks_all [] = 0
  lacks_all (o ∷ r) = lacks o + lacks_all r

  -- how many the nodes lack in all; the first, the root, lacks none
  unfoldable pub lacking_of : Nodes P → ℕ
  lacking_of s = lacks_all (drop 1 s.slots)

  -- the node has enough for so many places
  abbrev pub FilledIn : ℕ → Node ℕ P → Type 0
  FilledIn capacity x = FilledAs (length (prefix_of x)) (map.len (children_of x)) capacity

  -- the node has enough, and for the places of its form, if that is asked: it has a child, two where it holds nodes, and is large
  -- enough for its form
  abbrev pub HasEnough : Bool → Node ℕ P → Type 0
  HasEnough by_form x = FilledIn (places_for by_form (form_of x)) x

  -- so have the nodes of an arena, but the root
  abbrev pub NodesFilled : Bool → Nodes P → Type 0
  NodesFilled by_form s = (n : ℕ) (x : Node ℕ P) → n ≢ 0 → get s n ≡ Some x → HasEnough by_form x

  -- but the root and this one
  abbrev pub OthersFilled : Bool → Nodes P → ℕ → Type 0
  OthersFilled by_form s at = (n : ℕ) (x : Node ℕ P) → n ≢ 0 → n ≢ at → get s n ≡ Some x → HasEnough by_form x

-- the lesser node that was wanted came in the place of the greater one, as the sum of the nodes' sizes tells
abbrev pub LesserCame : (before after gone : ℕ) → Option Lesser → Type 0
LesserCame before after gone None = Unit {0}
LesserCame before after gone (Some l) = after + gone + l.left ≡ before + l.made

-- a call with which these nodes went did without none that it wanted
abbrev pub NoneSkipped : (before after : ℕ) → Option Going → Type 0
NoneSkipped before after None = Unit {0}
NoneSkipped before after (Some g) = LesserCame before after g.gone g.lesser

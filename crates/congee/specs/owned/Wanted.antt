-- The nodes that an insertion makes.
use Rattle.std.specs.Prelude.{◌≡◌, ℕ, zero, suc, ◌+◌, ◌-◌, ◌≤◌, ◌<◌, ◌==◌, ◌&&◌, ◌⊎◌, not, cond, List, [], ◌∷◌, ◌^◌, length, Option, None, Some}
use Rattle.std.specs.Ordering.{nat_cmp}
use Rattle.std.specs.FinMap.{FinMap, get}
use Rattle.congee.specs.Heap.{Node, Hung, Nothing, Below, Holds, fits, child_for}
use Rattle.congee.specs.owned.Arena.{Nodes, heap_of}
use Rattle.congee.specs.Keys.{key_bytes}
use Rattle.congee.specs.owned.Table.{table}
use Rattle.congee.specs.owned.OwnedSteps.{IsRefusal}
use Rattle.congee.specs.declared.allocator.OOMError.{OOMError}
use Rattle.congee.specs.forms.Forms.{size_of, next_form}
use Rattle.congee.specs.declared.forms.base_node.NodeType.{NodeType}
use Rattle.congee.specs.declared.forms.base_node.NodeType.TheVariants.{N4, N16, N48, N256}
use Rattle.congee.specs.declared.keys.TheConstants.{KEY_BYTES}
use Rattle.congee.specs.declared.forms.prefix.TheConstants.{MAX_PREFIX_LEN}

-- the form of a node of so many places
abbrev pub form_by : ℕ → NodeType
form_by capacity = cond (capacity == 4) N4 (cond (capacity == 16) N16 (cond (capacity == 48) N48 N256))

-- the size of a node of so many places, in bytes
abbrev pub size_by : ℕ → ℕ
size_by capacity = size_of (form_by capacity)

-- the size of the form that a full node of so many places grows to
abbrev pub grown_size : ℕ → ℕ
grown_size capacity = size_of (next_form (form_by capacity))

-- the insertion of any key makes a leaf alone
abbrev pub WantsLeaf : FinMap nat_cmp (List ℕ) → Type 0
WantsLeaf wants = (k : ℕ) → k < 2 ^ 64 → get wants k ≡ Some (size_of N4 ∷ [])

-- by how much the sizes of the nodes grow where one of this size is made: it is a least one, or takes the place of one
-- of the form before
abbrev pub net : ℕ → ℕ
net size =
    cond
    (size == size_of N4)
    (size_of N4)
    (cond (size == size_of N16) (size_of N16 - size_of N4) (cond (size == size_of N48) (size_of N48 - size_of N16) (size_of N256 - size_of N48)))

-- the same for several
abbrev pub gain : List ℕ → ℕ
gain [] = 0
gain (size ∷ sizes) = net size + gain sizes

-- the same of an insertion, which may make none
abbrev pub gain_of : Option (List ℕ) → ℕ
gain_of None = 0
gain_of (Some sizes) = gain sizes

-- each of these nodes fits the limit where it is charged after those before it: one that takes the place of another is
-- charged while that one still is
abbrev pub AllFit : List ℕ → ℕ → ℕ → Type 0
AllFit [] charged limit = Unit {0}
AllFit (size ∷ sizes) charged limit = (charged + size ≤ limit) × AllFit sizes (charged + size) limit

-- so do the nodes that an insertion makes
abbrev pub InsertionFits : Option (List ℕ) → ℕ → ℕ → Type 0
InsertionFits None charged limit = Unit {0}
InsertionFits (Some sizes) charged limit = AllFit sizes charged limit

-- why the first of these nodes wasn't made, or a later one, which is charged after those before it
abbrev pub IsRefusedOf : List ℕ → ℕ → ℕ → OOMError → Type 0
IsRefusedOf [] charged limit e = ⊥
IsRefusedOf (size ∷ sizes) charged limit e = IsRefusal charged size limit e ⊎ ((charged + size ≤ limit) × IsRefusedOf sizes (charged + size) limit e)

-- why an insertion was refused; where it makes no nodes it never is
abbrev pub IsRefused : Option (List ℕ) → ℕ → ℕ → OOMError → Type 0
IsRefused None charged limit e = ⊥
IsRefused (Some sizes) charged limit e = IsRefusedOf sizes charged limit e

module _ {P X : Type 0} where
  -- what is said at the last node of a key's way, by what hangs at its byte; where a node does, the way goes on
  abbrev pub at_end : (Node P → Hung P → X) → Node P → (ℕ → X) → Hung P → X
  at_end last n go Nothing = last n Nothing
  at_end last n go (Below c) = go c
  at_end last n go (Holds v) = last n (Holds v)

  -- what the last node on a key's way gives with what it has for the key, or `apart` where it leads to a node whose
  -- prefix the key lacks
  abbrev pub descend : X → (Node P → Hung P → X) → (ℕ → Node P) → ℕ → ℕ → List ℕ → X
  descend apart last h zero n key = apart
  descend apart last h (suc f) n key = cond (fits (h n).prefix key) (at_end last (h n) (λ c. descend apart last h f c key) (child_for (h n) key)) apart

module _ {P : Type 0} where
  -- a node without room for a further child makes one of the next form; a node of 256 places always has room
  abbrev pub room_for : Node P → List ℕ
  room_for n = cond (not (n.capacity == 256) && (n.count == n.capacity)) (grown_size n.capacity ∷ []) []

  -- a key's value needs room in a leaf, and in another node a leaf and room for it
  abbrev pub free_wants : Node P → List ℕ
  free_wants n = cond (length n.prefix == MAX_PREFIX_LEN) (room_for n) (size_of N4 ∷ room_for n)

  -- what the insertion of an absent key makes at the last node of its way
  abbrev pub last_wants : Node P → Hung P → Option (List ℕ)
  last_wants n Nothing = Some (free_wants n)
  last_wants n (Below c) = None
  last_wants n (Holds v) = None

  -- the sizes of the nodes that an insertion of the key makes, one after the other; none where the key is present.
  -- Where the key parts from a node's prefix, a node over that one and a leaf
  unfoldable pub wants_at : (ℕ → Node P) → List ℕ → Option (List ℕ)
  wants_at h key = descend (Some (size_of N4 ∷ size_of N4 ∷ [])) last_wants h KEY_BYTES 0 key

  -- for each absent key of 64 bits the sizes of the nodes that its insertion makes
  unfoldable pub wants_of : Nodes P → FinMap nat_cmp (List ℕ)
  wants_of s = table (λ k. wants_at (heap_of s) (key_bytes k)) (2 ^ 64)

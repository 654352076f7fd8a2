-- What goes with a key's value where it is taken out.
use Rattle.std.specs.Prelude.{◌≡◌, ◌≢◌, ℕ, zero, suc, ◌+◌, ◌≤◌, ◌<◌, ◌==◌, ◌⊎◌, cond, Bool, true, false, List, ◌^◌, Option, None, Some, refl}
use Rattle.std.specs.Ordering.{nat_cmp}
use Rattle.std.specs.FinMap.{FinMap}
use Rattle.std.specs.Coded.{Coded, code_by, coded×, coded_ℕ, coded_option}
use Rattle.congee.specs.Heap.{Node, Hung, Nothing, Below, Holds, fits, child_for}
use Rattle.congee.specs.Keys.{key_bytes}
use Rattle.congee.specs.forms.Forms.{size_of}
use Rattle.congee.specs.owned.Arena.{Nodes, heap_of}
use Rattle.congee.specs.owned.Table.{table}
use Rattle.congee.specs.owned.Wanted.{form_by, size_by}
use Rattle.congee.specs.protocol.Steps.{form_below, shrinks}
use Rattle.congee.specs.declared.forms.base_node.NodeType.{NodeType}
use Rattle.congee.specs.declared.forms.base_node.NodeType.TheVariants.{N4}
use Rattle.congee.specs.declared.keys.TheConstants.{KEY_BYTES}

-- a node gives place to one of the form below: the sizes of the new one and of the old one, in bytes
pub record Lesser : Type 0 where
  pub made : ℕ
  pub left : ℕ

-- nodes of so many bytes go, and one that is left small gives place to a lesser one
pub record Going : Type 0 where
  pub gone : ℕ
  pub lesser : Option Lesser

-- its code
abbrev pub lesser_code : Coded Lesser
lesser_code = code_by (ℕ × ℕ) (coded× coded_ℕ coded_ℕ) (λ l. (l.made, l.left)) (λ p. record { made = p.0; left = p.1 }) (λ _. refl)

-- and the code of what goes
abbrev pub going_code : Coded Going
going_code = code_by (ℕ × Option Lesser) (coded× coded_ℕ (coded_option lesser_code)) (λ g. (g.gone, g.lesser)) (λ p. record { gone = p.0; lesser = p.1 }) (λ _. refl)

-- nothing goes where another value comes
abbrev pub going_by : {Y : Type 0} → Option Y → Option Going → Option Going
going_by None going = going
going_by (Some y) going = None

-- how the sum of the nodes' sizes moved as they went. The lesser node is charged while all others still are. It isn't made, and
-- the greater one stays, where it passes the limit, or where memory is refused, which one of the least form doesn't want
abbrev pub GaveWay : (charged limit before after : ℕ) → ℕ → Option Lesser → Type 0
GaveWay charged limit before after gone None = after + gone ≡ before
GaveWay charged limit before after gone (Some l) = ((charged + l.made ≤ limit) × (after + gone + l.left ≡ before + l.made))
    ⊎ ((after + gone ≡ before) × ((limit < charged + l.made) ⊎ (l.made ≢ size_of N4)))

-- the same where something goes; else they stay
abbrev pub Went : (charged limit before after : ℕ) → Option Going → Type 0
Went charged limit before after None = after ≡ before
Went charged limit before after (Some g) = GaveWay charged limit before after g.gone g.lesser

-- whether a node of the form gives place to one of the form below
abbrev pub lesser_if : Bool → NodeType → Option Lesser
lesser_if false form = None
lesser_if true form = Some (record { made = size_of (form_below form); left = size_of form })

module _ {P : Type 0} where
  -- a node that is small with a child fewer does
  abbrev pub lesser_of : Node P → Option Lesser
  lesser_of n = lesser_if (shrinks (form_by n.capacity) n.count) (form_by n.capacity)

  -- a value goes from a leaf that has others
  abbrev pub going_one : Node P → Going
  going_one leaf = record { gone = 0; lesser = lesser_of leaf }

  -- a leaf goes from the root, or from another node: one with two children goes too, and the other child takes its place
  abbrev pub going_last : Node P → ℕ → Node P → Going
  going_last leaf zero above = record { gone = size_by leaf.capacity; lesser = None }
  going_last leaf (suc n) above =
      cond
      (above.count == 2)
      (record { gone = size_by leaf.capacity + size_by above.capacity; lesser = None })
      (record { gone = size_by leaf.capacity; lesser = lesser_of above })

  -- a value goes from leaf n, which hangs in node `above`
  abbrev pub going_from : (ℕ → Node P) → ℕ → ℕ → Going
  going_from h above n = cond ((h n).count == 1) (going_last (h n) above (h above)) (going_one (h n))

  -- what goes with the value at a key's byte, if one is there; where a node is, the way goes on
  abbrev pub at_leaf : (ℕ → Node P) → ℕ → ℕ → (ℕ → Option Going) → Hung P → Option Going
  at_leaf h above n go Nothing = None
  at_leaf h above n go (Below c) = go c
  at_leaf h above n go (Holds v) = Some (going_from h above n)

  -- down the key's way from node n, which hangs in node `above`, over so many nodes at most
  abbrev pub goes_down : (ℕ → Node P) → ℕ → ℕ → ℕ → List ℕ → Option Going
  goes_down h zero above n key = None
  goes_down h (suc f) above n key = cond (fits (h n).prefix key) (at_leaf h above n (λ c. goes_down h f n c key) (child_for (h n) key)) None

  -- what goes with a key's value; none where the key is absent
  unfoldable pub goes_at : (ℕ → Node P) → List ℕ → Option Going
  goes_at h key = goes_down h KEY_BYTES 0 0 key

  -- the same for each key of 64 bits that is present
  unfoldable pub goes_of : Nodes P → FinMap nat_cmp Going
  goes_of s = table (λ k. goes_at (heap_of s) (key_bytes k)) (2 ^ 64)

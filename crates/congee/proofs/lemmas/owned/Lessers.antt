-- What goes leaves no more bytes than before: a lesser node is no larger than the one whose place it takes.
use Rattle.std.proofs.Common.{◌≡◌, ℕ, zero, suc, ◌+◌, ◌≤◌, ◌==◌, Bool, true, false, cond, List, inl, inr, arith}
use Rattle.std.specs.Prelude.{Option, None, Some}
use Rattle.congee.specs.Heap.{Hung, Nothing, Below, Holds, Node, fits, child_for}
use Rattle.congee.specs.forms.Forms.{size_of}
use Rattle.congee.specs.owned.Going.{GaveWay, Going, Lesser, Went, at_leaf, going_by, going_from, going_last, going_one, goes_at, goes_down, lesser_if, lesser_of}
use Rattle.congee.specs.owned.Wanted.{form_by, size_by}
use Rattle.congee.specs.protocol.Steps.{form_below, shrinks}
use Rattle.congee.specs.declared.forms.base_node.NodeType.{NodeType}
use Rattle.congee.specs.declared.forms.base_node.NodeType.TheVariants.{N4, N16, N48, N256}

-- the lesser node, if one is wanted, is no larger
abbrev pub IsLess : Option Lesser → Type 0
IsLess None = Unit {0}
IsLess (Some l) = l.made ≤ l.left

-- so is that of what goes
abbrev pub GoesLess : Option Going → Type 0
GoesLess None = Unit {0}
GoesLess (Some g) = IsLess g.lesser

-- the form below is no larger
below_less : (form : NodeType) → size_of (form_below form) ≤ size_of form
below_less N4 = omega arith
below_less N16 = omega arith
below_less N48 = omega arith
below_less N256 = omega arith

if_less : (b : Bool) (form : NodeType) → IsLess (lesser_if b form)
if_less false form = tt
if_less true form = below_less form

choice : (b : Bool) (x y : Going) → IsLess x.lesser → IsLess y.lesser → IsLess (cond b x y).lesser
choice true x y p q = p
choice false x y p q = q

choice_of : (b : Bool) (x : Option Going) → GoesLess x → GoesLess (cond b x None)
choice_of true x p = p
choice_of false x p = tt

module _ {P : Type 0} where
  of_less : (n : Node P) → IsLess (lesser_of n)
  of_less n = if_less (shrinks (form_by n.capacity) n.count) (form_by n.capacity)

  last_less : (leaf : Node P) (n : ℕ) (above : Node P) → IsLess (going_last leaf n above).lesser
  last_less leaf zero above = tt
  last_less leaf (suc n) above =
      choice
      (above.count == 2)
      (record { gone = size_by leaf.capacity + size_by above.capacity; lesser = None })
      (record { gone = size_by leaf.capacity; lesser = lesser_of above })
      tt
      (of_less above)

  from_less : (h : ℕ → Node P) (above n : ℕ) → IsLess (going_from h above n).lesser
  from_less h above n = choice ((h n).count == 1) (going_last (h n) above (h above)) (going_one (h n)) (last_less (h n) above (h above)) (of_less (h n))

  leaf_less : (h : ℕ → Node P) (above n : ℕ) (go : ℕ → Option Going) → ((c : ℕ) → GoesLess (go c)) → (x : Hung P) → GoesLess (at_leaf h above n go x)
  leaf_less h above n go f Nothing = tt
  leaf_less h above n go f (Below c) = f c
  leaf_less h above n go f (Holds v) = from_less h above n

  down_less : (h : ℕ → Node P) (f above n : ℕ) (key : List ℕ) → GoesLess (goes_down h f above n key)
  down_less h zero above n key = tt
  down_less h (suc f) above n key =
      choice_of (fits (h n).prefix key) (at_leaf h above n (λ c. goes_down h f n c key) (child_for (h n) key)) (leaf_less h above n (λ c. goes_down h f n c key) (λ c. down_less h f n c key) (child_for (h n) key))

  -- with a key's value goes no node in whose place a larger one comes
  pub at_less : (h : ℕ → Node P) (key : List ℕ) → GoesLess (goes_at h key)
  unfolding goes_at
  at_less h key = down_less h 8 0 0 key

-- nor by an answer
pub by_less : {Y : Type 0} (by : Option Y) (going : Option Going) → GoesLess going → GoesLess (going_by by going)
by_less None going p = p
by_less (Some y) going p = tt

gave_down : (charged limit before after gone : ℕ) (lesser : Option Lesser) → IsLess lesser → GaveWay charged limit before after gone lesser → after ≤ before
gave_down charged limit before after gone None p w = let e : after + gone ≡ before = w in omega (arith, e)
gave_down charged limit before after gone (Some l) p (inl w) = let e : after + gone + l.left ≡ before + l.made = w.1 in let m : l.made ≤ l.left = p in omega (arith, e, m)
gave_down charged limit before after gone (Some l) p (inr w) = let e : after + gone ≡ before = w.0 in omega (arith, e)

-- so the nodes take no more bytes than before
pub went_down : (charged limit before after : ℕ) (going : Option Going) → GoesLess going → Went charged limit before after going → after ≤ before
went_down charged limit before after None p w = let e : after ≡ before = w in omega (arith, e)
went_down charged limit before after (Some g) p w = gave_down charged limit before after g.gone g.lesser p w

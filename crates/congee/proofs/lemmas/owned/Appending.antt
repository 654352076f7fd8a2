-- A key's way from a slot on, and an open leaf.
use Rattle.std.proofs.Common.{◌≡◌, ℕ, ◌+◌, ◌*◌, ◌%◌, Bool, true, false, List, length, get_or, refl, sym, ap, subst, ◌∙◌, arith}
use Rattle.std.specs.Prelude.{Option, None, Some, is_some, not}
use Rattle.std.specs.Borrow.{Bor}
use Rattle.std.specs.Option.{option_copied, option_map}
use Rattle.std.specs.FinMap as map
use Rattle.slab.specs.Slab.{Slab, get}
use Rattle.congee.specs.Heap.{Below, Holds, fits, child_for}
use Rattle.congee.specs.forms.Forms.{children_of, form_of, is_full_of, next_form, prefix_of}
use Rattle.congee.specs.owned.Arena.{Nodes, IsTree, OnWay, Hangs, heap_of, node_of}
use Rattle.congee.specs.owned.Kinds.{full_in, prefix_in}
use Rattle.congee.specs.owned.Naming.{HasOwnSlot}
use Rattle.congee.specs.owned.OwnedSteps.{IsHeld, MakesRoom}
use Rattle.congee.specs.owned.Place.{Ends, EndsAt, IsOpen, Located, PartsAt}
use Rattle.congee.specs.owned.Slots.{nodes_in, slot_node}
use Rattle.congee.specs.owned.Storage.{HasKind, IsStored}
use Rattle.congee.specs.declared.forms.base_node.Node.{Node}
use Rattle.congee.specs.declared.forms.child.Child.TheVariants.{Value}
use Rattle.congee.specs.declared.owned.place.Place.{Place}
use Rattle.congee.specs.declared.owned.place.Spot.{Spot}
use Rattle.congee.specs.declared.owned.place.Spot.TheVariants.{Held, Free, Apart}
use Rattle.congee.specs.declared.owned.slots.Slot.{Slot}
use Rattle.congee.specs.declared.owned.slots.Slot.TheVariants.{Leaf}
use Rattle.congee.proofs.lemmas.owned.Hangings.{inline_hangs}
use Rattle.congee.proofs.lemmas.owned.Moves.{stands_at}
use Rattle.congee.proofs.lemmas.owned.Stored.{leaf_nothing, seen_full, seen_prefix, slot_fits, slot_seen}
use Rattle.congee.proofs.lemmas.owned.Ways.{below_stands}

-- a slot's first name is its node's own
pub own_name : (slot : ℕ) → HasOwnSlot (257 * slot)
own_name slot = omega arith

none_of : {X : Type 0} (o : Option X) (b : Bool) → is_some o ≡ not b → b ≡ true → o ≡ None
none_of None b e t = refl
none_of (Some x) b e t = absurd (let z : true ≡ false = e ∙ ap not t in cc)

module _ {P K : Type 0} (s : Slab (Slot P K)) (v : Nodes P) (is : nodes_in s ≡ v) (i : ℕ) (x : Slot P K) (key : List ℕ) (e : get s i ≡ Some x) where
  stands : get v (257 * i) ≡ Some (slot_node i x)
  stands = ap (λ w. get w (257 * i)) (sym is) ∙ slot_seen s i x e

  -- a slot whose node has a prefix of the key
  pub slot_on_way : fits (prefix_in x) key ≡ true → OnWay v key (257 * i)
  slot_on_way f = record { stands = stands_at v (257 * i) (slot_node i x) stands; fitted = slot_fits s v is i x key e ∙ f }

  -- a leaf in a slot that has nothing for a key of its prefix, and room
  pub slot_open : (inline : ℕ) → IsStored s inline → (n : Node ℕ P) → x ≡ Leaf n → fits (prefix_of n) key ≡ true → is_full_of n ≡ false
      → (o : Option (Bor P)) → option_map Value (option_copied o) ≡ map.get (children_of n) (get_or key 7 0) → (b : Bool) → is_some o ≡ not b → b ≡ true → IsOpen v key (257 * i)
  slot_open inline st n q f full o read b none t =
      let seven : length (prefix_of n) ≡ 7 = subst HasKind (e ∙ ap Some q) (st.kinds i) in
      let h : heap_of v (257 * i) ≡ node_of (Some (slot_node i x)) = ap node_of stands in
      record {
        way = slot_on_way (ap (λ w. fits (prefix_in w) key) q ∙ f);
        leaf = ap (λ w. length w.prefix) h ∙ (ap length (seen_prefix i x) ∙ (ap (λ w. length (prefix_in w)) q ∙ seven));
        free = leaf_nothing s v is i x key e n q 7 (sym seven) o read (none_of o b none t);
        room = λ y g. (let z : Some (slot_node i x) ≡ Some y = sym stands ∙ g in
            let same : slot_node i x ≡ y = cc in
            ap is_full_of (sym same) ∙ (seen_full i x ∙ (ap full_in q ∙ full)));
      }

module _ {P : Type 0} where
  -- the way goes on to a node that hangs at the key's byte and whose prefix the key has
  pub way_below : (s : Nodes P) → IsTree s → (key : List ℕ) (n c : ℕ) → OnWay s key n → child_for (heap_of s n) key ≡ Below c → fits (heap_of s c).prefix key ≡ true → OnWay s key c
  way_below s t key n c w e f = record { stands = below_stands s t n c key w.stands e; fitted = f }

  -- a way that ends at a node with a slot of its own
  pub ends_own : (s : Nodes P) (key : List ℕ) (p : Place) (slot : ℕ) (spot : Spot) → p.at ≡ 257 * slot → p.spot ≡ spot → OnWay s key (257 * slot) → EndsAt s key (257 * slot) spot → Ends s key p
  ends_own s key p slot spot b c w e = record { way = rw b w; hangs = λ no. absurd (no (rw b (own_name slot))); ends = rw (b, c) e }

  -- and one that ends at a node that hangs in such a one
  pub ends_below : (s : Nodes P) → IsTree s → (key : List ℕ) (p : Place) (slot leaf : ℕ) (spot : Spot) → p.above ≡ 257 * slot → p.at ≡ leaf → p.spot ≡ spot → OnWay s key (257 * slot)
      → child_for (heap_of s (257 * slot)) key ≡ Below leaf → fits (heap_of s leaf).prefix key ≡ true → EndsAt s key leaf spot → Ends s key p
  ends_below s t key p slot leaf spot a b c w e f h = record {
    way = rw b (way_below s t key (257 * slot) leaf w e f);
    hangs = λ no. rw (a, b) (record { way = w; child = e });
    ends = rw (b, c) h;
  }

  -- the end of a whole way is one
  pub located_ends : (s : Nodes P) (key : List ℕ) (p : Place) → Located s key p → Ends s key p
  located_ends s key p l = record { way = l.reached.way; hangs = inline_hangs s key p.above p.at l.reached; ends = l.ends }

  -- a held end has a value for the key
  pub ends_held : (s : Nodes P) (key : List ℕ) (p : Place) → Ends s key p → p.spot ≡ Held → IsHeld s key p.at
  ends_held s key p l e =
      let E : Spot → Type 0 = λ x. EndsAt s key p.at x in
      let d : EndsAt s key p.at Held = subst E e l.ends in
      record { value = d.0; holds = d.1 }

  -- the key leaves the prefix of the node that hangs at the end
  pub ends_parts : (s : Nodes P) (key : List ℕ) (p : Place) (c : ℕ) → Ends s key p → p.spot ≡ Apart c → PartsAt s key p.at c
  ends_parts s key p c l e =
      let E : Spot → Type 0 = λ x. EndsAt s key p.at x in
      let d : EndsAt s key p.at (Apart c) = subst E e l.ends in
      record { way = l.way; hangs = d.0; differs = d.1 }

  -- a node that isn't full has room as it is
  pub has_room : (s : Nodes P) (at : ℕ) → ((x : Node ℕ P) → get s at ≡ Some x → is_full_of x ≡ false) → (x : Node ℕ P) → get s at ≡ Some x → MakesRoom s s at x
  has_room s at room x e = record {
    node = x;
    prefixed = refl;
    children = refl;
    form = rw (room x e) refl;
    room = room x e;
    wide = λ w. w;
    updates = record { changed = e; others = λ m ne. refl };
  }

  -- the key's byte at an open leaf is its last one
  pub last_byte : (s : Nodes P) (key : List ℕ) (at : ℕ) → IsOpen s key at → get_or key 7 0 ≡ get_or key (length (heap_of s at).prefix) 0
  last_byte s key at o = ap (λ k. get_or key k 0) (sym o.leaf)

-- A node as a walk has read it, and what hangs in it.
use Rattle.std.proofs.Common.{◌≡◌, ℕ, suc, ◌<◌, ◌≤◌, ◌+◌, ◌*◌, ◌^◌, true, List, length, get_or, sym, ap, subst, ◌∙◌, arith}
use Rattle.std.specs.Prelude.{Option, None, Some}
use Rattle.std.specs.Int.Bits.{bit_or}
use Rattle.std.proofs.lemmas.Nat.{or_shifted}
use Rattle.std.proofs.Math.Nat.{div-one}
use Rattle.std.specs.FinMap as map
use Rattle.slab.specs.Slab.{Slab, get}
use Rattle.congee.specs.Heap.{fits}
use Rattle.congee.specs.Keys.{key_bytes}
use Rattle.congee.specs.forms.Bytes.{IsFirst}
use Rattle.congee.specs.forms.Forms.{children_of, prefix_of}
use Rattle.congee.specs.forms.Mapped.{mapped}
use Rattle.congee.specs.owned.Arena.{Nodes, heap_of, node_of}
use Rattle.congee.specs.owned.Naming.{offset_of}
use Rattle.congee.specs.owned.Sights.{SeesInner, SeesLeaf}
use Rattle.congee.specs.owned.Slots.{inner_child, leaf_child, lone_in, lone_node, with_children, slot_node, in_slot, nodes_in}
use Rattle.congee.specs.owned.Storage.{HasKind, IsStored}
use Rattle.congee.specs.owned.Stores.{StandsWith}
use Rattle.congee.specs.declared.forms.base_node.Node.{Node}
use Rattle.congee.specs.declared.forms.child.Child.{Child}
use Rattle.congee.specs.declared.forms.child.Child.TheVariants.{Value}
use Rattle.congee.specs.declared.owned.inline_leaf.Lone.{Lone}
use Rattle.congee.specs.declared.owned.slots.Slot.{Slot}
use Rattle.congee.specs.declared.owned.slots.Slot.TheVariants.{Inner, Leaf}
use Rattle.congee.proofs.lemmas.Fits.{fits_byte}
use Rattle.congee.proofs.lemmas.Keys.{key_length}
use Rattle.congee.proofs.lemmas.Link.{Leaf as LeafAt}
use Rattle.congee.proofs.lemmas.Orders.{byte_small, same_bytes, first_bytes, top_step}
use Rattle.congee.proofs.lemmas.forms.MappedLemmas.{first_mapped, none_mapped}
use Rattle.congee.proofs.lemmas.forms.Prefixes.{fits_every}
use Rattle.congee.proofs.lemmas.owned.Joins.{leaf_of}
use Rattle.congee.proofs.lemmas.owned.SlotOps.{lone_leaf}
use Rattle.congee.proofs.lemmas.owned.Slots.{get_inline, with_mapped, with_prefix}
use Rattle.congee.proofs.lemmas.owned.Stored.{slot_seen}

-- a node by the parts of its name
module _ {P K : Type 0} (s : Slab (Slot P K)) (v : Nodes P) (is : nodes_in s ≡ v) (at i : ℕ) (byte : Option ℕ) (name : 257 * i + offset_of byte ≡ at) where
  -- a leaf that lies in its parent's place under the byte is what stands under the name
  pub sees_inline : (b : ℕ) (lone : Lone P) → byte ≡ Some b → get v (257 * i + (b + 1)) ≡ Some (lone_node lone) → get v at ≡ Some (lone_node lone)
  sees_inline b lone e h =
      let n : at ≡ 257 * i + (b + 1) = sym name ∙ ap (λ b. 257 * i + offset_of b) e in
      ap (get v) n ∙ h

  sees_slot : byte ≡ None → (x : Slot P K) → get s i ≡ Some x → get v at ≡ Some (slot_node i x)
  sees_slot e x g =
      let n : at ≡ 257 * i = sym name ∙ (ap (λ b. 257 * i + offset_of b) e ∙ omega arith) in
      ap (get v) n ∙ (ap (λ w. get w (257 * i)) (sym is) ∙ slot_seen s i x g)

  -- an inner node in the slot is what stands under a name without a byte
  pub sees_inner : byte ≡ None → (x : Slot P K) (n : Node ℕ (Lone P)) → get s i ≡ Some x → x ≡ Inner n → SeesInner v at i n
  sees_inner e x n g q = record {
    is = sees_slot e x g ∙ ap (λ y. Some (slot_node i y)) q;
    inline = λ b lone low h. ap (λ w. get w (257 * i + (b + 1))) (sym is) ∙ (get_inline s i b low ∙ (ap (λ z. in_slot i z (suc b)) (g ∙ ap Some q) ∙ ap lone_in h));
  }

  -- a leaf in the slot, with the key that it would have at byte 0, is what stands under such a name
  pub sees_leaf : byte ≡ None → (x : Slot P K) (n : Node ℕ P) → get s i ≡ Some x → x ≡ Leaf n → (least : ℕ) (p : List ℕ) → length (prefix_of n) ≡ 7 → p ≡ prefix_of n
      → fits p (key_bytes least) ≡ true → get_or (key_bytes least) 7 0 ≡ 0 → SeesLeaf v at least n
  sees_leaf e x n g q least p seven prefix begins ends = record {
    is = sees_slot e x g ∙ ap (λ y. Some (slot_node i y)) q;
    seven = seven;
    begins = subst (λ y. fits y (key_bytes least) ≡ true) prefix begins;
    ends = ends;
  }

-- a leaf in a slot has a prefix of seven bytes
pub leaf_seven : {P K : Type 0} (s : Slab (Slot P K)) (inline i : ℕ) → IsStored s inline → (x : Slot P K) (n : Node ℕ P) → get s i ≡ Some x → x ≡ Leaf n → length (prefix_of n) ≡ 7
leaf_seven s inline i k x n g q = subst HasKind (g ∙ ap Some q) (k.kinds i)

-- the first child from a byte on, as the tree sees it
module _ {P : Type 0} (s : Nodes P) (at from : ℕ) (x : Node ℕ P) (h : get s at ≡ Some x) where
  module _ (slot : ℕ) (n : Node ℕ (Lone P)) (k : SeesInner s at slot n) where
    -- the children that the tree sees are those that were read, changed by their bytes
    pub inner_map : mapped (inner_child slot) (children_of n) ≡ children_of x
    inner_map =
        let z : Some (with_children (inner_child slot) n) ≡ Some x = sym k.is ∙ h in
        let e : with_children (inner_child slot) n ≡ x = cc in
        sym (with_mapped (inner_child slot) n) ∙ ap children_of e

    -- the first child of an inner node that was read is the first that the tree sees
    pub inner_first : (b : ℕ) (c : Child ℕ (Lone P)) → IsFirst (children_of n) from b c → IsFirst (children_of x) from b (inner_child slot b c)
    inner_first b c f = subst (λ m. IsFirst m from b (inner_child slot b c)) inner_map (first_mapped (inner_child slot) (children_of n) from b c f)

    -- where an inner node that was read has no child from there on, the tree sees none
    pub inner_last : ((b : ℕ) → from ≤ b → map.get (children_of n) b ≡ None) → (b : ℕ) → from ≤ b → map.get (children_of x) b ≡ None
    inner_last f b l = ap (λ m. map.get m b) (sym inner_map) ∙ none_mapped (inner_child slot) (children_of n) b (f b l)

  module _ (least : ℕ) (n : Node ℕ P) (k : SeesLeaf s at least n) where
    -- and those of a leaf
    pub leaf_map : mapped leaf_child (children_of n) ≡ children_of x
    leaf_map =
        let z : Some (with_children leaf_child n) ≡ Some x = sym k.is ∙ h in
        let e : with_children leaf_child n ≡ x = cc in
        sym (with_mapped leaf_child n) ∙ ap children_of e

    -- the first value of a leaf that was read is the first that the tree sees
    pub leaf_first : (b : ℕ) (c : Child ℕ P) → IsFirst (children_of n) from b c → IsFirst (children_of x) from b (leaf_child b c)
    leaf_first b c f = subst (λ m. IsFirst m from b (leaf_child b c)) leaf_map (first_mapped leaf_child (children_of n) from b c f)

    -- where a leaf that was read has no value from there on, the tree sees none
    pub leaf_last : ((b : ℕ) → from ≤ b → map.get (children_of n) b ≡ None) → (b : ℕ) → from ≤ b → map.get (children_of x) b ≡ None
    leaf_last f b l = ap (λ m. map.get m b) (sym leaf_map) ∙ none_mapped leaf_child (children_of n) b (f b l)

module _ {P : Type 0} (s : Nodes P) (at : ℕ) where
  -- a leaf that was found in a place of an inner node stands under its name
  pub inline_found : (slot b key : ℕ) (n : Node ℕ (Lone P)) (lone : Lone P) → SeesInner s at slot n → b < 256 → map.get (children_of n) b ≡ Some (Value lone)
      → lone.key ≡ key_bytes key → StandsWith s (257 * slot + (b + 1)) key lone.value
  inline_found slot b key n lone k low h e = record { leaf = lone_node lone; is = k.inline b lone low h; has = lone_leaf lone (key_bytes key) e }

  -- the key of a leaf with one value
  pub inline_key : (key : ℕ) (lone : Lone P) → get s at ≡ Some (lone_node lone) → lone.key ≡ key_bytes key
      → (fits (heap_of s at).prefix (key_bytes key) ≡ true) × (get_or (key_bytes key) (length (heap_of s at).prefix) 0 ≡ get_or lone.key 7 0)
  inline_key key lone h e =
      let leaf : LeafAt (heap_of s) at (key_bytes key) lone.value = leaf_of s (key_bytes key) at (lone_node lone) lone.value (key_length key) h (lone_leaf lone (key_bytes key) e) in
      (leaf.fitted, ap (λ d. get_or (key_bytes key) d 0) leaf.seven ∙ ap (λ k. get_or k 7 0) (sym e))

  -- and of a value under a byte of a leaf in a slot
  pub leaf_key : (least b key : ℕ) (n : Node ℕ P) → SeesLeaf s at least n → b < 256 → key ≡ bit_or least b
      → (fits (heap_of s at).prefix (key_bytes key) ≡ true) × (get_or (key_bytes key) (length (heap_of s at).prefix) 0 ≡ b)
  leaf_key least b key n k low e =
      let seven : length (prefix_of n) ≡ 7 = k.seven in
      let ends : get_or (key_bytes least) 7 0 ≡ 0 = k.ends in
      let x : first_bytes least 8 ≡ 256 * first_bytes least 7 + get_or (key_bytes least) 7 0 = top_step least 7 (omega arith) in
      let y : first_bytes key 8 ≡ 256 * first_bytes key 7 + get_or (key_bytes key) 7 0 = top_step key 7 (omega arith) in
      let u : first_bytes least 8 ≡ least = div-one least in
      let w : first_bytes key 8 ≡ key = div-one key in
      let small = byte_small key 7 (omega arith) in
      let q : least ≡ first_bytes least 7 * 2 ^ 8 = omega (arith, x, u, ends) in
      let sum : key ≡ least + b = e ∙ (ap (λ z. bit_or z b) q ∙ (or_shifted (first_bytes least 7) 8 b low ∙ ap (λ z. z + b) (sym q))) in
      let same : first_bytes key 7 ≡ first_bytes least 7 = omega (arith, sum, q, y, w, small, low) in
      let last : get_or (key_bytes key) 7 0 ≡ b = omega (arith, sum, q, y, w, same) in
      let p : (heap_of s at).prefix ≡ prefix_of n = ap (λ o. (node_of o).prefix) k.is ∙ with_prefix leaf_child n in
      let fitted : fits (prefix_of n) (key_bytes key) ≡ true =
      fits_every (prefix_of n) (key_bytes key) (omega (arith, seven, key_length key))
      (λ j l. same_bytes key least 7 (omega arith) same j (omega (arith, l, seven)) ∙ fits_byte (prefix_of n) (key_bytes least) j k.begins l) in (
        subst (λ z. fits z (key_bytes key) ≡ true) (sym p) fitted,
        ap (λ z. get_or (key_bytes key) (length z) 0) p ∙ (ap (λ d. get_or (key_bytes key) d 0) seven ∙ last),
      )

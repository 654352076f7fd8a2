-- What stands under a name after the node in one slot changed.
use Rattle.std.proofs.Common.{◌≡◌, ◌≢◌, ℕ, zero, suc, ◌+◌, ◌*◌, ◌/◌, ◌%◌, ◌<◌, ◌≤◌, ◌==◌, cond, false, inl, inr, List, length, take, get_or, refl, sym, ap, subst, ◌∙◌, arith}
use Rattle.std.specs.Prelude.{Option, None, Some, IsSome}
use Rattle.std.specs.FinMap as map
use Rattle.std.proofs.lemmas.List.FromFn.{length-map-range_with_len}
use Rattle.slab.specs.Slab.{Slab, get, ContainsKey, Updates, slab_len}
use Rattle.congee.specs.forms.Forms.{children_of, form_of, is_full_of, prefix_of}
use Rattle.congee.specs.forms.Mapped.{mapped}
use Rattle.congee.specs.Heap.{Hung, Nothing, Below as Under, Holds, child_for, fits}
use Rattle.std.proofs.lemmas.List.{length-take-le}
use Rattle.congee.specs.owned.Arena.{Nodes, hung_in, heap_of, node_of}
use Rattle.congee.specs.owned.Kinds.{IsValue, prefix_in, form_in, len_in, full_in, inner_get}
use Rattle.congee.specs.owned.Naming.{HasOwnSlot, offset_of, IsByte}
use Rattle.congee.specs.owned.Slots.{inner_child, leaf_child, lone_node, with_children, slot_node, lone_in, in_slot, node_named, nodes_in}
use Rattle.congee.specs.declared.forms.base_node.Node.{Node}
use Rattle.congee.specs.declared.forms.child.Child.{Child}
use Rattle.congee.specs.declared.forms.child.Child.TheVariants.{Blank, Node as Sub, Value}
use Rattle.congee.specs.declared.owned.inline_leaf.Lone.{Lone}
use Rattle.congee.specs.declared.owned.slots.Slot.{Slot}
use Rattle.congee.specs.declared.owned.slots.Slot.TheVariants.{Inner, Leaf}
use Rattle.std.specs.Borrow.{Bor}
use Rattle.std.specs.Option.{option_copied, option_map}
use Rattle.congee.specs.forms.Bytes.{IsFirst}
use Rattle.congee.specs.owned.Ways.{IsWayBelow, IsWayOn, Leads, LeadsOn}
use Rattle.congee.specs.declared.owned.place.Onward.{Onward}
use Rattle.congee.specs.declared.owned.place.Onward.TheVariants.{Free as GoesFree, Held as GoesHeld, FreeBelow, HeldBelow, Below as GoesBelow, Apart as GoesApart}
use Rattle.congee.specs.declared.owned.place.Way.{Way}
use Rattle.congee.specs.declared.owned.place.Way.TheVariants.{Free, Held, Below, Apart}
use Rattle.congee.proofs.lemmas.Fits.{same_test, other_test}
use Rattle.congee.proofs.lemmas.Tree.{same_or_not}
use Rattle.congee.proofs.lemmas.forms.MappedLemmas.{get_mapped, first_mapped, none_mapped}
use Rattle.congee.proofs.lemmas.owned.Moves.{len_one, insert_at, insert_beside}
use Rattle.congee.proofs.lemmas.owned.SlotLens.{count_if_some, len_named}
use Rattle.congee.proofs.lemmas.owned.Slots.{get_offset, get_slot, get_inline, beside_slot, in_offset, low_offset, with_mapped, with_form, with_prefix, with_len, with_full}
use Rattle.congee.proofs.lemmas.owned.Totals.{total, total_update}

module _ {P K : Type 0} (s : Slab (Slot P K)) where
  -- the slot's node, by the slot's first name
  pub slot_seen : (i : ℕ) (x : Slot P K) → get s i ≡ Some x → get (nodes_in s) (257 * i) ≡ Some (slot_node i x)
  slot_seen i x e = get_slot s i ∙ ap (λ o. in_slot i o 0) e

  -- where a node stands under a slot's first name, the slot isn't vacant
  pub slot_there : (i : ℕ) → ContainsKey (nodes_in s) (257 * i) → ContainsKey s i
  slot_there i h = of (get s i) (subst IsSome (get_slot s i) h)
    where
      of : (o : Option (Slot P K)) → IsSome (in_slot i o 0) → IsSome o
      of None h = h
      of (Some x) h = refl

  -- a leaf in the place of its parent
  pub record LoneAt (i b : ℕ) : Type 0 where
    pub node : Node ℕ (Lone P)
    pub stands : get s i ≡ Some (Inner node)
    pub lone : Lone P
    pub child : map.get (children_of node) b ≡ Some (Value lone)
    pub seen : get (nodes_in s) (257 * i + (b + 1)) ≡ Some (lone_node lone)

  -- what stands under a byte's name of a slot is a leaf with one value in its node's place
  pub lone_there : (i b : ℕ) → b < 256 → ContainsKey (nodes_in s) (257 * i + (b + 1)) → LoneAt i b
  lone_there i b l h = of (get s i) refl (subst IsSome (get_inline s i b l) h)
    where
      inner : (n : Node ℕ (Lone P)) → get s i ≡ Some (Inner n) → (o : Option (Child ℕ (Lone P))) → map.get (children_of n) b ≡ o → IsSome (lone_in o) → LoneAt i b
      inner n e None c h = absurd (cc h)
      inner n e (Some Blank) c h = absurd (cc h)
      inner n e (Some (Sub d)) c h = absurd (cc h)
      inner n e (Some (Value lone)) c h = record {
        node = n;
        stands = e;
        lone = lone;
        child = c;
        seen = get_inline s i b l ∙ (ap (λ o. in_slot i o (suc b)) e ∙ ap lone_in c);
      }

      of : (o : Option (Slot P K)) → get s i ≡ o → IsSome (in_slot i o (suc b)) → LoneAt i b
      of None e h = absurd (cc h)
      of (Some (Leaf n)) e h = absurd (cc h)
      of (Some (Inner n)) e h = inner n e (map.get (children_of n) b) refl h

module _ {P K : Type 0} (s s' : Slab (Slot P K)) (i : ℕ) where
  -- an inner node changes at one byte: no other names change than its own and that byte's
  pub byte_beside : (n n' : Node ℕ (Lone P)) (b : ℕ) → get s i ≡ Some (Inner n) → Updates s s' i (Some (Inner n'))
      → ((q : ℕ) → q ≢ b → map.get (children_of n') q ≡ map.get (children_of n) q)
      → (m : ℕ) → m ≢ 257 * i → m ≢ 257 * i + (b + 1) → get (nodes_in s') m ≡ get (nodes_in s) m
  byte_beside n n' b e u same m ni nb = elim (same_or_not (m / 257) i) [
    | inr ne ↦ beside_slot s s' i (Some (Inner n')) u m ne
    | inl q ↦ (let k : m ≡ 257 * i + m % 257 = in_offset i m q in
        let Q : ℕ → Type 0 = λ z. get (nodes_in s') z ≡ get (nodes_in s) z in
        subst Q (sym k) (of k (m % 257) refl))
  ]
    where
      at : (o : ℕ) → o < 257 → (z : Option (Slot P K)) → get s i ≡ z → get (nodes_in s) (257 * i + o) ≡ in_slot i z o
      at o l z e = get_offset s i o l ∙ ap (λ y. in_slot i y o) e

      at' : (o : ℕ) → o < 257 → (z : Option (Slot P K)) → get s' i ≡ z → get (nodes_in s') (257 * i + o) ≡ in_slot i z o
      at' o l z e = get_offset s' i o l ∙ ap (λ y. in_slot i y o) e

      of : m ≡ 257 * i + m % 257 → (o : ℕ) → m % 257 ≡ o → get (nodes_in s') (257 * i + m % 257) ≡ get (nodes_in s) (257 * i + m % 257)
      of k zero r = absurd (ni (omega (arith, k, r)))
      of k (suc c) r =
          let nc : c ≢ b = (λ w. nb (omega (arith, k, r, w))) in
          let l : suc c < 257 = (let z = low_offset m in omega (arith, z, r)) in
          let Q : ℕ → Type 0 = λ z. get (nodes_in s') (257 * i + z) ≡ get (nodes_in s) (257 * i + z) in
          subst Q (sym r) (at' (suc c) l (Some (Inner n')) u.changed ∙ (ap lone_in (same c nc) ∙ sym (at (suc c) l (Some (Inner n)) e)))

  -- another leaf stands in a slot
  pub leaf_beside : (n n' : Node ℕ P) → get s i ≡ Some (Leaf n) → Updates s s' i (Some (Leaf n')) → Updates (nodes_in s) (nodes_in s') (257 * i) (Some (with_children leaf_child n'))
  leaf_beside n n' e u = record {
    changed = slot_seen s' i (Leaf n') u.changed;
    others = λ m ne. elim (same_or_not (m / 257) i) [
      | inr nq ↦ beside_slot s s' i (Some (Leaf n')) u m nq
      | inl q ↦ (let k : m ≡ 257 * i + m % 257 = in_offset i m q in
          let Q : ℕ → Type 0 = λ z. get (nodes_in s') z ≡ get (nodes_in s) z in
          subst Q (sym k) (of (m % 257) (λ z. ne (k ∙ (ap (λ o. 257 * i + o) z ∙ omega arith))) (low_offset m)))
    ];
  }
    where
      of : (o : ℕ) → o ≢ 0 → o < 257 → get (nodes_in s') (257 * i + o) ≡ get (nodes_in s) (257 * i + o)
      of zero ne l = absurd (ne refl)
      of (suc c) ne l = get_offset s' i (suc c) l ∙ (ap (λ z. in_slot i z (suc c)) u.changed ∙ sym (get_offset s i (suc c) l ∙ ap (λ z. in_slot i z (suc c)) e))

module _ {P K : Type 0} (i : ℕ) where
  -- what is seen of a slot's node
  pub seen_form : (x : Slot P K) → form_of (slot_node i x) ≡ form_in x
  seen_form (Inner n) = with_form (inner_child i) n
  seen_form (Leaf n) = with_form leaf_child n

  -- the tree sees a slot's node with the prefix that it has
  pub seen_prefix : (x : Slot P K) → prefix_of (slot_node i x) ≡ prefix_in x
  seen_prefix (Inner n) = with_prefix (inner_child i) n
  seen_prefix (Leaf n) = with_prefix leaf_child n

  -- the tree sees a slot's node with as many children as it has
  pub seen_len : (x : Slot P K) → map.len (children_of (slot_node i x)) ≡ len_in x
  seen_len (Inner n) = with_len (inner_child i) n
  seen_len (Leaf n) = with_len leaf_child n

  -- the tree sees a slot's node full exactly where it is
  pub seen_full : (x : Slot P K) → is_full_of (slot_node i x) ≡ full_in x
  seen_full (Inner n) = with_full (inner_child i) n
  seen_full (Leaf n) = with_full leaf_child n

-- a leaf with one value isn't full
pub lone_full : {P : Type 0} (lone : Lone P) → is_full_of (lone_node lone) ≡ false
lone_full lone = ap (λ n. n == 4) (len_one (get_or lone.key 7 0) (Value lone.value))

-- a leaf with one value has one child
pub lone_len : {P : Type 0} (lone : Lone P) → map.len (children_of (lone_node lone)) ≡ 1
lone_len lone = len_one (get_or lone.key 7 0) (Value lone.value)

-- a leaf with one value has a prefix of seven bytes
pub lone_prefix : {P : Type 0} (lone : Lone P) → length (prefix_of (lone_node lone)) ≡ 7
lone_prefix lone = length-take-le 7 lone.key (let w = lone.whole in omega (arith, w))

-- the name of a node with a slot of its own has no byte
pub own_byte : (at i : ℕ) (byte : Option ℕ) → 257 * i + offset_of byte ≡ at → IsByte byte → HasOwnSlot at → byte ≡ None
own_byte at i None e low own = refl
own_byte at i (Some b) e low own = absurd (omega (arith, e, low, own))

-- a name by its parts
module _ {P K : Type 0} (s : Slab (Slot P K)) (v : Nodes P) (is : nodes_in s ≡ v) (at i : ℕ) (byte : Option ℕ) (name : 257 * i + offset_of byte ≡ at) where
  -- a name without a byte under which a node stands is of a slot that isn't vacant
  pub named_slot : byte ≡ None → ContainsKey v at → ContainsKey s i
  named_slot e h =
      let n : at ≡ 257 * i = sym name ∙ (ap (λ b. 257 * i + offset_of b) e ∙ omega arith) in
      let Q : ℕ → Type 0 = λ k. ContainsKey v k in let R : Nodes P → Type 0 = λ w. ContainsKey w (257 * i) in
      slot_there s i (subst R (sym is) (subst Q n h))

  -- what stands under a name without a byte is the slot's node
  pub named_seen : byte ≡ None → (x : Slot P K) (y : Node ℕ P) → get s i ≡ Some x → get v at ≡ Some y → slot_node i x ≡ y
  named_seen e x y g h =
      let n : at ≡ 257 * i = sym name ∙ (ap (λ b. 257 * i + offset_of b) e ∙ omega arith) in
      let z : Some (slot_node i x) ≡ Some y = sym (slot_seen s i x g) ∙ (ap (λ w. get w (257 * i)) is ∙ (ap (get v) (sym n) ∙ h)) in cc

  -- a name with a byte under which a node stands is that of the byte's place
  pub named_lone : (b : ℕ) → byte ≡ Some b → ContainsKey v at → ContainsKey v (257 * i + (b + 1))
  named_lone b e h =
      let n : at ≡ 257 * i + (b + 1) = sym name ∙ ap (λ b. 257 * i + offset_of b) e in
      let Q : ℕ → Type 0 = λ k. ContainsKey v k in subst Q n h

  -- what stands under a name with a byte is the leaf in the byte's place
  pub named_lone_seen : (b : ℕ) (lone : Lone P) (y : Node ℕ P) → byte ≡ Some b → get v (257 * i + (b + 1)) ≡ Some (lone_node lone) → get v at ≡ Some y → lone_node lone ≡ y
  named_lone_seen b lone y e g h =
      let n : at ≡ 257 * i + (b + 1) = sym name ∙ ap (λ b. 257 * i + offset_of b) e in
      let z : Some (lone_node lone) ≡ Some y = sym g ∙ (ap (get v) (sym n) ∙ h) in cc

  -- where a node stands under a name with a byte, the slot's node has a leaf in its place there
  pub named_lone_at : (b : ℕ) → byte ≡ Some b → IsByte byte → ContainsKey v at → LoneAt s i b
  named_lone_at b e l h =
      let R : Nodes P → Type 0 = λ w. ContainsKey w (257 * i + (b + 1)) in
      lone_there s i b (subst IsByte e l) (subst R (sym is) (named_lone b e h))

  -- a leaf in the place of its parent is seen as such
  pub inline_seen : (b : ℕ) (y : Node ℕ P) → byte ≡ Some b → IsByte byte → get v at ≡ Some y → (lone : Lone P) × (lone_node lone ≡ y)
  inline_seen b y e l h =
      let L = named_lone_at b e l (rw h refl) in
      let R : Nodes P → Type 0 = λ w. get w (257 * i + (b + 1)) ≡ Some (lone_node L.lone) in
      (L.lone, named_lone_seen b L.lone y e (subst R is L.seen) h)

  -- what stands under a byte's name of the slot is a leaf with one value in its node's place
  pub lone_in_view : (b : ℕ) → b < 256 → ContainsKey v (257 * i + (b + 1)) → LoneAt s i b
  lone_in_view b l h = let R : Nodes P → Type 0 = λ w. ContainsKey w (257 * i + (b + 1)) in lone_there s i b l (subst R (sym is) h)

-- its place holds a value
pub lone_value : {P K : Type 0} (s : Slab (Slot P K)) (i b : ℕ) → LoneAt s i b → (x : Slot P K) → get s i ≡ Some x → IsValue (inner_get x b)
lone_value s i b k x e =
    let z : Some (Inner k.node) ≡ Some x = sym k.stands ∙ e in
    let y : Inner k.node ≡ x = cc in
    subst (λ w. IsValue (inner_get w b)) y (subst IsValue (sym k.child) tt)

-- and this one is seen there
pub lone_seen : {P K : Type 0} (s : Slab (Slot P K)) (v : Nodes P) (is : nodes_in s ≡ v) (i b : ℕ) → LoneAt s i b → (x : Slot P K) (lone : Lone P) → get s i ≡ Some x → inner_get x b ≡ Some (Value lone)
    → get v (257 * i + (b + 1)) ≡ Some (lone_node lone)
lone_seen s v is i b k x lone e q =
    let z : Some (Inner k.node) ≡ Some x = sym k.stands ∙ e in
    let y : Inner k.node ≡ x = cc in
    let c : Some (Value k.lone) ≡ Some (Value lone) = sym k.child ∙ (ap (λ w. inner_get w b) y ∙ q) in
    let l : k.lone ≡ lone = cc in
    let R : Nodes _ → Type 0 = λ w. get w (257 * i + (b + 1)) ≡ Some (lone_node lone) in
    subst R is (k.seen ∙ ap (λ w. Some (lone_node w)) l)

-- what it has for a key
module _ {P : Type 0} (v : Nodes P) (name : ℕ) (lone : Lone P) (key : List ℕ) (e : get v name ≡ Some (lone_node lone)) where
  lone_seven : length (take 7 lone.key) ≡ 7
  lone_seven = length-take-le 7 lone.key (omega (arith, lone.whole))

  lone_has : (x : Hung P) → hung_in (map.get (children_of (lone_node lone)) (get_or key 7 0)) ≡ x → child_for (heap_of v name) key ≡ x
  lone_has x h =
      let n : heap_of v name ≡ node_of (Some (lone_node lone)) = ap node_of e in
      rw (n, lone_seven) h

  -- a leaf with one value has it for a key that ends with its own last byte
  pub lone_holds : get_or lone.key 7 0 ≡ get_or key 7 0 → child_for (heap_of v name) key ≡ Holds lone.value
  lone_holds q = lone_has (Holds lone.value) (ap hung_in (ap (map.get (children_of (lone_node lone))) (sym q) ∙ insert_at map.empty (get_or lone.key 7 0) (Value lone.value)))

  -- a leaf with one value has nothing for a key that ends with another byte
  pub lone_misses : (get_or lone.key 7 0 ≡ get_or key 7 0 → ⊥) → child_for (heap_of v name) key ≡ Nothing
  lone_misses ne = lone_has Nothing (ap hung_in (insert_beside map.empty (get_or lone.key 7 0) (Value lone.value) (get_or key 7 0) (λ q. ne (sym q)) ∙ map.get-empty _ (get_or key 7 0)))

-- whether a slot's node has a prefix of the key
pub slot_fits : {P K : Type 0} (s : Slab (Slot P K)) (v : Nodes P) (is : nodes_in s ≡ v) (i : ℕ) (x : Slot P K) (key : List ℕ) → get s i ≡ Some x → fits (heap_of v (257 * i)).prefix key ≡ fits (prefix_in x) key
slot_fits s v is i x key e =
    let n : heap_of v (257 * i) ≡ node_of (Some (slot_node i x)) = ap node_of (ap (λ w. get w (257 * i)) (sym is) ∙ slot_seen s i x e) in
    ap (λ w. fits w.prefix key) n ∙ ap (λ p. fits p key) (seen_prefix i x)

-- what an inner node in a slot has for a key, as it was read
module _ {P K : Type 0} (s : Slab (Slot P K)) (v : Nodes P) (is : nodes_in s ≡ v) (i : ℕ) (x : Slot P K) (key : List ℕ) (e : get s i ≡ Some x) where
  seen_node : (n : Node ℕ P) → slot_node i x ≡ n → heap_of v (257 * i) ≡ node_of (Some n)
  seen_node n q = ap node_of (ap (λ w. get w (257 * i)) (sym is) ∙ (slot_seen s i x e ∙ ap Some q))

  module _ (n : Node ℕ (Lone P)) (q : x ≡ Inner n) (len : ℕ) (count : len ≡ length (prefix_of n)) (o : Option (Child ℕ (Lone P))) (read : o ≡ map.get (children_of n) (get_or key len 0)) where
    inner_is : child_for (heap_of v (257 * i)) key ≡ hung_in (option_map (inner_child i (get_or key len 0)) o)
    inner_is =
        let f = inner_child i in
        let h : heap_of v (257 * i) ≡ node_of (Some (with_children f n)) = seen_node (with_children f n) (ap (slot_node i) q) in
        let l : length (prefix_of (with_children f n)) ≡ len = ap length (with_prefix f n) ∙ sym count in
        let g : map.get (children_of (with_children f n)) (get_or key len 0) ≡ option_map (f (get_or key len 0)) o =
        ap (λ m. map.get m (get_or key len 0)) (with_mapped f n) ∙ (get_mapped f (children_of n) (get_or key len 0) ∙ ap (option_map (f (get_or key len 0))) (sym read)) in
        ap (λ w. child_for w key) h ∙ (ap (λ k. hung_in (map.get (children_of (with_children f n)) (get_or key k 0))) l ∙ ap hung_in g)

    -- an inner node has nothing for a key at whose byte nothing was read
    pub inner_nothing : o ≡ None → child_for (heap_of v (257 * i)) key ≡ Nothing
    inner_nothing c = inner_is ∙ ap (λ r. hung_in (option_map (inner_child i (get_or key len 0)) r)) c

    -- an inner node has for a key the child that was read at its byte
    pub inner_leads : (y : Child ℕ (Lone P)) → o ≡ Some y → child_for (heap_of v (257 * i)) key ≡ hung_in (Some (inner_child i (get_or key len 0) y))
    inner_leads y c = inner_is ∙ ap (λ r. hung_in (option_map (inner_child i (get_or key len 0)) r)) c

    -- the leaf that lies there
    pub lone_lies : (lone : Lone P) → get_or key len 0 < 256 → o ≡ Some (Value lone) → get v (257 * i + (get_or key len 0 + 1)) ≡ Some (lone_node lone)
    lone_lies lone l c =
        let b = get_or key len 0 in
        let g : map.get (children_of n) b ≡ Some (Value lone) = sym read ∙ c in
        ap (λ w. get w (257 * i + (b + 1))) (sym is) ∙ (get_inline s i b l ∙ (ap (λ z. in_slot i z (suc b)) (e ∙ ap Some q) ∙ ap lone_in g))

    -- whether its prefix is the key's
    pub inline_fits : (lone : Lone P) → get_or key len 0 < 256 → o ≡ Some (Value lone)
        → fits (heap_of v (257 * i + (get_or key len 0 + 1))).prefix key ≡ fits (take 7 lone.key) key
    inline_fits lone l c =
        let h' : heap_of v (257 * i + (get_or key len 0 + 1)) ≡ node_of (Some (lone_node lone)) = ap node_of (lone_lies lone l c) in
        ap (λ w. fits w.prefix key) h'

  module _ (n : Node ℕ P) (q : x ≡ Leaf n) (len : ℕ) (count : len ≡ length (prefix_of n)) (o : Option (Bor P)) (read : option_map Value (option_copied o) ≡ map.get (children_of n) (get_or key len 0)) where
    leaf_is : child_for (heap_of v (257 * i)) key ≡ hung_in (option_map (leaf_child (get_or key len 0)) (option_map Value (option_copied o)))
    leaf_is =
        let h : heap_of v (257 * i) ≡ node_of (Some (with_children leaf_child n)) = seen_node (with_children leaf_child n) (ap (slot_node i) q) in
        let l : length (prefix_of (with_children leaf_child n)) ≡ len = ap length (with_prefix leaf_child n) ∙ sym count in
        let g : map.get (children_of (with_children leaf_child n)) (get_or key len 0) ≡ option_map (leaf_child (get_or key len 0)) (option_map Value (option_copied o)) =
        ap (λ m. map.get m (get_or key len 0)) (with_mapped leaf_child n) ∙ (get_mapped leaf_child (children_of n) (get_or key len 0) ∙ ap (option_map (leaf_child (get_or key len 0))) (sym read)) in
        ap (λ w. child_for w key) h ∙ (ap (λ k. hung_in (map.get (children_of (with_children leaf_child n)) (get_or key k 0))) l ∙ ap hung_in g)

    -- a leaf has nothing for a key at whose byte nothing was read
    pub leaf_nothing : o ≡ None → child_for (heap_of v (257 * i)) key ≡ Nothing
    leaf_nothing c = leaf_is ∙ ap (λ r. hung_in (option_map (leaf_child (get_or key len 0)) (option_map Value (option_copied r)))) c

    pub leaf_holds : (f : Bor P) → o ≡ Some f → child_for (heap_of v (257 * i)) key ≡ Holds f.now
    leaf_holds f c = leaf_is ∙ ap (λ r. hung_in (option_map (leaf_child (get_or key len 0)) (option_map Value (option_copied r)))) c

-- to a node of which it was told whether the key has its prefix
pub leads_below : {P : Type 0} (v : Nodes P) (key : List ℕ) (at name : ℕ) (w : Way P) → child_for (heap_of v at) key ≡ Under name → IsWayBelow v key name w → Leads v key at w
leads_below v key at name Free e t = absurd t
leads_below v key at name (Held x) e t = absurd t
leads_below v key at name (Below c) e t = (e ∙ ap Under (sym t.0), t.1)
leads_below v key at name (Apart c) e t = (e ∙ ap Under (sym t.0), t.1)

-- the way on leads to a node of which it was told whether the key has its prefix
pub leads_below_on : {P : Type 0} (v : Nodes P) (key : List ℕ) (at name : ℕ) (w : Onward P) → child_for (heap_of v at) key ≡ Under name → IsWayOn v key name w → LeadsOn v key at w
leads_below_on v key at name GoesFree e t = absurd t
leads_below_on v key at name (GoesHeld x) e t = absurd t
leads_below_on v key at name (FreeBelow c) e t = absurd t
leads_below_on v key at name (HeldBelow c x) e t = absurd t
leads_below_on v key at name (GoesBelow slot) e t = (e ∙ ap Under (sym t.0), t.1)
leads_below_on v key at name (GoesApart c) e t = (e ∙ ap Under (sym t.0), t.1)

-- the first child from a byte on, as the tree sees it
module _ {P K : Type 0} (s : Slab (Slot P K)) (v : Nodes P) (is : nodes_in s ≡ v) (i from : ℕ) (x : Slot P K) (e : get s i ≡ Some x) (y : Node ℕ P) (h : get v (257 * i) ≡ Some y) where
  same_seen : slot_node i x ≡ y
  same_seen = let z : Some (slot_node i x) ≡ Some y = sym (slot_seen s i x e) ∙ (ap (λ w. get w (257 * i)) is ∙ h) in cc

  module _ (n : Node ℕ (Lone P)) (q : x ≡ Inner n) where
    inner_map : mapped (inner_child i) (children_of n) ≡ children_of y
    inner_map = sym (with_mapped (inner_child i) n) ∙ ap children_of (sym (ap (slot_node i) q) ∙ same_seen)

    -- the first child of an inner node in its slot is the first that the tree sees
    pub inner_first : (b : ℕ) (c : Child ℕ (Lone P)) → IsFirst (children_of n) from b c → IsFirst (children_of y) from b (inner_child i b c)
    inner_first b c k = subst (λ m. IsFirst m from b (inner_child i b c)) inner_map (first_mapped (inner_child i) (children_of n) from b c k)

    -- where an inner node in its slot has no child from there on, the tree sees none
    pub inner_last : ((b : ℕ) → from ≤ b → map.get (children_of n) b ≡ None) → (b : ℕ) → from ≤ b → map.get (children_of y) b ≡ None
    inner_last k b l = ap (λ m. map.get m b) (sym inner_map) ∙ none_mapped (inner_child i) (children_of n) b (k b l)

  module _ (n : Node ℕ P) (q : x ≡ Leaf n) where
    leaf_map : mapped leaf_child (children_of n) ≡ children_of y
    leaf_map = sym (with_mapped leaf_child n) ∙ ap children_of (sym (ap (slot_node i) q) ∙ same_seen)

    -- the first value of a leaf in its slot is the first that the tree sees
    pub leaf_first : (b : ℕ) (c : Child ℕ P) → IsFirst (children_of n) from b c → IsFirst (children_of y) from b (leaf_child b c)
    leaf_first b c k = subst (λ m. IsFirst m from b (leaf_child b c)) leaf_map (first_mapped leaf_child (children_of n) from b c k)

    -- where a leaf in its slot has no value from there on, the tree sees none
    pub leaf_last : ((b : ℕ) → from ≤ b → map.get (children_of n) b ≡ None) → (b : ℕ) → from ≤ b → map.get (children_of y) b ≡ None
    leaf_last k b l = ap (λ m. map.get m b) (sym leaf_map) ∙ none_mapped leaf_child (children_of n) b (k b l)

-- fewer nodes stand in slots than have names
module _ {P K : Type 0} (s : Slab (Slot P K)) where
  slots_at_most : (f g : ℕ → ℕ) (n : ℕ) → ((i : ℕ) → g i ≤ f (257 * i)) → total g n ≤ total f (257 * n)
  unfolding total
  slots_at_most f g zero h = omega arith
  slots_at_most f g (suc n) h =
      let r = slots_at_most f g n h in
      let b = h n in
      let one : total f (257 * n + 1) ≡ total f (257 * n) + f (257 * n) = one_more (257 * n) in
      let more : total f (257 * n + 1) ≤ total f (257 * suc n) = rises (257 * n + 1) 256 (257 * suc n) (omega arith) in
      omega (arith, r, b, one, more)
    where
      one_more : (k : ℕ) → total f (k + 1) ≡ total f k + f k
      one_more k = ap (total f) (let z : k + 1 ≡ suc k = omega arith in z)

      rises : (k j m : ℕ) → k + j ≡ m → total f k ≤ total f m
      rises k zero m e = let z : total f m ≡ total f k = ap (total f) (let y : m ≡ k = omega (arith, e) in y) in omega (arith, z)
      rises k (suc j) m e =
          let r = rises k j (k + j) refl in
          let z : total f m ≡ total f (k + j) + f (k + j) = ap (total f) (let y : m ≡ suc (k + j) = omega (arith, e) in y) in
          omega (arith, r, z)

  -- a leaf in the place of its parent has a name beside those of the slots
  pub lone_counts : (i b : ℕ) → b < 256 → ContainsKey (nodes_in s) (257 * i + (b + 1)) → slab_len s + 1 ≤ slab_len (nodes_in s)
  unfolding nodes_in
  lone_counts i b low there =
      let n = length s.slots + i + 1 in
      let name = 257 * i + (b + 1) in
      let f : ℕ → ℕ = λ k. count_if_some (get (nodes_in s) k) in
      let h : ℕ → ℕ = λ k. cond (k == name) 0 (f k) in
      let x = len_named s n (omega arith) in
      let y = len_named (nodes_in s) (257 * n) (omega (arith, length-map-range_with_len (node_named s.slots) 0 (257 * length s.slots))) in
      let t = total_update f h (257 * n) name (omega (arith, low)) (λ k ne. ap (λ q. cond q 0 (f k)) (other_test k name ne)) in
      let one : f name ≡ 1 = ap (λ q. cond q 1 0) there in
      let none : h name ≡ 0 = ap (λ q. cond q 0 (f name)) (same_test name name refl) in
      let c = slots_at_most h (λ k. count_if_some (get s k)) n (λ k.
      let apart : h (257 * k) ≡ f (257 * k) = ap (λ q. cond q 0 (f (257 * k))) (other_test (257 * k) name (λ q. absurd (omega (arith, q, low)))) in
      let w = at k (get s k) refl in omega (arith, apart, w)) in
      omega (arith, x, y, t, one, none, c)
    where
      at : (i : ℕ) (o : Option (Slot P K)) → get s i ≡ o → count_if_some (get s i) ≤ count_if_some (get (nodes_in s) (257 * i))
      at i None e = let z : count_if_some (get s i) ≡ 0 = ap count_if_some e in omega (arith, z)
      at i (Some x) e =
          let z : count_if_some (get s i) ≡ 1 = ap count_if_some e in
          let y : count_if_some (get (nodes_in s) (257 * i)) ≡ 1 = ap count_if_some (slot_seen s i x e) in
          omega (arith, z, y)

-- the pair of a leaf with one value
module _ {P : Type 0} (v : Nodes P) (name : ℕ) (lone : Lone P) (e : get v name ≡ Some (lone_node lone)) (x : Node ℕ P) (h : get v name ≡ Some x) (from : ℕ) where
  lone_same : lone_node lone ≡ x
  lone_same = let z : Some (lone_node lone) ≡ Some x = sym e ∙ h in cc

  -- a leaf with one value has nothing under other bytes
  pub lone_beside : (q : ℕ) → q ≢ get_or lone.key 7 0 → map.get (children_of x) q ≡ None
  lone_beside q ne = ap (λ n. map.get (children_of n) q) (sym lone_same) ∙ (insert_beside map.empty (get_or lone.key 7 0) (Value lone.value) q ne ∙ map.get-empty _ q)

  -- a leaf with one value has it first from its last byte, or one before it, on
  pub lone_first : from ≤ get_or lone.key 7 0 → IsFirst (children_of x) from (get_or lone.key 7 0) (Value lone.value)
  lone_first l = record {
    past = l;
    here = ap (λ n. map.get (children_of n) (get_or lone.key 7 0)) (sym lone_same) ∙ insert_at map.empty (get_or lone.key 7 0) (Value lone.value);
    before = λ q lo hi. lone_beside q (λ z. absurd (omega (arith, z, hi)));
  }

  -- a leaf with one value has nothing after its last byte
  pub lone_last : get_or lone.key 7 0 < from → (b : ℕ) → from ≤ b → map.get (children_of x) b ≡ None
  lone_last l b lo = lone_beside b (λ z. absurd (omega (arith, z, lo, l)))

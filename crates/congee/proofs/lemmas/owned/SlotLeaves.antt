-- A leaf in a slot, and what a change of its values leaves.
use Rattle.std.proofs.Common.{◌≡◌, ℕ, ◌+◌, ◌*◌, ◌<◌, false, inl, inr, length, refl, sym, ap, subst, ◌∙◌, arith}
use Rattle.std.specs.Prelude.{Option, None, Some}
use Rattle.std.specs.Option.{option_map}
use Rattle.std.specs.Ordering.{nat_cmp}
use Rattle.std.specs.FinMap as map
use Rattle.slab.specs.Slab.{Slab, get, ContainsKey, Updates, with_value}
use Rattle.slab.proofs.SlabLemmas.{Updates-with_value}
use Rattle.congee.specs.forms.Forms.{Becomes, children_of, form_of, is_full_of, prefix_of}
use Rattle.congee.specs.forms.Mapped.{mapped}
use Rattle.congee.specs.owned.Arena.{Nodes}
use Rattle.congee.specs.owned.Kinds.{IsLeaf, IsValue, full_in, leaf_get, LeafBecomes}
use Rattle.congee.specs.owned.Naming.{HasOwnSlot, offset_of, IsByte}
use Rattle.congee.specs.owned.OwnedSteps.{Sets}
use Rattle.congee.specs.owned.Slots.{inner_child, leaf_child, with_children, slot_node, nodes_in}
use Rattle.congee.specs.owned.Storage.{HasKind, IsStored}
use Rattle.congee.specs.declared.forms.base_node.Node.{Node}
use Rattle.congee.specs.declared.forms.child.Child.{Child}
use Rattle.congee.specs.declared.forms.child.Child.TheVariants.{Blank, Node as Sub, Value}
use Rattle.congee.specs.declared.owned.inline_leaf.Lone.{Lone}
use Rattle.congee.specs.declared.owned.slots.Slot.{Slot}
use Rattle.congee.specs.declared.owned.slots.Slot.TheVariants.{Inner, Leaf}
use Rattle.congee.proofs.lemmas.Tree.{same_or_not}
use Rattle.congee.proofs.lemmas.forms.MappedLemmas.{get_mapped, mapped_none, some_mapped, mapped_insert, mapped_remove}
use Rattle.congee.proofs.lemmas.owned.Moves.{node_at}
use Rattle.congee.proofs.lemmas.owned.SlotLens.{count_if_some, len_update}
use Rattle.congee.proofs.lemmas.owned.SlotOps.{own_slot}
use Rattle.congee.proofs.lemmas.owned.Slots.{with_prefix, with_mapped, with_full, with_becomes}
use Rattle.congee.proofs.lemmas.owned.Stored.{slot_seen, slot_there, leaf_beside}

-- the node of this name is the leaf in a slot
record AtLeaf {P K : Type 0} (s : Slab (Slot P K)) (v : Nodes P) (at i : ℕ) (y : Node ℕ P) : Type 0 where
  pub node : Node ℕ P
  pub stands : get s i ≡ Some (Leaf node)
  pub name : at ≡ 257 * i
  pub seen : with_children leaf_child node ≡ y

-- what a leaf became
record LeafAfter {P K : Type 0} (n : Node ℕ P) (x' : Slot P K) (m : map.FinMap nat_cmp (Child ℕ P)) : Type 0 where
  pub node : Node ℕ P
  pub is : x' ≡ Leaf node
  pub becomes : Becomes n node m

leaf_after : {P K : Type 0} (x x' : Slot P K) (n : Node ℕ P) (f : map.FinMap nat_cmp (Child ℕ P) → map.FinMap nat_cmp (Child ℕ P)) → x ≡ Leaf n → LeafBecomes x x' f → LeafAfter n x' (f (children_of n))
leaf_after {P} {K} x x' n f e b = of x' (subst (λ w. LeafBecomes w x' f) e b)
  where
    of : (z : Slot P K) → LeafBecomes (Leaf n) z f → LeafAfter n z (f (children_of n))
    of (Leaf m) b = record { node = m; is = refl; becomes = b }
    of (Inner m) b = absurd b

value_behind : {P : Type 0} (b : ℕ) (o : Option (Child ℕ P)) → IsValue (option_map (leaf_child b) o) → IsValue o
value_behind b None h = h
value_behind b (Some Blank) h = h
value_behind b (Some (Sub c)) h = h
value_behind b (Some (Value w)) h = h

no_value : {P : Type 0} (i b : ℕ) (o : Option (Child ℕ (Lone P))) → IsValue (option_map (inner_child i b) o) → ⊥
no_value i b None h = h
no_value i b (Some Blank) h = h
no_value i b (Some (Sub c)) h = h
no_value i b (Some (Value w)) h = h

module _ {P K : Type 0} (s : Slab (Slot P K)) (v : Nodes P) (is : nodes_in s ≡ v) (inline : ℕ) (st : IsStored s inline) (at i : ℕ) (byte : Option ℕ) (name : 257 * i + offset_of byte ≡ at) (low : IsByte byte)
    (own : HasOwnSlot at) (stands : ContainsKey v at) where
  at_is : at ≡ 257 * i
  at_is = own_slot at i byte name low own

  -- the slot of a leaf with a name of its own isn't vacant
  pub leaf_slot : ContainsKey s i
  leaf_slot = slot_there s i (subst (λ w. ContainsKey w (257 * i)) (sym is) (subst (ContainsKey v) at_is stands))

  seen_at : (x : Slot P K) → get s i ≡ Some x → (y : Node ℕ P) → get v at ≡ Some y → slot_node i x ≡ y
  seen_at x e y h =
      let z : Some (slot_node i x) ≡ Some y = sym (slot_seen s i x e) ∙ (ap (λ w. get w (257 * i)) is ∙ (ap (get v) (sym at_is) ∙ h)) in cc

  there : (y : Node ℕ P) × (get v at ≡ Some y)
  there = node_at v at stands

  at_seven : (x : Slot P K) → get s i ≡ Some x → (y : Node ℕ P) → get v at ≡ Some y → length (prefix_of y) ≡ 7 → AtLeaf s v at i y
  at_seven (Leaf n) e y h seven = record { node = n; stands = e; name = at_is; seen = seen_at (Leaf n) e y h }
  at_seven (Inner n) e y h seven =
      let l : length (prefix_of n) < 7 = subst HasKind e (st.kinds i) in
      let p : length (prefix_of y) ≡ length (prefix_of n) = ap (λ w. length (prefix_of w)) (sym (seen_at (Inner n) e y h)) ∙ ap length (with_prefix (inner_child i) n) in
      absurd (omega (arith, l, p, seven))

  at_value : (x : Slot P K) → get s i ≡ Some x → (y : Node ℕ P) → get v at ≡ Some y → (b : ℕ) → IsValue (map.get (children_of y) b) → AtLeaf s v at i y
  at_value (Leaf n) e y h b k = record { node = n; stands = e; name = at_is; seen = seen_at (Leaf n) e y h }
  at_value (Inner n) e y h b k =
      let g : map.get (children_of y) b ≡ option_map (inner_child i b) (map.get (children_of n) b) =
      ap (λ w. map.get (children_of w) b) (sym (seen_at (Inner n) e y h)) ∙ (ap (λ m. map.get m b) (with_mapped (inner_child i) n) ∙ get_mapped (inner_child i) (children_of n) b) in
      absurd (no_value i b (map.get (children_of n) b) (subst IsValue g k))

  module _ (x : Slot P K) (e : get s i ≡ Some x) where
    slot_is : (y : Node ℕ P) (k : AtLeaf s v at i y) → x ≡ Leaf k.node
    slot_is y k = let z : Some x ≡ Some (Leaf k.node) = sym e ∙ k.stands in cc

    children_seen : (y : Node ℕ P) (k : AtLeaf s v at i y) → mapped leaf_child (children_of k.node) ≡ children_of y
    children_seen y k = sym (with_mapped leaf_child k.node) ∙ ap children_of k.seen

    module _ (seven : (y : Node ℕ P) → get v at ≡ Some y → length (prefix_of y) ≡ 7) where
      -- the slot has a leaf
      pub leaf_is : IsLeaf x
      leaf_is = subst IsLeaf (sym (slot_is there.0 (at_seven x e there.0 there.1 (seven there.0 there.1)))) tt

      -- a byte at which the tree sees nothing has nothing in the slot
      pub leaf_absent : (b : ℕ) → ((y : Node ℕ P) → get v at ≡ Some y → map.get (children_of y) b ≡ None) → leaf_get x b ≡ None
      leaf_absent b free =
          let k = at_seven x e there.0 there.1 (seven there.0 there.1) in
          ap (λ w. leaf_get w b) (slot_is there.0 k) ∙ mapped_none leaf_child (children_of k.node) b (ap (λ m. map.get m b) (children_seen there.0 k) ∙ free there.0 there.1)

      -- a leaf that isn't full for the tree isn't full in its slot
      pub leaf_room : ((y : Node ℕ P) → get v at ≡ Some y → is_full_of y ≡ false) → full_in x ≡ false
      leaf_room room =
          let k = at_seven x e there.0 there.1 (seven there.0 there.1) in
          ap full_in (slot_is there.0 k) ∙ (sym (with_full leaf_child k.node) ∙ (ap is_full_of k.seen ∙ room there.0 there.1))

    -- a byte at which the tree sees a value has one in the slot
    pub leaf_value : (b : ℕ) → ((y : Node ℕ P) → get v at ≡ Some y → IsValue (map.get (children_of y) b)) → IsValue (leaf_get x b)
    leaf_value b has =
        let k = at_value x e there.0 there.1 b (has there.0 there.1) in
        let g : map.get (children_of there.0) b ≡ option_map (leaf_child b) (map.get (children_of k.node) b) = ap (λ m. map.get m b) (sym (children_seen there.0 k)) ∙ get_mapped leaf_child (children_of k.node) b in
        subst IsValue (sym (ap (λ w. leaf_get w b) (slot_is there.0 k))) (value_behind b (map.get (children_of k.node) b) (subst IsValue g (has there.0 there.1)))

    -- the value that the slot has at a byte is the one that the tree sees there
    pub leaf_was : (b : ℕ) (value : P) → ((y : Node ℕ P) → get v at ≡ Some y → IsValue (map.get (children_of y) b)) → leaf_get x b ≡ Some (Value value) → (y : Node ℕ P) → get v at ≡ Some y → Some (Value value) ≡ map.get (children_of y) b
    leaf_was b value has was y h =
        let k = at_value x e y h b (has y h) in
        let here : map.get (children_of k.node) b ≡ Some (Value value) = sym (ap (λ w. leaf_get w b) (slot_is y k)) ∙ was in
        sym (ap (λ m. map.get m b) (sym (children_seen y k)) ∙ some_mapped leaf_child (children_of k.node) b (Value value) here)

    -- what the slab is afterwards
    module _ (x' : Slot P K) where
      leaf_updates : (n n' : Node ℕ P) → x ≡ Leaf n → x' ≡ Leaf n' → Updates (nodes_in s) (nodes_in (with_value s i x')) (257 * i) (Some (with_children leaf_child n'))
      leaf_updates n n' q q' =
          let u : Updates s (with_value s i x') i (Some x') = Updates-with_value s i x' (rw e refl) in
          leaf_beside s (with_value s i x') i n n' (e ∙ ap Some q) (subst (λ z. Updates s (with_value s i x') i (Some z)) q' u)

      leaf_stored : (n n' : Node ℕ P) → x ≡ Leaf n → x' ≡ Leaf n' → prefix_of n' ≡ prefix_of n → IsStored (with_value s i x') inline
      leaf_stored n n' q q' p =
          let u : Updates s (with_value s i x') i (Some x') = Updates-with_value s i x' (rw e refl) in
          let l = len_update s (with_value s i x') i (Some x') u in
          let c : count_if_some (get s i) ≡ 1 = ap count_if_some e in
          let m = len_update (nodes_in s) (nodes_in (with_value s i x')) (257 * i) _ (leaf_updates n n' q q') in
          let d : count_if_some (get (nodes_in s) (257 * i)) ≡ 1 = ap count_if_some (slot_seen s i x e) in
          let a = st.counted in let r = st.room in
          record {
            counted = omega (arith, l, c, m, d, a);
            room = omega (arith, l, c, r);
            kinds = λ j. elim (same_or_not j i) [
              | inl z ↦ (let Q : ℕ → Type 0 = λ w. HasKind (get (with_value s i x') w) in
                  let old : length (prefix_of n) ≡ 7 = subst HasKind (e ∙ ap Some q) (st.kinds i) in
                  subst Q (sym z) (subst HasKind (sym (u.changed ∙ ap Some q')) (ap length p ∙ old)))
              | inr ne ↦ subst HasKind (sym (u.others j ne)) (st.kinds j)
            ];
          }

      at_name : (y : Node ℕ P) (k : AtLeaf s v at i y) (n' : Node ℕ P) → x' ≡ Leaf n' → Updates v (nodes_in (with_value s i x')) at (Some (with_children leaf_child n'))
      at_name y k n' q' =
          let u = leaf_updates k.node n' (slot_is y k) q' in
          let Q : ℕ → Type 0 = λ w. Updates v (nodes_in (with_value s i x')) w (Some (with_children leaf_child n')) in
          subst Q (sym k.name) (subst (λ w. Updates w (nodes_in (with_value s i x')) (257 * i) (Some (with_children leaf_child n'))) is u)

      put_sets : (y : Node ℕ P) (k : AtLeaf s v at i y) (b : ℕ) (value : P) → LeafBecomes x x' (λ m. map.insert m b (Value value)) → Sets v (nodes_in (with_value s i x')) at y (map.insert (children_of y) b (Value value))
      put_sets y k b value lb =
          let a = leaf_after x x' k.node (λ m. map.insert m b (Value value)) (slot_is y k) lb in
          let w = with_becomes leaf_child k.node a.node _ a.becomes in
          record {
            node = with_children leaf_child a.node;
            becomes = record {
              form = w.form ∙ ap form_of k.seen;
              prefix = w.prefix ∙ ap prefix_of k.seen;
              children = w.children ∙ (mapped_insert leaf_child (children_of k.node) b (Value value) ∙ ap (λ m. map.insert m b (Value value)) (children_seen y k));
            };
            updates = at_name y k a.node a.is;
          }

      put_stored : (y : Node ℕ P) (k : AtLeaf s v at i y) (b : ℕ) (value : P) → LeafBecomes x x' (λ m. map.insert m b (Value value)) → IsStored (with_value s i x') inline
      put_stored y k b value lb =
          let a = leaf_after x x' k.node (λ m. map.insert m b (Value value)) (slot_is y k) lb in
          leaf_stored k.node a.node (slot_is y k) a.is a.becomes.prefix

      -- the slots are sound after a value came into a leaf
      pub hang_value_stored : ((y : Node ℕ P) → get v at ≡ Some y → length (prefix_of y) ≡ 7) → (b : ℕ) (value : P) → LeafBecomes x x' (λ m. map.insert m b (Value value)) → IsStored (with_value s i x') inline
      hang_value_stored seven b value lb = put_stored there.0 (at_seven x e there.0 there.1 (seven there.0 there.1)) b value lb

      -- where a value came into the slot's leaf, the tree sees the leaf get it
      pub hang_value_done : ((y : Node ℕ P) → get v at ≡ Some y → length (prefix_of y) ≡ 7) → (b : ℕ) (value : P) → LeafBecomes x x' (λ m. map.insert m b (Value value))
          → (y : Node ℕ P) → get v at ≡ Some y → Sets v (nodes_in (with_value s i x')) at y (map.insert (children_of y) b (Value value))
      hang_value_done seven b value lb y h = put_sets y (at_seven x e y h (seven y h)) b value lb

      -- the slots are sound after another value came in the place of one
      pub swap_value_stored : (b : ℕ) (value : P) → ((y : Node ℕ P) → get v at ≡ Some y → IsValue (map.get (children_of y) b)) → LeafBecomes x x' (λ m. map.insert m b (Value value)) → IsStored (with_value s i x') inline
      swap_value_stored b value has lb = put_stored there.0 (at_value x e there.0 there.1 b (has there.0 there.1)) b value lb

      -- where another value came in the place of one, the tree sees the leaf get it
      pub swap_value_done : (b : ℕ) (value : P) → ((y : Node ℕ P) → get v at ≡ Some y → IsValue (map.get (children_of y) b)) → LeafBecomes x x' (λ m. map.insert m b (Value value))
          → (y : Node ℕ P) → get v at ≡ Some y → Sets v (nodes_in (with_value s i x')) at y (map.insert (children_of y) b (Value value))
      swap_value_done b value has lb y h = put_sets y (at_value x e y h b (has y h)) b value lb

      -- the slots are sound after a value left a leaf
      pub take_value_stored : (b : ℕ) → ((y : Node ℕ P) → get v at ≡ Some y → IsValue (map.get (children_of y) b)) → LeafBecomes x x' (λ m. map.remove m b) → IsStored (with_value s i x') inline
      take_value_stored b has lb =
          let k = at_value x e there.0 there.1 b (has there.0 there.1) in
          let a = leaf_after x x' k.node (λ m. map.remove m b) (slot_is there.0 k) lb in
          leaf_stored k.node a.node (slot_is there.0 k) a.is a.becomes.prefix

      -- where a value left the slot's leaf, the tree sees the leaf lose it
      pub take_value_done : (b : ℕ) → ((y : Node ℕ P) → get v at ≡ Some y → IsValue (map.get (children_of y) b)) → LeafBecomes x x' (λ m. map.remove m b)
          → (y : Node ℕ P) → get v at ≡ Some y → Sets v (nodes_in (with_value s i x')) at y (map.remove (children_of y) b)
      take_value_done b has lb y h =
          let k = at_value x e y h b (has y h) in
          let a = leaf_after x x' k.node (λ m. map.remove m b) (slot_is y k) lb in
          let w = with_becomes leaf_child k.node a.node _ a.becomes in
          record {
            node = with_children leaf_child a.node;
            becomes = record {
              form = w.form ∙ ap form_of k.seen;
              prefix = w.prefix ∙ ap prefix_of k.seen;
              children = w.children ∙ (mapped_remove leaf_child (children_of k.node) b ∙ ap (λ m. map.remove m b) (children_seen y k));
            };
            updates = at_name y k a.node a.is;
          }

-- A node comes into a free slot, leaves its slot, or takes its next form.
use Rattle.std.proofs.Common.{◌≡◌, ◌≢◌, ℕ, zero, suc, ◌+◌, ◌*◌, ◌/◌, ◌%◌, ◌<◌, ◌≤◌, true, false, inl, inr, List, length, take, get_or, refl, sym, ap, subst, ◌∙◌, arith}
use Rattle.std.specs.List.{range_with_len}
use Rattle.std.specs.Prelude.{count_by, is_some, map as list_map, Option, None, Some, IsSome, Result, Ok, Err, OnOk, OnErr}
use Rattle.std.specs.Ordering.{nat_cmp}
use Rattle.std.specs.FinMap as map
use Rattle.slab.specs.Slab.{Slab, get, ContainsKey, Updates, SameValues, slab_len, with_value}
use Rattle.slab.proofs.SlabLemmas.{Updates-with_value}
use Rattle.congee.specs.forms.Forms.{children_of, form_of, is_full_of, next_form, prefix_of}
use Rattle.congee.specs.forms.Mapped.{mapped}
use Rattle.congee.specs.owned.Arena.{Nodes}
use Rattle.congee.specs.owned.Kinds.{Grown}
use Rattle.congee.specs.owned.Naming.{HasOwnSlot, offset_of, IsByte}
use Rattle.congee.specs.owned.OwnedSteps.{Makes}
use Rattle.congee.specs.owned.Slots.{inner_child, leaf_child, with_children, slot_node, lone_in, inline_at, in_slot, node_named, nodes_in}
use Rattle.congee.specs.owned.Storage.{HasKind, IsStored}
use Rattle.congee.specs.owned.Stores.{GrowsTo, MakesLeaf}
use Rattle.congee.specs.declared.forms.base_node.Node.{Node}
use Rattle.congee.specs.declared.forms.base_node.NodeType.TheVariants.{N4}
use Rattle.congee.specs.declared.forms.child.Child.TheVariants.{Value}
use Rattle.congee.specs.declared.owned.inline_leaf.Lone.{Lone}
use Rattle.congee.specs.declared.owned.slots.Slot.{Slot}
use Rattle.congee.specs.declared.owned.slots.Slot.TheVariants.{Inner, Leaf}
use Rattle.congee.proofs.lemmas.Tree.{same_or_not}
use Rattle.congee.proofs.lemmas.forms.MappedLemmas.{mapped_empty, mapped_insert}
use Rattle.congee.proofs.lemmas.forms.Full.{full_at, full_is}
use Rattle.congee.proofs.lemmas.owned.Moves.{node_at, insert_at, insert_beside}
use Rattle.congee.proofs.lemmas.owned.SlotLens.{count_if_some, len_update}
use Rattle.congee.proofs.lemmas.owned.SlotOps.{own_slot}
use Rattle.congee.proofs.lemmas.owned.Slots.{get_offset, beside_slot, in_offset, low_offset, with_form, with_prefix, with_mapped}
use Rattle.congee.proofs.lemmas.owned.Stored.{slot_seen, slot_there, inline_seen, lone_full}

module _ {P K : Type 0} (s s' : Slab (Slot P K)) (i : ℕ) where
  -- a slot's node changes, and no leaf in its places: its name alone has another node
  pub slot_updates : (o : Option (Slot P K)) → Updates s s' i o → ((b : ℕ) → in_slot i o (suc b) ≡ in_slot i (get s i) (suc b)) → Updates (nodes_in s) (nodes_in s') (257 * i) (in_slot i o 0)
  slot_updates o u same = record {
    changed = ap (get (nodes_in s')) (let z : 257 * i ≡ 257 * i + 0 = omega arith in z) ∙ (get_offset s' i 0 (omega arith) ∙ ap (λ z. in_slot i z 0) u.changed);
    others = λ m ne. elim (same_or_not (m / 257) i) [
      | inr nq ↦ beside_slot s s' i o u m nq
      | inl q ↦ (let k : m ≡ 257 * i + m % 257 = in_offset i m q in
          let Q : ℕ → Type 0 = λ z. get (nodes_in s') z ≡ get (nodes_in s) z in
          subst Q (sym k) (of (m % 257) (λ z. ne (k ∙ (ap (λ o. 257 * i + o) z ∙ omega arith))) (low_offset m)))
    ];
  }
    where
      of : (j : ℕ) → j ≢ 0 → j < 257 → get (nodes_in s') (257 * i + j) ≡ get (nodes_in s) (257 * i + j)
      of zero ne l = absurd (ne refl)
      of (suc b) ne l = get_offset s' i (suc b) l ∙ (ap (λ z. in_slot i z (suc b)) u.changed ∙ (same b ∙ sym (get_offset s i (suc b) l)))

  -- what is stored then
  pub slot_stored : (inline : ℕ) (o : Option (Slot P K)) → IsStored s inline → Updates s s' i o → ((b : ℕ) → in_slot i o (suc b) ≡ in_slot i (get s i) (suc b)) → HasKind o → s'.capacity ≡ s.capacity
      → slab_len s' + inline ≤ s'.capacity → IsStored s' inline
  slot_stored inline o st u same kind cap room =
      let l = len_update s s' i o u in
      let m = len_update (nodes_in s) (nodes_in s') (257 * i) (in_slot i o 0) (slot_updates o u same) in
      let a : count_if_some (get (nodes_in s) (257 * i)) ≡ count_if_some (get s i) = ap count_if_some (ap (get (nodes_in s)) (let z : 257 * i ≡ 257 * i + 0 = omega arith in z) ∙ get_offset s i 0 (omega arith)) ∙ head (get s i) in
      let b : count_if_some (in_slot i o 0) ≡ count_if_some o = head o in
      let c = st.counted in
      record {
        counted = omega (arith, l, m, a, b, c);
        room = room;
        kinds = λ j. elim (same_or_not j i) [
          | inl z ↦ (let Q : ℕ → Type 0 = λ w. HasKind (get s' w) in subst Q (sym z) (subst HasKind (sym u.changed) kind))
          | inr ne ↦ subst HasKind (sym (u.others j ne)) (st.kinds j)
        ];
      }
    where
      head : (o : Option (Slot P K)) → count_if_some (in_slot i o 0) ≡ count_if_some o
      head None = refl
      head (Some x) = refl

-- a node without children comes into a free slot
module _ {P K : Type 0} (s s' : Slab (Slot P K)) (v : Nodes P) (is : nodes_in s ≡ v) (inline : ℕ) (st : IsStored s inline) (i : ℕ) (n : Node ℕ (Lone P)) (free : get s i ≡ None) (u : Updates s s' i (Some (Inner n)))
    (empty : children_of n ≡ map.empty) where
  none_there : (b : ℕ) → in_slot {K = K} i (Some (Inner n)) (suc b) ≡ in_slot i (get s i) (suc b)
  none_there b = ap lone_in (ap (λ m. map.get m b) empty ∙ map.get-empty _ b) ∙ sym (ap (λ o. in_slot i o (suc b)) free)

  -- the slots are sound after an inner node without children came into a free one
  pub comes_stored : length (prefix_of n) < 7 → s'.capacity ≡ s.capacity → slab_len s + inline + 1 ≤ s.capacity → IsStored s' inline
  comes_stored short cap room =
      let l = len_update s s' i (Some (Inner n)) u in
      let c : count_if_some (get s i) ≡ 0 = ap count_if_some free in
      slot_stored s s' i inline (Some (Inner n)) st u none_there short cap (omega (arith, l, c, cap, room))

  -- an inner node without children in a free slot is one that was made, under the slot's name
  pub comes_made : (prefix : List ℕ) → form_of n ≡ N4 → prefix_of n ≡ prefix → (name : ℕ) → name ≡ 257 * i → Makes v (nodes_in s') name prefix
  comes_made prefix form p name e =
      let w = slot_updates s s' i (Some (Inner n)) u none_there in
      let vacant : get (nodes_in s) (257 * i) ≡ None = ap (get (nodes_in s)) (let z : 257 * i ≡ 257 * i + 0 = omega arith in z) ∙ (get_offset s i 0 (omega arith) ∙ ap (λ o. in_slot i o 0) free) in
      let made : Makes (nodes_in s) (nodes_in s') (257 * i) prefix = record {
        node = with_children (inner_child i) n;
        form = with_form (inner_child i) n ∙ form;
        prefixed = with_prefix (inner_child i) n ∙ p;
        children = with_mapped (inner_child i) n ∙ (ap (mapped (inner_child i)) empty ∙ mapped_empty (inner_child i));
        vacant = vacant;
        updates = w;
      } in
      subst (λ k. Makes v (nodes_in s') k prefix) (sym e) (subst (λ w. Makes w (nodes_in s') (257 * i) prefix) is made)

-- a leaf with one value comes into a free slot
module _ {P K : Type 0} (s s' : Slab (Slot P K)) (v : Nodes P) (is : nodes_in s ≡ v) (inline : ℕ) (st : IsStored s inline) (i : ℕ) (n : Node ℕ P) (free : get s i ≡ None) (u : Updates s s' i (Some (Leaf n))) where
  no_inline : (b : ℕ) → in_slot {K = K} i (Some (Leaf n)) (suc b) ≡ in_slot i (get s i) (suc b)
  no_inline b = sym (ap (λ o. in_slot i o (suc b)) free)

  -- the slots are sound after a leaf came into a free one
  pub leaf_comes_stored : length (prefix_of n) ≡ 7 → s'.capacity ≡ s.capacity → slab_len s + inline + 1 ≤ s.capacity → IsStored s' inline
  leaf_comes_stored seven cap room =
      let l = len_update s s' i (Some (Leaf n)) u in
      let c : count_if_some (get s i) ≡ 0 = ap count_if_some free in
      slot_stored s s' i inline (Some (Leaf n)) st u no_inline seven cap (omega (arith, l, c, cap, room))

  -- a leaf in a free slot is one that was made, under the slot's name
  pub leaf_comes_made : (key : List ℕ) (value : P) → form_of n ≡ N4 → prefix_of n ≡ take 7 key → children_of n ≡ map.insert map.empty (get_or key 7 0) (Value value) → (name : ℕ) → name ≡ 257 * i → MakesLeaf v (nodes_in s') name key value
  leaf_comes_made key value form p ch name e =
      let w = slot_updates s s' i (Some (Leaf n)) u no_inline in
      let vacant : get (nodes_in s) (257 * i) ≡ None = ap (get (nodes_in s)) (let z : 257 * i ≡ 257 * i + 0 = omega arith in z) ∙ (get_offset s i 0 (omega arith) ∙ ap (λ o. in_slot i o 0) free) in
      let c : children_of (with_children leaf_child n) ≡ map.insert map.empty (get_or key 7 0) (Value value) =
      with_mapped leaf_child n ∙ (ap (mapped leaf_child) ch ∙ (mapped_insert leaf_child map.empty (get_or key 7 0) (Value value) ∙ ap (λ m. map.insert m (get_or key 7 0) (Value value)) (mapped_empty leaf_child))) in
      let made : MakesLeaf (nodes_in s) (nodes_in s') (257 * i) key value = record {
        node = with_children leaf_child n;
        form = with_form leaf_child n ∙ form;
        has = record {
          prefix = with_prefix leaf_child n ∙ p;
          value = ap (λ m. map.get m (get_or key 7 0)) c ∙ insert_at map.empty (get_or key 7 0) (Value value);
          beside = λ b ne. ap (λ m. map.get m b) c ∙ (insert_beside map.empty (get_or key 7 0) (Value value) b ne ∙ map.get-empty _ b);
        };
        vacant = vacant;
        updates = w;
      } in
      subst (λ k. MakesLeaf v (nodes_in s') k key value) (sym e) (subst (λ w. MakesLeaf w (nodes_in s') (257 * i) key value) is made)

-- a leaf leaves its slot
module _ {P K : Type 0} (s s' : Slab (Slot P K)) (v : Nodes P) (is : nodes_in s ≡ v) (inline : ℕ) (st : IsStored s inline) (at i : ℕ) (byte : Option ℕ) (name : 257 * i + offset_of byte ≡ at) (low : IsByte byte)
    (own : HasOwnSlot at) (stands : ContainsKey v at) (seven : (y : Node ℕ P) → get v at ≡ Some y → length (prefix_of y) ≡ 7) (u : Updates s s' i None) where
  at_is : at ≡ 257 * i
  at_is = own_slot at i byte name low own

  no_lone : (b : ℕ) → in_slot {P = P} {K = K} i None (suc b) ≡ in_slot i (get s i) (suc b)
  no_lone b =
      let there = slot_there s i (subst (λ w. ContainsKey w (257 * i)) (sym is) (subst (ContainsKey v) at_is stands)) in
      of (get s i) refl there
    where
      of : (o : Option (Slot P K)) → get s i ≡ o → IsSome o → None ≡ in_slot i o (suc b)
      of None e h = refl
      of (Some (Leaf n)) e h = refl
      of (Some (Inner n)) e h =
          let y = node_at v at stands in
          let z : Some (with_children (inner_child i) n) ≡ Some y.0 = sym (slot_seen s i (Inner n) e) ∙ (ap (λ w. get w (257 * i)) is ∙ (ap (get v) (sym at_is) ∙ y.1)) in
          let q : with_children (inner_child i) n ≡ y.0 = cc in
          let p : length (prefix_of n) ≡ length (prefix_of y.0) = ap length (sym (with_prefix (inner_child i) n)) ∙ ap (λ w. length (prefix_of w)) q in
          let k : length (prefix_of n) < 7 = subst HasKind e (st.kinds i) in
          absurd (let w = seven y.0 y.1 in omega (arith, p, k, w))

  -- the slots are sound after a leaf left its slot
  pub leaves_stored : s'.capacity ≡ s.capacity → slab_len s' + 1 ≡ slab_len s → IsStored s' inline
  leaves_stored cap len = let r = st.room in slot_stored s s' i inline None st u no_lone tt cap (omega (arith, r, cap, len))

  -- where a leaf left its slot, its name alone has no node any more
  pub leaves_done : Updates v (nodes_in s') at None
  leaves_done =
      let w = slot_updates s s' i None u no_lone in
      subst (λ k. Updates v (nodes_in s') k None) (sym at_is) (subst (λ w. Updates w (nodes_in s') (257 * i) None) is w)

-- a full node takes its next form
module _ {P K : Type 0} (s : Slab (Slot P K)) (v : Nodes P) (is : nodes_in s ≡ v) (inline : ℕ) (st : IsStored s inline) (at i : ℕ) (byte : Option ℕ) (name : 257 * i + offset_of byte ≡ at) (low : IsByte byte)
    (stands : ContainsKey v at) (full : (y : Node ℕ P) → get v at ≡ Some y → is_full_of y ≡ true) where
  full_own : byte ≡ None
  full_own = of byte refl
    where
      of : (o : Option ℕ) → byte ≡ o → byte ≡ None
      of None e = e
      of (Some b) e =
          let y = node_at v at stands in
          let k = inline_seen s v is at i byte name b y.0 e low y.1 in
          absurd (let z : true ≡ false = sym (full y.0 y.1) ∙ (sym (ap is_full_of k.1) ∙ lone_full k.0) in cc)

  full_name : at ≡ 257 * i
  full_name = sym name ∙ (ap (λ b. 257 * i + offset_of b) full_own ∙ omega arith)

  -- a full node has a slot that isn't vacant
  pub full_slot : ContainsKey s i
  full_slot = slot_there s i (subst (λ w. ContainsKey w (257 * i)) (sym is) (subst (ContainsKey v) full_name stands))

  module _ (x x' : Slot P K) (e : get s i ≡ Some x) where
    updates : Updates s (with_value s i x') i (Some x')
    updates = Updates-with_value s i x' (rw e refl)

    same_inline : (x x' : Slot P K) → Grown x x' → (b : ℕ) → inline_at x' b ≡ inline_at x b
    same_inline (Inner n) (Inner m) k b = ap (λ c. lone_in (map.get c b)) k.children
    same_inline (Leaf n) (Leaf m) k b = refl
    same_inline (Inner n) (Leaf m) k b = absurd k
    same_inline (Leaf n) (Inner m) k b = absurd k

    same_kind : (x x' : Slot P K) → Grown x x' → HasKind (Some x) → HasKind (Some x')
    same_kind (Inner n) (Inner m) k h = (let p : length (prefix_of m) ≡ length (prefix_of n) = ap length k.prefix in omega (arith, p, h))
    same_kind (Leaf n) (Leaf m) k h = ap length k.prefix ∙ h
    same_kind (Inner n) (Leaf m) k h = absurd k
    same_kind (Leaf n) (Inner m) k h = absurd k

    inlines : Grown x x' → (b : ℕ) → in_slot i (Some x') (suc b) ≡ in_slot i (get s i) (suc b)
    inlines k b = same_inline x x' k b ∙ sym (ap (λ o. in_slot i o (suc b)) e)

    grown_stored : Grown x x' → IsStored (with_value s i x') inline
    grown_stored k =
        let l = len_update s (with_value s i x') i (Some x') updates in
        let c : count_if_some (get s i) ≡ 1 = ap count_if_some e in
        let r = st.room in
        slot_stored s (with_value s i x') i inline (Some x') st updates (inlines k) (same_kind x x' k (subst HasKind e (st.kinds i))) refl (omega (arith, l, c, r))

    grown_node : (x x' : Slot P K) → Grown x x' → (form_of (slot_node i x') ≡ next_form (form_of (slot_node i x))) × (prefix_of (slot_node i x') ≡ prefix_of (slot_node i x)) × (children_of (slot_node i x') ≡ children_of (slot_node i x))
    grown_node (Inner n) (Inner m) k = (
      with_form (inner_child i) m ∙ (k.form ∙ ap next_form (sym (with_form (inner_child i) n))),
      with_prefix (inner_child i) m ∙ (k.prefix ∙ sym (with_prefix (inner_child i) n)),
      with_mapped (inner_child i) m ∙ (ap (mapped (inner_child i)) k.children ∙ sym (with_mapped (inner_child i) n)),
    )
    grown_node (Leaf n) (Leaf m) k = (
      with_form leaf_child m ∙ (k.form ∙ ap next_form (sym (with_form leaf_child n))),
      with_prefix leaf_child m ∙ (k.prefix ∙ sym (with_prefix leaf_child n)),
      with_mapped leaf_child m ∙ (ap (mapped leaf_child) k.children ∙ sym (with_mapped leaf_child n)),
    )
    grown_node (Inner n) (Leaf m) k = absurd k
    grown_node (Leaf n) (Inner m) k = absurd k

    grown_done : Grown x x' → (y : Node ℕ P) → get v at ≡ Some y → GrowsTo v (nodes_in (with_value s i x')) at y
    grown_done k y h =
        let z : Some (slot_node i x) ≡ Some y = sym (slot_seen s i x e) ∙ (ap (λ w. get w (257 * i)) is ∙ (ap (get v) (sym full_name) ∙ h)) in
        let q : slot_node i x ≡ y = cc in
        let g = grown_node x x' k in
        let w = slot_updates s (with_value s i x') i (Some x') updates (inlines k) in
        record {
          node = slot_node i x';
          form = g.0 ∙ ap (λ n. next_form (form_of n)) q;
          prefix = g.1 ∙ ap prefix_of q;
          children = g.2 ∙ ap children_of q;
          updates = subst (λ k. Updates v (nodes_in (with_value s i x')) k (Some (slot_node i x'))) (sym full_name) (subst (λ w. Updates w (nodes_in (with_value s i x')) (257 * i) (Some (slot_node i x'))) is w);
        }

    -- where memory is refused the slot's node is as it was
    kept_stored : x' ≡ x → IsStored (with_value s i x') inline
    kept_stored q =
        let l = len_update s (with_value s i x') i (Some x') updates in
        let c : count_if_some (get s i) ≡ 1 = ap count_if_some e in
        let r = st.room in
        slot_stored s (with_value s i x') i inline (Some x') st updates (λ b. ap (λ w. in_slot i (Some w) (suc b)) q ∙ sym (ap (λ o. in_slot i o (suc b)) e)) (subst (λ w. HasKind (Some w)) (sym q) (subst HasKind e (st.kinds i))) refl (omega (arith, l, c, r))

    kept_done : x' ≡ x → SameValues v (nodes_in (with_value s i x'))
    kept_done q m =
        let w = slot_updates s (with_value s i x') i (Some x') updates (λ b. ap (λ w. in_slot i (Some w) (suc b)) q ∙ sym (ap (λ o. in_slot i o (suc b)) e)) in
        elim (same_or_not m (257 * i)) [
          | inl z ↦ (let Q : ℕ → Type 0 = λ k. get (nodes_in (with_value s i x')) k ≡ get v k in
              subst Q (sym z) (w.changed ∙ (ap (λ w. Some (slot_node i w)) q ∙ (sym (slot_seen s i x e) ∙ ap (λ w. get w (257 * i)) is))))
          | inr ne ↦ w.others m ne ∙ ap (λ w. get w m) is
        ]

    -- whichever it was
    module _ {U V : Type 0} (r : Result U V) where
      -- the slots are sound, whether the node took its next form or memory was refused
      pub grow_stored : OnOk r (Grown x x') → OnErr r (x' ≡ x) → IsStored (with_value s i x') inline
      grow_stored a b = of r a b
        where
          of : (r : Result U V) → OnOk r (Grown x x') → OnErr r (x' ≡ x) → IsStored (with_value s i x') inline
          of (Ok u) a b = grown_stored a
          of (Err w) a b = kept_stored b

      -- where it took its next form, it did so for the tree
      pub grow_done : OnOk r (Grown x x') → OnOk r ((y : Node ℕ P) → get v at ≡ Some y → GrowsTo v (nodes_in (with_value s i x')) at y)
      grow_done a = of r a
        where
          of : (r : Result U V) → OnOk r (Grown x x') → OnOk r ((y : Node ℕ P) → get v at ≡ Some y → GrowsTo v (nodes_in (with_value s i x')) at y)
          of (Ok u) a = grown_done a
          of (Err w) a = a

      -- where memory was refused, every name has the node that it had
      pub grow_kept : OnErr r (x' ≡ x) → OnErr r (SameValues v (nodes_in (with_value s i x')))
      grow_kept b = of r b
        where
          of : (r : Result U V) → OnErr r (x' ≡ x) → OnErr r (SameValues v (nodes_in (with_value s i x')))
          of (Ok u) b = b
          of (Err w) b = kept_done b

-- another capacity alone
pub wider_same : {P K : Type 0} (s s' : Slab (Slot P K)) (v : Nodes P) → nodes_in s ≡ v → s'.slots ≡ s.slots → SameValues v (nodes_in s')
unfolding nodes_in
wider_same s s' v is e m = ap (λ l. get_or (list_map (node_named l) (range_with_len 0 (257 * length l))) m None) e ∙ ap (λ w. get w m) is

-- what is true of the slots stays so with more room for slots
pub wider_stored : {P K : Type 0} (s s' : Slab (Slot P K)) (inline : ℕ) → IsStored s inline → s'.slots ≡ s.slots → s.capacity ≤ s'.capacity → IsStored s' inline
unfolding nodes_in
wider_stored s s' inline st e c =
    let a : slab_len s' ≡ slab_len s = ap (λ l. count_by is_some l) e in
    let b : slab_len (nodes_in s') ≡ slab_len (nodes_in s) = ap (λ l. count_by is_some (list_map (node_named l) (range_with_len 0 (257 * length l)))) e in
    let k = st.counted in let r = st.room in
    record {
      counted = omega (arith, a, b, k);
      room = omega (arith, a, r, c);
      kinds = λ j. subst HasKind (ap (λ l. get_or l j None) (sym e)) (st.kinds j);
    }

-- a least node without children has room
pub least_absent : {P : Type 0} (n : Node ℕ P) (b : ℕ) → children_of n ≡ map.empty → map.get (children_of n) b ≡ None
least_absent n b e = ap (λ m. map.get m b) e ∙ map.get-empty _ b

-- a node of the least form without children isn't full
pub least_room : {P : Type 0} (n : Node ℕ P) → form_of n ≡ N4 → children_of n ≡ map.empty → is_full_of n ≡ false
least_room n f e = full_is n ∙ (ap (λ t. full_at t (map.len (children_of n))) f ∙ ap (full_at N4) (ap map.len e ∙ map.len-empty nat_cmp _))

-- A leaf that lies in its parent's place takes a slot of its own.
use Rattle.std.proofs.Common.{◌≡◌, ◌≢◌, ℕ, ◌+◌, ◌*◌, ◌<◌, ◌≤◌, false, inl, inr, length, get_or, refl, sym, ap, subst, ◌∙◌, arith}
use Rattle.std.specs.Prelude.{Option, None, Some}
use Rattle.std.specs.Ordering.{nat_cmp}
use Rattle.std.specs.FinMap as map
use Rattle.std.proofs.lemmas.List.{length-take-le}
use Rattle.slab.specs.Slab.{Slab, get, ContainsKey, HasRoomFor, Updates, slab_len}
use Rattle.congee.specs.forms.Forms.{capacity_of, children_of, form_of, is_full_of, prefix_of}
use Rattle.congee.specs.owned.Arena.{Nodes}
use Rattle.congee.specs.owned.Kinds.{IsValue, form_in, inner_get, len_in}
use Rattle.congee.specs.owned.Naming.{HasOwnSlot, IsByte, offset_of}
use Rattle.congee.specs.owned.OwnedSteps.{Sets}
use Rattle.congee.specs.owned.Renames.{Renames}
use Rattle.congee.specs.owned.Slots.{lone_node, nodes_in, slot_node}
use Rattle.congee.specs.owned.Storage.{IsStored}
use Rattle.congee.specs.owned.Stores.{HasInline, HasOne, LosesLeaf, MakesLeaf}
use Rattle.congee.specs.declared.forms.base_node.Node.{Node}
use Rattle.congee.specs.declared.forms.base_node.NodeType.{NodeType}
use Rattle.congee.specs.declared.forms.base_node.NodeType.TheVariants.{N4, N16, N48, N256}
use Rattle.congee.specs.declared.forms.child.Child.{Child}
use Rattle.congee.specs.declared.forms.child.Child.TheVariants.{Node as Sub, Value}
use Rattle.congee.specs.declared.owned.inline_leaf.Lone.{Lone}
use Rattle.congee.specs.declared.owned.slots.Slot.{Slot}
use Rattle.congee.proofs.lemmas.Fits.{other_test}
use Rattle.congee.proofs.lemmas.Tree.{same_or_not}
use Rattle.congee.proofs.lemmas.forms.Full.{full_at, full_is}
use Rattle.congee.proofs.lemmas.forms.MapLemmas.{len_less}
use Rattle.congee.proofs.lemmas.owned.Folding.{one_child, same_least, unfold_done}
use Rattle.congee.proofs.lemmas.owned.Moves.{apart_of, insert_at, insert_beside, node_at, one_node, remove_at}
use Rattle.congee.proofs.lemmas.owned.SlotChanges.{AtInner, at_inner, inner_slot}
use Rattle.congee.proofs.lemmas.owned.SlotLens.{count_if_some, len_two, len_update}
use Rattle.congee.proofs.lemmas.owned.SlotOps.{inline_in, inline_seen_there}
use Rattle.congee.proofs.lemmas.owned.Stored.{LoneAt, lone_in_view, lone_seen, lone_value, seen_form, seen_len}

-- a map of one pair has one value
pub one_value : {X : Type 0} (k l : ℕ) (x y : X) → map.insert {R = nat_cmp} map.empty k x ≡ map.insert map.empty l y → x ≡ y
one_value k l x y e =
    let here : Some x ≡ map.get (map.insert {R = nat_cmp} map.empty l y) k = sym (insert_at map.empty k x) ∙ ap (λ m. map.get m k) e in
    elim (same_or_not k l) [
      | inl q ↦ (let z : Some x ≡ Some y = here ∙ (ap (map.get (map.insert {R = nat_cmp} map.empty l y)) q ∙ insert_at map.empty l y) in cc)
      | inr ne ↦ (let z : Some x ≡ None = here ∙ (insert_beside map.empty l y k ne ∙ map.get-empty _ k) in absurd (cc))
    ]

-- less children than fit don't fill a form
less_not_full : (f : NodeType) (n : ℕ) → n < capacity_of f → full_at f n ≡ false
less_not_full N4 n l = other_test n 4 (λ e. omega (arith, e, l))
less_not_full N16 n l = other_test n 16 (λ e. omega (arith, e, l))
less_not_full N48 n l = other_test n 48 (λ e. omega (arith, e, l))
less_not_full N256 n l = refl

module _ {P : Type 0} where
  -- there is room for the nodes that stand
  pub fits_room : {K : Type 0} (s : Slab (Slot P K)) (v : Nodes P) → nodes_in s ≡ v → (inline : ℕ) → IsStored s inline → HasRoomFor v 0
  unfolding nodes_in
  fits_room s v is inline st =
      let a : slab_len (nodes_in s) ≡ slab_len v = ap slab_len is in
      let c : s.capacity ≡ v.capacity = ap (λ w. w.capacity) is in
      let k = st.counted in let r = st.room in omega (arith, a, c, k, r)

  same_sub : (o : Option (Child ℕ P)) (m n : ℕ) → o ≡ Some (Sub m) → o ≡ Some (Sub n) → m ≡ n
  same_sub o m n e h = let a : Child ℕ P = Sub m in let d : Child ℕ P = Sub n in let z : Some a ≡ Some d = sym e ∙ h in cc

  loses_len : (v v1 : Nodes P) (at b : ℕ) (y : Node ℕ P) (value : P) → get v at ≡ Some y → LosesLeaf v v1 at y b value → slab_len v1 + 1 ≡ slab_len v
  loses_len v v1 at b y value e k =
      let apart : at ≢ k.leaf = (λ w. let z : Some k.node ≡ None = sym k.now ∙ (ap (get v1) w ∙ k.left) in cc) in
      let two = len_two v v1 at k.leaf apart k.others in
      let a : count_if_some (get v at) ≡ 1 = ap count_if_some e in
      let c : count_if_some (get v k.leaf) ≡ 1 = ap count_if_some k.stood in
      let d : count_if_some (get v1 at) ≡ 1 = ap count_if_some k.now in
      let f : count_if_some (get v1 k.leaf) ≡ 0 = ap count_if_some k.left in
      omega (arith, two, a, c, d, f)

  -- a leaf that went left room for one node
  pub lost_room : (v v1 : Nodes P) (at b : ℕ) (value : P) → ContainsKey v at → ((y : Node ℕ P) → get v at ≡ Some y → LosesLeaf v v1 at y b value) → HasRoomFor v 0 → v1.capacity ≡ v.capacity → HasRoomFor v1 1
  lost_room v v1 at b value stands takes room cap =
      let y = node_at v at stands in
      let l = loses_len v v1 at b y.0 value y.1 (takes y.0 y.1) in
      omega (arith, l, room, cap)

module _ {P K : Type 0} (s : Slab (Slot P K)) (v : Nodes P) (is : nodes_in s ≡ v) (inline : ℕ) (st : IsStored s inline) (at i : ℕ) (byte : Option ℕ) (name : 257 * i + offset_of byte ≡ at) (fits : IsByte byte)
    (stands : ContainsKey v at) (inner : (y : Node ℕ P) → get v at ≡ Some y → length (prefix_of y) < 7) (b : ℕ) (low : b < 256) (has : (y : Node ℕ P) → get v at ≡ Some y → HasInline (map.get (children_of y) b)) where
  there : (y : Node ℕ P) × (get v at ≡ Some y)
  there = node_at v at stands

  at_node : (y : Node ℕ P) → get v at ≡ Some y → AtInner s v at i y
  at_node y h = at_inner s v is at i byte name fits st.kinds y h (inner y h)

  inline_child : (y : Node ℕ P) → get v at ≡ Some y → map.get (children_of y) b ≡ Some (Sub (257 * i + (b + 1)))
  inline_child y h = let k = at_node y h in (inline_in i k.node k.node y k.seen b (has y h)).child

  lone_here : LoneAt s i b
  lone_here = lone_in_view s v is at i byte name b low (inline_seen_there s v is inline st at i byte name fits stands inner b low has)

  -- the slot has a value under the leaf's byte
  pub inline_value : (x : Slot P K) → get s i ≡ Some x → IsValue (inner_get x b)
  inline_value x e = lone_value s i b lone_here x e

  -- the leaf went and comes again
  module _ (x : Slot P K) (e : get s i ≡ Some x) (lone : Lone P) (read : inner_get x b ≡ Some (Value lone)) (v1 v2 : Nodes P) (value : P) (to : ℕ) (takes : (y : Node ℕ P) → get v at ≡ Some y → LosesLeaf v v1 at y b value)
      (made : MakesLeaf v1 v2 to lone.key value) where
    leaf_is : (y : Node ℕ P) (h : get v at ≡ Some y) → (takes y h).leaf ≡ 257 * i + (b + 1)
    leaf_is y h = let k = takes y h in same_sub (map.get (children_of y) b) k.leaf (257 * i + (b + 1)) k.child (inline_child y h)

    was_is : (y : Node ℕ P) (h : get v at ≡ Some y) → (takes y h).was ≡ lone_node lone
    was_is y h =
        let k = takes y h in
        one_node v (257 * i + (b + 1)) k.was (lone_node lone) (ap (get v) (sym (leaf_is y h)) ∙ k.stood) (lone_seen s v is i b lone_here x lone e read)

    value_is : (y : Node ℕ P) (h : get v at ≡ Some y) → lone.value ≡ value
    value_is y h =
        let k = takes y h in
        let a : Child ℕ P = Value lone.value in let d : Child ℕ P = Value value in
        let z : a ≡ d = one_value (get_or lone.key 7 0) k.last a d (ap children_of (sym (was_is y h)) ∙ k.lone.children) in
        cc

    node_is : (y : Node ℕ P) (h : get v at ≡ Some y) → made.node ≡ (takes y h).was
    node_is y h =
        let c = one_child (children_of made.node) (get_or lone.key 7 0) (Value value) made.has.value made.has.beside in
        let w : map.insert map.empty (get_or lone.key 7 0) (Value value) ≡ children_of (lone_node lone) = ap (λ w. map.insert map.empty (get_or lone.key 7 0) (Value w)) (sym (value_is y h)) in
        same_least made.node (lone_node lone) made.form refl made.has.prefix (c ∙ w) ∙ sym (was_is y h)

    stays : (y : Node ℕ P) (h : get v at ≡ Some y) → get v2 at ≡ Some (takes y h).node
    stays y h = let k = takes y h in made.updates.others at (apart_of v1 at to k.node k.now made.vacant) ∙ k.now

    -- the node above stands after the leaf went and came again
    pub unfold_stands : ContainsKey v2 at
    unfold_stands = rw (stays there.0 there.1) refl

    module _ (z : Node ℕ P) (h : get v2 at ≡ Some z) where
      same_node : (takes there.0 there.1).node ≡ z
      same_node = one_node v2 at (takes there.0 there.1).node z (stays there.0 there.1) h

      -- the node above is no leaf after the leaf went and came again
      pub unfold_inner : length (prefix_of z) < 7
      unfold_inner =
          let k = takes there.0 there.1 in
          let p : length (prefix_of z) ≡ length (prefix_of there.0) = ap (λ w. length (prefix_of w)) (sym same_node) ∙ ap length k.becomes.prefix in
          let l = inner there.0 there.1 in
          omega (arith, p, l)

      -- the node above has nothing under the leaf's byte after the leaf went and came again
      pub unfold_absent : map.get (children_of z) b ≡ None
      unfold_absent =
          let k = takes there.0 there.1 in
          ap (λ w. map.get (children_of w) b) (sym same_node) ∙ (ap (λ m. map.get m b) k.becomes.children ∙ remove_at (children_of there.0) b)

      -- the node above isn't full after the leaf went and came again
      pub unfold_room : len_in x ≤ capacity_of (form_in x) → is_full_of z ≡ false
      unfold_room fit =
          let y = there.0 in
          let k = takes y there.1 in
          let a = at_node y there.1 in
          let seen : slot_node i x ≡ y = ap (slot_node i) (inner_slot s v at i y a x e) ∙ a.seen in
          let n : map.len (children_of y) ≡ len_in x = ap (λ w. map.len (children_of w)) (sym seen) ∙ seen_len i x in
          let f : form_in x ≡ form_of z = sym (seen_form i x) ∙ (ap form_of seen ∙ (sym k.becomes.form ∙ ap form_of same_node)) in
          let cap : capacity_of (form_in x) ≡ capacity_of (form_of z) = ap capacity_of f in
          let m : map.len (children_of z) ≡ map.len (map.remove (children_of y) b) = ap (λ w. map.len (children_of w)) (sym same_node) ∙ ap map.len k.becomes.children in
          let l : map.len (map.remove (children_of y) b) + 1 ≡ map.len (children_of y) = len_less (children_of y) b (rw (inline_child y there.1) refl) in
          full_is z ∙ less_not_full (form_of z) (map.len (children_of z)) (omega (arith, n, m, l, cap, fit))

    -- and hangs where it lay
    module _ (v3 : Nodes P) (own : HasOwnSlot to) (hangs : (z : Node ℕ P) → get v2 at ≡ Some z → Sets v2 v3 at z (map.insert (children_of z) b (Sub to))) where
      -- the leaf, hung where it lay under its new name, took another name alone
      pub unfold_renames : (y : Node ℕ P) (leaf : ℕ) → get v at ≡ Some y → map.get (children_of y) b ≡ Some (Sub leaf) → Renames v v3 at b leaf to
      unfold_renames y leaf h child =
          let q : leaf ≡ 257 * i + (b + 1) = same_sub (map.get (children_of y) b) leaf (257 * i + (b + 1)) child (inline_child y h) in
          let puts : Updates v1 v2 to (Some (takes y h).was) = subst (λ n. Updates v1 v2 to (Some n)) (node_is y h) made.updates in
          unfold_done v v1 v2 v3 at b leaf to y value h child (takes y h) made.vacant puts (λ w. absurd (omega (arith, q, w, own, low))) hangs

      -- the leaf under its new name has one value
      pub unfold_one : (z : Node ℕ P) → get v3 to ≡ Some z → HasOne z
      unfold_one z h =
          let k = hangs (takes there.0 there.1).node (stays there.0 there.1) in
          let apart : to ≢ at = (λ w. let n : None ≡ Some (takes there.0 there.1).node = sym made.vacant ∙ (ap (get v1) w ∙ (takes there.0 there.1).now) in cc) in
          let q : made.node ≡ z = one_node v3 to made.node z (k.updates.others to apart ∙ made.updates.changed) h in
          let w = lone.whole in
          let one : HasOne made.node = record {
            last = get_or lone.key 7 0;
            value = value;
            low = lone.last;
            lone = record {
              form = made.form;
              prefix = ap length made.has.prefix ∙ length-take-le 7 lone.key (omega (arith, w));
              children = one_child (children_of made.node) (get_or lone.key 7 0) (Value value) made.has.value made.has.beside;
            };
          } in
          subst HasOne q one

      -- the leaf under its new name leaves room for as many further nodes
      pub unfold_keeps : v1.capacity ≡ v.capacity → v2.capacity ≡ v1.capacity → v3.capacity ≡ v2.capacity → (n : ℕ) → HasRoomFor v n → HasRoomFor v3 n
      unfold_keeps c1 c2 c3 n room =
          let k = hangs (takes there.0 there.1).node (stays there.0 there.1) in
          let l1 = loses_len v v1 at b there.0 value there.1 (takes there.0 there.1) in
          let l2 = len_update v1 v2 to (Some made.node) made.updates in
          let a : count_if_some (get v1 to) ≡ 0 = ap count_if_some made.vacant in
          let l3 = len_update v2 v3 at (Some k.node) k.updates in
          let d : count_if_some (get v2 at) ≡ 1 = ap count_if_some (stays there.0 there.1) in
          omega (arith, l1, l2, a, l3, d, c1, c2, c3, room)

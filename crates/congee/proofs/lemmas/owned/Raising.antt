-- What stands in the storage where a node's only child takes the node's place.
use Rattle.std.proofs.Common.{◌≡◌, ◌≢◌, ℕ, zero, suc, ◌+◌, ◌*◌, ◌/◌, ◌%◌, ◌<◌, inl, inr, length, get_or, refl, sym, ap, subst, ◌∙◌, arith}
use Rattle.std.specs.Prelude.{None, Some}
use Rattle.std.specs.FinMap as map
use Rattle.std.proofs.lemmas.List.{get_or-take}
use Rattle.slab.specs.Slab.{Slab, get, ContainsKey, HasRoomFor}
use Rattle.congee.specs.forms.Forms.{children_of, form_of, prefix_of, size_of}
use Rattle.congee.specs.owned.Arena.{Nodes}
use Rattle.congee.specs.owned.Entries.{first_byte}
use Rattle.congee.specs.owned.Lifting.{GivesLeaf, GivesNode, HasOneNode, MayLift, MovesUp}
use Rattle.congee.specs.owned.Naming.{HasOwnSlot, IsByte, byte_of, offset_of}
use Rattle.congee.specs.owned.OwnedSteps.{Sets}
use Rattle.congee.specs.owned.Sizes.{bytes_at, bytes_of}
use Rattle.congee.specs.owned.Slots.{lone_node, nodes_in}
use Rattle.congee.specs.owned.Stores.{HangsLeaf, HasNode}
use Rattle.congee.specs.declared.forms.base_node.Node.{Node}
use Rattle.congee.specs.declared.forms.child.Child.{Child}
use Rattle.congee.specs.declared.forms.child.Child.TheVariants.{Node as Sub, Value}
use Rattle.congee.specs.declared.owned.inline_leaf.Lone.{Lone}
use Rattle.congee.specs.declared.owned.slots.Slot.{Slot}
use Rattle.congee.proofs.lemmas.Tree.{same_or_not}
use Rattle.congee.proofs.lemmas.owned.Folding.{one_child, same_least}
use Rattle.congee.proofs.lemmas.owned.Hangings.{bytes_two}
use Rattle.congee.proofs.lemmas.owned.Moves.{apart_of, one_node, stands_at}
use Rattle.congee.proofs.lemmas.owned.Sizes.{bytes_update, sets_bytes}
use Rattle.congee.proofs.lemmas.owned.SlotChanges.{inner_own}
use Rattle.congee.proofs.lemmas.owned.SlotLens.{count_if_some, len_two}
use Rattle.congee.proofs.lemmas.owned.Slots.{in_offset, low_offset}
use Rattle.congee.proofs.lemmas.owned.SlotValues.{own_none}
use Rattle.congee.proofs.lemmas.owned.Unfolds.{one_value}

module _ {P : Type 0} (s : Nodes P) (g b p : ℕ) (r : MayLift s g b p) where
  upper_is : (s1 : Nodes P) → get s1 g ≡ get s g → (x : Node ℕ P) → get s1 g ≡ Some x → r.upper ≡ x
  upper_is s1 same x e = one_node s1 g r.upper x (same ∙ r.was) e

  -- the lower node is no leaf
  pub lower_inner : (y : Node ℕ P) → get s p ≡ Some y → length (prefix_of y) < 7
  lower_inner y e = subst (λ z. length (prefix_of z) < 7) (one_node s p r.lower y r.stood e) r.inner_below

  -- one node hangs in the lower node, and nothing else
  pub lower_one : (y : Node ℕ P) → get s p ≡ Some y → HasOneNode y
  lower_one y e = subst HasOneNode (one_node s p r.lower y r.stood e) r.one

  -- the upper node, as it was, is no leaf
  pub upper_inner : (s1 : Nodes P) → get s1 g ≡ get s g → (x : Node ℕ P) → get s1 g ≡ Some x → length (prefix_of x) < 7
  upper_inner s1 same x e = subst (λ z. length (prefix_of z) < 7) (upper_is s1 same x e) r.inner

  -- the upper node, as it was, has a node with a slot under the byte
  pub upper_node : (s1 : Nodes P) → get s1 g ≡ get s g → HasOwnSlot p → (x : Node ℕ P) → get s1 g ≡ Some x → HasNode (map.get (children_of x) b)
  upper_node s1 same own x e = subst (λ z. HasNode (map.get (children_of z) b)) (upper_is s1 same x e) (subst HasNode (sym r.hung) own)

  -- the upper node, as it was, stands
  pub upper_stands : (s1 : Nodes P) → get s1 g ≡ get s g → ContainsKey s1 g
  upper_stands s1 same = stands_at s1 g r.upper (same ∙ r.was)

  child_is : (q o : ℕ) → children_of r.lower ≡ map.insert map.empty q (Sub o) → o ≡ r.one.child
  child_is q o only =
      let a : Child ℕ P = Sub o in
      let c : Child ℕ P = Sub r.one.child in
      let z : a ≡ c = one_value q r.one.byte a c (sym only ∙ r.one.children) in cc

  -- the child has a slot of its own
  module _ (s1 : Nodes P) (o : ℕ) (k : GivesNode s s1 p r.lower o) where
    -- where the lower node went, the upper one is as it was
    pub node_above : get s1 g ≡ get s g
    node_above = k.gone.others g r.apart

    module _ (s2 : Nodes P) (puts : (x : Node ℕ P) → get s1 g ≡ Some x → Sets s1 s2 g x (map.insert (children_of x) b (Sub o))) where
      put : Sets s1 s2 g r.upper (map.insert (children_of r.upper) b (Sub o))
      put = puts r.upper (node_above ∙ r.was)

      node_is_child : o ≡ r.one.child
      node_is_child = child_is k.byte o k.only

      -- the child under its own name, put in the lower node's place, moves up
      pub node_moves : MovesUp s s2 g b p r
      node_moves = record {
        name = o;
        stands = ap (get s2) node_is_child ∙ (put.updates.others r.one.child r.child_apart ∙ (k.gone.others r.one.child r.child_apart_below ∙ r.child));
        new = put.node;
        becomes = put.becomes;
        now = put.updates.changed;
        left = put.updates.others p (λ e. r.apart (sym e)) ∙ k.gone.changed;
        named = inl node_is_child;
        others = λ m mg mp mo mn. put.updates.others m mg ∙ k.gone.others m mp;
      }

      -- where the child moves up under its own name, the sizes fall by that of the lower node
      pub node_bytes : bytes_of s2 + size_of (form_of r.lower) ≡ bytes_of s
      node_bytes =
          let u = bytes_update s s1 p None k.gone in
          let z : bytes_at (get s p) ≡ size_of (form_of r.lower) = ap bytes_at r.stood in
          let c = sets_bytes s1 s2 g r.upper _ (node_above ∙ r.was) put in
          omega (arith, u, z, c)

  -- the child lies in the node's place
  module _ (own : HasOwnSlot p) (s1 : Nodes P) (lone : Lone P) (k : GivesLeaf s s1 p r.lower lone) where
    leaf_is : k.leaf ≡ r.one.child
    leaf_is = child_is k.byte k.leaf k.only

    not_leaf : (m : ℕ) → m ≢ r.one.child → m ≢ k.leaf
    not_leaf m ne e = ne (e ∙ leaf_is)

    node_is : r.node ≡ lone_node lone
    node_is = one_node s r.one.child r.node (lone_node lone) r.child (ap (get s) (sym leaf_is) ∙ k.stood)

    -- where the lower node went with the leaf, the upper one is as it was
    pub leaf_above : get s1 g ≡ get s g
    leaf_above = k.others g r.apart (not_leaf g (λ e. r.child_apart (sym e)))

    -- the first byte of its key
    pub leaf_begins : (x : Node ℕ P) → get s1 g ≡ Some x → get_or lone.key 0 0 ≡ first_byte (prefix_of x) b
    leaf_begins x e =
        let p0 : get_or (prefix_of r.node) 0 0 ≡ get_or lone.key 0 0 = ap (λ z. get_or (prefix_of z) 0 0) node_is ∙ get_or-take 7 lone.key 0 0 (omega arith) in
        sym p0 ∙ (r.begins ∙ ap (λ z. first_byte (prefix_of z) b) (upper_is s1 leaf_above x e))

    apart : p ≢ k.leaf
    apart e = r.child_apart_below (sym (e ∙ leaf_is))

    -- where the lower node went with the leaf, there is room for one more node
    pub leaf_room : s1.capacity ≡ s.capacity → HasRoomFor s 0 → HasRoomFor s1 1
    leaf_room cap room =
        let u = len_two s s1 p k.leaf apart k.others in
        let a : count_if_some (get s p) ≡ 1 = ap count_if_some r.stood in
        let c : count_if_some (get s k.leaf) ≡ 1 = ap count_if_some k.stood in
        let d : count_if_some (get s1 p) ≡ 0 = ap count_if_some k.gone in
        let f : count_if_some (get s1 k.leaf) ≡ 0 = ap count_if_some k.left in
        omega (arith, u, a, c, d, f, cap, room)

    module _ (s2 : Nodes P) (puts : (x : Node ℕ P) → get s1 g ≡ Some x → HangsLeaf s1 s2 g x b lone.key lone.value) where
      put_leaf : HangsLeaf s1 s2 g r.upper b lone.key lone.value
      put_leaf = puts r.upper (leaf_above ∙ r.was)

      made_is : put_leaf.made ≡ r.node
      made_is = same_least put_leaf.made (lone_node lone) put_leaf.form refl put_leaf.has.prefix (one_child (children_of put_leaf.made) (get_or lone.key 7 0) (Value lone.value) put_leaf.has.value put_leaf.has.beside) ∙ sym node_is

      not_p : put_leaf.leaf ≢ p
      not_p e = put_leaf.inline (let Q : ℕ → Type 0 = λ z. HasOwnSlot z in subst Q (sym e) own)

      -- the leaf under a new name, put in the lower node's place, moves up
      pub leaf_moves : MovesUp s s2 g b p r
      leaf_moves = record {
        name = put_leaf.leaf;
        stands = put_leaf.taken ∙ ap Some made_is;
        new = put_leaf.node;
        becomes = put_leaf.becomes;
        now = put_leaf.now;
        left = put_leaf.others p (λ e. r.apart (sym e)) (λ e. not_p (sym e)) ∙ k.gone;
        named = elim (same_or_not put_leaf.leaf r.one.child) [
          | inl e ↦ inl e
          | inr ne ↦ inr (
            sym (k.others put_leaf.leaf not_p (not_leaf put_leaf.leaf ne)) ∙ put_leaf.vacant,
            put_leaf.others r.one.child r.child_apart (λ e. ne (sym e)) ∙ (ap (get s1) (sym leaf_is) ∙ k.left),
          )
        ];
        others = λ m mg mp mo mn. put_leaf.others m mg mn ∙ k.others m mp (not_leaf m mo);
      }

      -- where the leaf moves up under a new name, the sizes fall by that of the lower node
      pub leaf_bytes : bytes_of s2 + size_of (form_of r.lower) ≡ bytes_of s
      leaf_bytes =
          let one = bytes_two s s1 p k.leaf apart k.others in
          let a : bytes_at (get s p) ≡ size_of (form_of r.lower) = ap bytes_at r.stood in
          let c : bytes_at (get s k.leaf) ≡ 64 = ap bytes_at k.stood in
          let d : bytes_at (get s1 p) ≡ 0 = ap bytes_at k.gone in
          let f : bytes_at (get s1 k.leaf) ≡ 0 = ap bytes_at k.left in
          let two = bytes_two s1 s2 g put_leaf.leaf (apart_of s1 g put_leaf.leaf r.upper (leaf_above ∙ r.was) put_leaf.vacant) put_leaf.others in
          let h : bytes_at (get s1 g) ≡ size_of (form_of r.upper) = ap bytes_at (leaf_above ∙ r.was) in
          let j : bytes_at (get s1 put_leaf.leaf) ≡ 0 = ap bytes_at put_leaf.vacant in
          let l : bytes_at (get s2 g) ≡ size_of (form_of r.upper) = ap bytes_at put_leaf.now ∙ ap size_of put_leaf.becomes.form in
          let n : bytes_at (get s2 put_leaf.leaf) ≡ 64 = ap bytes_at put_leaf.taken ∙ ap size_of put_leaf.form in
          omega (arith, one, a, c, d, f, two, h, j, l, n)

-- an inner node has a slot of its own
pub inner_has_slot : {P K : Type 0} (s : Slab (Slot P K)) (v : Nodes P) → nodes_in s ≡ v → (at : ℕ) (y : Node ℕ P) → get v at ≡ Some y → length (prefix_of y) < 7 → HasOwnSlot at
inner_has_slot s v is at y e short = own_none at (at / 257) (byte_of (at % 257)) name (inner_own s v is at (at / 257) (byte_of (at % 257)) name (low (at % 257) (low_offset at)) y e short)
  where
    back : (m : ℕ) → offset_of (byte_of m) ≡ m
    back zero = refl
    back (suc m) = omega arith

    name : 257 * (at / 257) + offset_of (byte_of (at % 257)) ≡ at
    name = ap (λ m. 257 * (at / 257) + m) (back (at % 257)) ∙ sym (in_offset (at / 257) at refl)

    low : (m : ℕ) → m < 257 → IsByte (byte_of m)
    low zero l = tt
    low (suc m) l = omega (arith, l)

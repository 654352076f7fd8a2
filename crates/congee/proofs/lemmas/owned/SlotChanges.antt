-- An inner node in a slot, and what a change of it at one byte leaves.
use Rattle.std.proofs.Common.{◌≡◌, ◌≢◌, ℕ, suc, ◌+◌, ◌*◌, ◌<◌, ◌≤◌, false, inl, inr, length, refl, sym, ap, subst, ◌∙◌, arith}
use Rattle.std.specs.Prelude.{Option, None, Some, IsSome}
use Rattle.std.specs.Ordering.{nat_cmp}
use Rattle.std.specs.FinMap as map
use Rattle.slab.specs.Slab.{Slab, get, ContainsKey, Updates, slab_len, with_value}
use Rattle.slab.proofs.SlabLemmas.{Updates-with_value}
use Rattle.congee.specs.forms.Forms.{Becomes, children_of, is_full_of, prefix_of}
use Rattle.congee.specs.owned.Arena.{Nodes}
use Rattle.congee.specs.owned.Kinds.{IsInner, full_in, inner_get, InnerBecomes}
use Rattle.congee.specs.owned.Naming.{offset_of, IsByte}
use Rattle.congee.specs.owned.Slots.{inner_child, leaf_child, lone_node, with_children, lone_in, in_slot, nodes_in}
use Rattle.congee.specs.owned.Storage.{HasKind, IsStored}
use Rattle.congee.specs.declared.forms.base_node.Node.{Node}
use Rattle.congee.specs.declared.forms.child.Child.{Child}
use Rattle.congee.specs.declared.owned.inline_leaf.Lone.{Lone}
use Rattle.congee.specs.declared.owned.slots.Slot.{Slot}
use Rattle.congee.specs.declared.owned.slots.Slot.TheVariants.{Inner, Leaf}
use Rattle.std.proofs.lemmas.List.{length-take-le}
use Rattle.congee.proofs.lemmas.Tree.{same_or_not}
use Rattle.congee.proofs.lemmas.forms.MappedLemmas.{mapped_none}
use Rattle.congee.proofs.lemmas.owned.SlotLens.{count_if_some, len_two, len_update}
use Rattle.congee.proofs.lemmas.owned.Slots.{get_inline, with_prefix, with_mapped, with_full}
use Rattle.congee.proofs.lemmas.owned.Stored.{slot_seen, named_slot, named_seen, inline_seen, byte_beside}

-- the node of this name is the inner node in a slot
pub record AtInner {P K : Type 0} (s : Slab (Slot P K)) (v : Nodes P) (at i : ℕ) (y : Node ℕ P) : Type 0 where
  pub node : Node ℕ (Lone P)
  pub stands : get s i ≡ Some (Inner node)
  pub name : at ≡ 257 * i
  pub seen : with_children (inner_child i) node ≡ y

module _ {P K : Type 0} (s : Slab (Slot P K)) (v : Nodes P) (is : nodes_in s ≡ v) (at i : ℕ) (byte : Option ℕ) (name : 257 * i + offset_of byte ≡ at) (low : IsByte byte) where
  -- a node with a prefix of less than seven bytes has a slot
  pub inner_own : (y : Node ℕ P) → get v at ≡ Some y → length (prefix_of y) < 7 → byte ≡ None
  inner_own y h short = of byte refl
    where
      of : (o : Option ℕ) → byte ≡ o → byte ≡ None
      of None e = e
      of (Some b) e =
          let k = inline_seen s v is at i byte name b y e low h in
          let l : length (prefix_of (lone_node k.0)) ≡ 7 = length-take-le 7 k.0.key (let w = k.0.whole in omega (arith, w)) in
          let p : length (prefix_of (lone_node k.0)) ≡ length (prefix_of y) = ap (λ z. length (prefix_of z)) k.1 in
          absurd (omega (arith, l, p, short))

  own_name : byte ≡ None → at ≡ 257 * i
  own_name e = sym name ∙ (ap (λ b. 257 * i + offset_of b) e ∙ omega arith)

  -- a node with a prefix of less than seven bytes is the inner node in the slot of its name
  pub at_inner : ((j : ℕ) → HasKind (get s j)) → (y : Node ℕ P) → get v at ≡ Some y → length (prefix_of y) < 7 → AtInner s v at i y
  at_inner kinds y h short =
      let own = inner_own y h short in
      of (get s i) refl (named_slot s v is at i byte name own (let z : ContainsKey v at = rw h refl in z)) own (kinds i)
    where
      of : (o : Option (Slot P K)) → get s i ≡ o → IsSome (get s i) → byte ≡ None → HasKind (get s i) → AtInner s v at i y
      of None e there own k = absurd (cc (subst IsSome e there))
      of (Some (Inner n)) e there own k = record { node = n; stands = e; name = own_name own; seen = named_seen s v is at i byte name own (Inner n) y e h }
      of (Some (Leaf n)) e there own k =
          let z : with_children leaf_child n ≡ y = named_seen s v is at i byte name own (Leaf n) y e h in
          let l : length (prefix_of n) ≡ 7 = subst HasKind e k in
          let p : length (prefix_of y) ≡ length (prefix_of n) = ap (λ w. length (prefix_of w)) (sym z) ∙ ap length (with_prefix leaf_child n) in
          absurd (omega (arith, l, p, short))

module _ {P K : Type 0} (s : Slab (Slot P K)) (v : Nodes P) (at i : ℕ) (y : Node ℕ P) (k : AtInner s v at i y) (x : Slot P K) (e : get s i ≡ Some x) where
  -- what stands in the slot of an inner node is that node
  pub inner_slot : x ≡ Inner k.node
  inner_slot = let z : Some x ≡ Some (Inner k.node) = sym e ∙ k.stands in cc

  -- the slot has an inner node
  pub is_inner : IsInner x
  is_inner = subst IsInner (sym inner_slot) tt

  -- a byte at which the tree sees nothing has nothing in the slot
  pub inner_absent : (b : ℕ) → map.get (children_of y) b ≡ None → inner_get x b ≡ None
  inner_absent b n =
      ap (λ w. inner_get w b) inner_slot
      ∙ mapped_none (inner_child i) (children_of k.node) b (sym (ap (λ m. map.get m b) (with_mapped (inner_child i) k.node)) ∙ (ap (λ w. map.get (children_of w) b) k.seen ∙ n))

  -- an inner node that isn't full for the tree isn't full in its slot
  pub inner_room : is_full_of y ≡ false → full_in x ≡ false
  inner_room n = ap full_in inner_slot ∙ (sym (with_full (inner_child i) k.node) ∙ (ap is_full_of k.seen ∙ n))

-- what an inner node became
pub record InnerAfter {P K : Type 0} (n : Node ℕ (Lone P)) (x' : Slot P K) (m : map.FinMap nat_cmp (Child ℕ (Lone P))) : Type 0 where
  pub node : Node ℕ (Lone P)
  pub is : x' ≡ Inner node
  pub becomes : Becomes n node m

-- an inner node whose children were changed is one with the changed children
pub inner_after : {P K : Type 0} (x x' : Slot P K) (n : Node ℕ (Lone P)) (f : map.FinMap nat_cmp (Child ℕ (Lone P)) → map.FinMap nat_cmp (Child ℕ (Lone P))) → x ≡ Inner n → InnerBecomes x x' f → InnerAfter n x' (f (children_of n))
inner_after {P} {K} x x' n f e b = of x' (subst (λ w. InnerBecomes w x' f) e b)
  where
    of : (z : Slot P K) → InnerBecomes (Inner n) z f → InnerAfter n z (f (children_of n))
    of (Inner m) b = record { node = m; is = refl; becomes = b }
    of (Leaf m) b = absurd b

-- one byte of an inner node changed
module _ {P K : Type 0} (s : Slab (Slot P K)) (i : ℕ) (n n' : Node ℕ (Lone P)) (b : ℕ) (stands : get s i ≡ Some (Inner n)) (low : b < 256) (prefix : prefix_of n' ≡ prefix_of n)
    (same : (q : ℕ) → q ≢ b → map.get (children_of n') q ≡ map.get (children_of n) q) where
  abbrev after : Slab (Slot P K)
  after = with_value s i (Inner n')

  updates : Updates s after i (Some (Inner n'))
  updates = Updates-with_value s i (Inner n') (rw stands refl)

  -- the slot's first name has the changed node
  pub seen_after : get (nodes_in after) (257 * i) ≡ Some (with_children (inner_child i) n')
  seen_after = slot_seen after i (Inner n') updates.changed

  -- the byte's name had the leaf that lay in the node's place there, if one did
  pub lone_before : get (nodes_in s) (257 * i + (b + 1)) ≡ lone_in (map.get (children_of n) b)
  lone_before = get_inline s i b low ∙ ap (λ z. in_slot i z (suc b)) stands

  -- the byte's name has the leaf that lies in the changed node's place there, if one does
  pub lone_after : get (nodes_in after) (257 * i + (b + 1)) ≡ lone_in (map.get (children_of n') b)
  lone_after = get_inline after i b low ∙ ap (λ z. in_slot i z (suc b)) updates.changed

  -- all other names have the nodes that they had
  pub others_after : (m : ℕ) → m ≢ 257 * i → m ≢ 257 * i + (b + 1) → get (nodes_in after) m ≡ get (nodes_in s) m
  others_after = byte_beside s after i n n' b stands updates same

  len_after : slab_len after ≡ slab_len s
  len_after =
      let l = len_update s after i (Some (Inner n')) updates in
      let c : count_if_some (get s i) ≡ 1 = ap count_if_some stands in
      omega (arith, l, c)

  names_after : slab_len (nodes_in after) + count_if_some (lone_in (map.get (children_of n) b)) ≡ slab_len (nodes_in s) + count_if_some (lone_in (map.get (children_of n') b))
  names_after =
      let two = len_two (nodes_in s) (nodes_in after) (257 * i) (257 * i + (b + 1)) (λ q. absurd (omega (arith, q))) others_after in
      let a : count_if_some (get (nodes_in s) (257 * i)) ≡ 1 = ap count_if_some (slot_seen s i (Inner n) stands) in
      let c : count_if_some (get (nodes_in after) (257 * i)) ≡ 1 = ap count_if_some seen_after in
      let d : count_if_some (get (nodes_in s) (257 * i + (b + 1))) ≡ count_if_some (lone_in (map.get (children_of n) b)) = ap count_if_some lone_before in
      let f : count_if_some (get (nodes_in after) (257 * i + (b + 1))) ≡ count_if_some (lone_in (map.get (children_of n') b)) = ap count_if_some lone_after in
      omega (arith, two, a, c, d, f)

  -- the slots are sound, with as many leaves in places as the change left
  pub stored_after : (inline inline' : ℕ) → IsStored s inline → inline' + count_if_some (lone_in (map.get (children_of n) b)) ≡ inline + count_if_some (lone_in (map.get (children_of n') b)) → slab_len s + inline' ≤ s.capacity
      → IsStored after inline'
  stored_after inline inline' k e r = record {
    counted = (let l = len_after in let m = names_after in let c = k.counted in omega (arith, l, m, c, e));
    room = (let l = len_after in omega (arith, l, r));
    kinds = λ j. elim (same_or_not j i) [
      | inl q ↦ (let Q : ℕ → Type 0 = λ z. HasKind (get after z) in
          let old : length (prefix_of n) < 7 = subst HasKind stands (k.kinds i) in
          let new : length (prefix_of n') < 7 = (let p : length (prefix_of n') ≡ length (prefix_of n) = ap length prefix in omega (arith, p, old)) in
          subst Q (sym q) (subst HasKind (sym updates.changed) new))
      | inr ne ↦ subst HasKind (sym (updates.others j ne)) (k.kinds j)
    ];
  }

-- The operations on an inner node's places, as the tree sees them.
use Rattle.std.proofs.Common.{◌≡◌, ◌≢◌, ℕ, suc, ◌+◌, ◌-◌, ◌*◌, ◌<◌, ◌≤◌, false, inl, inr, List, length, take, get_or, refl, sym, ap, subst, ◌∙◌, arith}
use Rattle.std.specs.Prelude.{Option, None, Some, IsSome}
use Rattle.std.specs.Option.{option_map}
use Rattle.std.proofs.lemmas.List.{length-take-le}
use Rattle.std.specs.Ordering.{nat_cmp}
use Rattle.std.specs.FinMap as map
use Rattle.slab.specs.Slab.{Slab, get, Updates, slab_len, with_value, HasRoomFor, ContainsKey}
use Rattle.congee.specs.forms.Forms.{Becomes, children_of, form_of, is_full_of, prefix_of}
use Rattle.congee.specs.forms.Mapped.{mapped}
use Rattle.congee.specs.Keys.{key_bytes}
use Rattle.congee.specs.owned.Arena.{Nodes}
use Rattle.congee.specs.owned.Changes.{IsLeafOf}
use Rattle.congee.specs.owned.Entries.{first_byte}
use Rattle.congee.specs.owned.Kinds.{IsInner, InnerBecomes, full_in, inner_get, prefix_in}
use Rattle.congee.specs.owned.Naming.{HasOwnSlot, IsByte, offset_of}
use Rattle.congee.specs.owned.OwnedSteps.{Sets}
use Rattle.congee.specs.owned.Slots.{inner_child, lone_node, with_children, in_slot, lone_in, nodes_in}
use Rattle.congee.specs.owned.Storage.{IsStored}
use Rattle.congee.specs.owned.Stores.{CoversLeaf, HangsLeaf, LosesLeaf, HasInline, HasNode, StandsWith}
use Rattle.congee.specs.declared.forms.base_node.Node.{Node}
use Rattle.congee.specs.declared.forms.child.Child.{Child}
use Rattle.congee.specs.declared.forms.child.Child.TheVariants.{Blank, Node as Sub, Value}
use Rattle.congee.specs.declared.owned.inline_leaf.Lone.{Lone}
use Rattle.congee.specs.declared.owned.slots.Slot.{Slot}
use Rattle.congee.specs.declared.owned.slots.Slot.TheVariants.{Inner}
use Rattle.congee.proofs.lemmas.Tree.{same_or_not}
use Rattle.congee.proofs.lemmas.forms.MappedLemmas.{get_mapped, none_mapped, mapped_insert, mapped_remove, mapped_none}
use Rattle.congee.proofs.lemmas.owned.Moves.{node_at, insert_at, insert_beside, remove_at, remove_beside}
use Rattle.congee.proofs.lemmas.owned.SlotChanges.{AtInner, at_inner, inner_after, inner_slot, is_inner, inner_absent, inner_room, seen_after, lone_before, lone_after, others_after, stored_after}
use Rattle.congee.proofs.lemmas.owned.SlotLens.{count_if_some}
use Rattle.congee.proofs.lemmas.owned.Stored.{lone_counts}
use Rattle.congee.proofs.lemmas.owned.Slots.{get_inline, with_mapped, with_becomes, with_prefix}

module _ {P : Type 0} (i : ℕ) (n n' : Node ℕ (Lone P)) (y : Node ℕ P) (seen : with_children (inner_child i) n ≡ y) (b : ℕ) where
  children_seen : mapped (inner_child i) (children_of n) ≡ children_of y
  children_seen = sym (with_mapped (inner_child i) n) ∙ ap children_of seen

  insert_seen : (c : Child ℕ (Lone P)) → Becomes n n' (map.insert (children_of n) b c) → Becomes y (with_children (inner_child i) n') (map.insert (children_of y) b (inner_child i b c))
  insert_seen c k =
      let w = with_becomes (inner_child i) n n' _ k in
      let m : mapped (inner_child i) (map.insert (children_of n) b c) ≡ map.insert (children_of y) b (inner_child i b c) = mapped_insert (inner_child i) (children_of n) b c ∙ ap (λ m. map.insert m b (inner_child i b c)) children_seen in
      record { form = w.form ∙ ap form_of seen; prefix = w.prefix ∙ ap prefix_of seen; children = w.children ∙ m }

  remove_seen : Becomes n n' (map.remove (children_of n) b) → Becomes y (with_children (inner_child i) n') (map.remove (children_of y) b)
  remove_seen k =
      let w = with_becomes (inner_child i) n n' _ k in
      let m : mapped (inner_child i) (map.remove (children_of n) b) ≡ map.remove (children_of y) b = mapped_remove (inner_child i) (children_of n) b ∙ ap (λ m. map.remove m b) children_seen in
      record { form = w.form ∙ ap form_of seen; prefix = w.prefix ∙ ap prefix_of seen; children = w.children ∙ m }

  absent_in : map.get (children_of y) b ≡ None → map.get (children_of n) b ≡ None
  absent_in e = mapped_none (inner_child i) (children_of n) b (ap (λ m. map.get m b) children_seen ∙ e)

  -- what lies behind a child that the tree sees
  pub node_in : b < 256 → HasNode (map.get (children_of y) b) → lone_in (map.get (children_of n) b) ≡ None
  node_in low h = of (map.get (children_of n) b) refl
    where
      at : (o : Option (Child ℕ (Lone P))) → map.get (children_of n) b ≡ o → map.get (children_of y) b ≡ option_map (inner_child i b) o
      at o e = sym (ap (λ m. map.get m b) children_seen) ∙ (get_mapped (inner_child i) (children_of n) b ∙ ap (option_map (inner_child i b)) e)

      of : (o : Option (Child ℕ (Lone P))) → map.get (children_of n) b ≡ o → lone_in (map.get (children_of n) b) ≡ None
      of None e = ap lone_in e
      of (Some Blank) e = ap lone_in e
      of (Some (Sub c)) e = ap lone_in e
      of (Some (Value l)) e = absurd (let z : HasNode {P = P} (Some (Sub (257 * i + (b + 1)))) = subst HasNode (at (Some (Value l)) e) h in omega (arith, z, low))

  node_some : HasNode (map.get (children_of y) b) → IsSome (map.get (children_of n) b)
  node_some h = of (map.get (children_of n) b) refl
    where
      of : (o : Option (Child ℕ (Lone P))) → map.get (children_of n) b ≡ o → IsSome o
      of None e = absurd (let z : HasNode {P = P} None = subst HasNode (none_mapped (inner_child i) (children_of n) b e) (subst (λ m. HasNode (map.get m b)) (sym children_seen) h) in z)
      of (Some c) e = refl

  -- a node has a leaf with one value in its place under the byte, which the tree sees under a name
  pub record InlineIn : Type 0 where
    pub lone : Lone P
    pub here : map.get (children_of n) b ≡ Some (Value lone)
    pub child : map.get (children_of y) b ≡ Some (Sub (257 * i + (b + 1)))

  -- where the tree sees a leaf that lies in its parent's place, one lies there
  pub inline_in : HasInline (map.get (children_of y) b) → InlineIn
  inline_in h = of (map.get (children_of n) b) refl
    where
      at : (o : Option (Child ℕ (Lone P))) → map.get (children_of n) b ≡ o → map.get (children_of y) b ≡ option_map (inner_child i b) o
      at o e = sym (ap (λ m. map.get m b) children_seen) ∙ (get_mapped (inner_child i) (children_of n) b ∙ ap (option_map (inner_child i b)) e)

      of : (o : Option (Child ℕ (Lone P))) → map.get (children_of n) b ≡ o → InlineIn
      of None e = absurd (let z : HasInline {P = P} None = subst HasInline (at None e) h in z)
      of (Some Blank) e = absurd (let z : HasInline {P = P} (Some Blank) = subst HasInline (at (Some Blank) e) h in z)
      of (Some (Sub c)) e = absurd (let z : HasInline {P = P} (Some (Sub (257 * c))) = subst HasInline (at (Some (Sub c)) e) h in z (omega arith))
      of (Some (Value l)) e = record { lone = l; here = e; child = at (Some (Value l)) e }

-- a leaf for the key
pub lone_leaf : {P : Type 0} (lone : Lone P) (key : List ℕ) → lone.key ≡ key → IsLeafOf (lone_node lone) key lone.value
lone_leaf lone key e = record {
  prefix = ap (take 7) e;
  value = ap (λ k. map.get (map.insert {R = nat_cmp} map.empty (get_or lone.key 7 0) (Value lone.value)) (get_or k 7 0)) (sym e) ∙ insert_at map.empty (get_or lone.key 7 0) (Value lone.value);
  beside = λ b ne. insert_beside map.empty (get_or lone.key 7 0) (Value lone.value) b (λ q. ne (q ∙ ap (λ k. get_or k 7 0) e)) ∙ map.get-empty _ b;
}

-- a leaf that was found in its parent's place stands under its name
pub inline_stands : {P K : Type 0} (s : Slab (Slot P K)) (v : Nodes P) (is : nodes_in s ≡ v) (i b key : ℕ) (x : Slot P K) (n : Node ℕ (Lone P)) (lone : Lone P) → b < 256
    → get s i ≡ Some x → x ≡ Inner n → map.get (children_of n) b ≡ Some (Value lone) → lone.key ≡ key_bytes key → StandsWith v (257 * i + (b + 1)) key lone.value
inline_stands s v is i b key x n lone low e q h k = record {
  leaf = lone_node lone;
  is = ap (λ w. get w (257 * i + (b + 1))) (sym is) ∙ (get_inline s i b low ∙ (ap (λ z. in_slot i z (suc b)) (e ∙ ap Some q) ∙ ap lone_in h));
  has = lone_leaf lone (key_bytes key) k;
}

module _ {P K : Type 0} (s : Slab (Slot P K)) (v : Nodes P) (is : nodes_in s ≡ v) (at i b : ℕ) (y : Node ℕ P) (k : AtInner s v at i y) (low : b < 256) (n' : Node ℕ (Lone P)) where
  abbrev new : Nodes P
  new = nodes_in (with_value s i (Inner n'))

  module _ (prefix : prefix_of n' ≡ prefix_of k.node) (same : (r : ℕ) → r ≢ b → map.get (children_of n') r ≡ map.get (children_of k.node) r) where
    now_at : get new at ≡ Some (with_children (inner_child i) n')
    now_at = ap (get new) k.name ∙ seen_after s i k.node n' b k.stands low prefix same

    was_lone : get v (257 * i + (b + 1)) ≡ lone_in (map.get (children_of k.node) b)
    was_lone = ap (λ w. get w (257 * i + (b + 1))) (sym is) ∙ lone_before s i k.node n' b k.stands low prefix same

    now_lone : get new (257 * i + (b + 1)) ≡ lone_in (map.get (children_of n') b)
    now_lone = lone_after s i k.node n' b k.stands low prefix same

    others : (m : ℕ) → m ≢ at → m ≢ 257 * i + (b + 1) → get new m ≡ get v m
    others m na nl = others_after s i k.node n' b k.stands low prefix same m (λ e. na (e ∙ sym k.name)) nl ∙ ap (λ w. get w m) is

    -- no leaf lies there before or after
    plain : lone_in (map.get (children_of k.node) b) ≡ None → lone_in (map.get (children_of n') b) ≡ None → Updates v new at (Some (with_children (inner_child i) n'))
    plain o p = record {
      changed = now_at;
      others = λ m na. elim (same_or_not m (257 * i + (b + 1))) [
        | inl e ↦ (let Q : ℕ → Type 0 = λ z. get new z ≡ get v z in subst Q (sym e) (now_lone ∙ (p ∙ sym (was_lone ∙ o))))
        | inr ne ↦ others m na ne
      ];
    }

  module _ (c : Child ℕ (Lone P)) (bec : Becomes k.node n' (map.insert (children_of k.node) b c)) where
    same_insert : (r : ℕ) → r ≢ b → map.get (children_of n') r ≡ map.get (children_of k.node) r
    same_insert r ne = ap (λ m. map.get m r) bec.children ∙ insert_beside (children_of k.node) b c r ne

    here_insert : map.get (children_of n') b ≡ Some c
    here_insert = ap (λ m. map.get m b) bec.children ∙ insert_at (children_of k.node) b c

    -- a node comes there
    sets_insert : lone_in (map.get (children_of k.node) b) ≡ None → lone_in (Some c) ≡ None → Sets v new at y (map.insert (children_of y) b (inner_child i b c))
    sets_insert o p = record {
      node = with_children (inner_child i) n';
      becomes = insert_seen i k.node n' y k.seen b c bec;
      updates = plain bec.prefix same_insert o (ap lone_in here_insert ∙ p);
    }

    stored_insert : (inline inline' : ℕ) → IsStored s inline → inline' + count_if_some (lone_in (map.get (children_of k.node) b)) ≡ inline + count_if_some (lone_in (Some c)) → slab_len s + inline' ≤ s.capacity
        → IsStored (with_value s i (Inner n')) inline'
    stored_insert inline inline' st e r =
        stored_after s i k.node n' b k.stands low bec.prefix same_insert inline inline' st (let h : count_if_some (lone_in (map.get (children_of n') b)) ≡ count_if_some (lone_in (Some c)) = ap (λ o. count_if_some (lone_in o)) here_insert in omega (arith, e, h)) r

  -- a leaf for the key comes there
  hangs_leaf : (lone : Lone P) (key : List ℕ) (value : P) → lone.key ≡ key → lone.value ≡ value → lone_in (map.get (children_of k.node) b) ≡ None → Becomes k.node n' (map.insert (children_of k.node) b (Value lone)) → HangsLeaf v new at y b key value
  hangs_leaf lone key value ek ev free bec =
      record {
        inline = λ o. absurd (omega (arith, o, low));
        leaf = 257 * i + (b + 1);
        named = (let a = k.name in omega (arith, a));
        made = lone_node lone;
        form = refl;
        has = subst (λ w. IsLeafOf (lone_node lone) key w) ev (lone_leaf lone key ek);
        vacant = was_lone bec.prefix (same_insert (Value lone) bec) ∙ free;
        taken = now_lone bec.prefix (same_insert (Value lone) bec) ∙ ap lone_in (here_insert (Value lone) bec);
        node = with_children (inner_child i) n';
        becomes = insert_seen i k.node n' y k.seen b (Value lone) bec;
        now = now_at bec.prefix (same_insert (Value lone) bec);
        others = others bec.prefix (same_insert (Value lone) bec);
      }

  -- a node comes where a leaf lies, and the leaf goes
  covers_leaf : (below target : ℕ) → target ≡ 257 * below → (lone : Lone P) → Becomes k.node n' (map.insert (children_of k.node) b (Sub below)) → map.get (children_of k.node) b ≡ Some (Value lone) → HasInline (map.get (children_of y) b)
      → CoversLeaf v new at y b target lone.key lone.value
  covers_leaf below target et lone bec here h =
      record {
        own = (let a = k.name in omega (arith, a));
        leaf = 257 * i + (b + 1);
        named = (let a = k.name in omega (arith, a));
        child = (inline_in i k.node k.node y k.seen b h).child;
        was = lone_node lone;
        form = refl;
        has = lone_leaf lone lone.key refl;
        stood = was_lone bec.prefix (same_insert (Sub below) bec) ∙ ap lone_in here;
        node = with_children (inner_child i) n';
        becomes = subst (λ t. Becomes y (with_children (inner_child i) n') (map.insert (children_of y) b (Sub t))) (sym et) (insert_seen i k.node n' y k.seen b (Sub below) bec);
        now = now_at bec.prefix (same_insert (Sub below) bec);
        left = now_lone bec.prefix (same_insert (Sub below) bec) ∙ ap lone_in (here_insert (Sub below) bec);
        others = others bec.prefix (same_insert (Sub below) bec);
      }

  module _ (bec : Becomes k.node n' (map.remove (children_of k.node) b)) where
    same_remove : (r : ℕ) → r ≢ b → map.get (children_of n') r ≡ map.get (children_of k.node) r
    same_remove r ne = ap (λ m. map.get m r) bec.children ∙ remove_beside (children_of k.node) b r ne

    here_remove : map.get (children_of n') b ≡ None
    here_remove = ap (λ m. map.get m b) bec.children ∙ remove_at (children_of k.node) b

    -- a node goes
    sets_remove : lone_in (map.get (children_of k.node) b) ≡ None → Sets v new at y (map.remove (children_of y) b)
    sets_remove o = record {
      node = with_children (inner_child i) n';
      becomes = remove_seen i k.node n' y k.seen b bec;
      updates = plain bec.prefix same_remove o (ap lone_in here_remove);
    }

    stored_remove : (inline inline' : ℕ) → IsStored s inline → inline' + count_if_some (lone_in (map.get (children_of k.node) b)) ≡ inline → slab_len s + inline' ≤ s.capacity
        → IsStored (with_value s i (Inner n')) inline'
    stored_remove inline inline' st e r =
        stored_after s i k.node n' b k.stands low bec.prefix same_remove inline inline' st (let h : count_if_some (lone_in (map.get (children_of n') b)) ≡ 0 = ap (λ o. count_if_some (lone_in o)) here_remove in omega (arith, e, h)) r

    -- a leaf that lies there goes
    loses_leaf : (lone : Lone P) (value : P) → lone.value ≡ value → map.get (children_of k.node) b ≡ Some (Value lone) → HasInline (map.get (children_of y) b) → LosesLeaf v new at y b value
    loses_leaf lone value ev here h = record {
      leaf = 257 * i + (b + 1);
      child = (inline_in i k.node n' y k.seen b h).child;
      last = get_or lone.key 7 0;
      was = lone_node lone;
      stood = was_lone bec.prefix same_remove ∙ ap lone_in here;
      lone = record {
        form = refl;
        prefix = length-take-le 7 lone.key (let w = lone.whole in omega (arith, w));
        children = ap (λ w. map.insert map.empty (get_or lone.key 7 0) (Value w)) ev;
      };
      node = with_children (inner_child i) n';
      becomes = remove_seen i k.node n' y k.seen b bec;
      now = now_at bec.prefix same_remove;
      left = now_lone bec.prefix same_remove ∙ ap lone_in here_remove;
      others = others bec.prefix same_remove;
    }

-- so many more leaves may come into their parents' places
pub spare_room : {P K : Type 0} (s : Slab (Slot P K)) (v : Nodes P) → nodes_in s ≡ v → (inline : ℕ) → IsStored s inline → (n : ℕ) → HasRoomFor v n → slab_len s + inline + n ≤ s.capacity
unfolding nodes_in
spare_room s v is inline st n r =
    let a : slab_len (nodes_in s) ≡ slab_len v = ap slab_len is in
    let c : s.capacity ≡ v.capacity = ap (λ w. w.capacity) is in
    let k = st.counted in omega (arith, a, c, k, r)

-- a change of one slot leaves the room
pub same_room : {P K : Type 0} (s : Slab (Slot P K)) (v : Nodes P) → nodes_in s ≡ v → (i : ℕ) (x' : Slot P K) → (nodes_in (with_value s i x')).capacity ≡ v.capacity
unfolding nodes_in
same_room s v is i x' = ap (λ w. w.capacity) is

-- slots with the same room give the nodes the same
pub same_view_room : {P K : Type 0} (s s' : Slab (Slot P K)) (v : Nodes P) → nodes_in s ≡ v → s'.capacity ≡ s.capacity → (nodes_in s').capacity ≡ v.capacity
unfolding nodes_in
same_view_room s s' v is e = e ∙ ap (λ w. w.capacity) is

-- the name of a node with a slot
pub own_slot : (at i : ℕ) (byte : Option ℕ) → 257 * i + offset_of byte ≡ at → IsByte byte → HasOwnSlot at → at ≡ 257 * i
own_slot at i None e l o = omega (arith, e)
own_slot at i (Some b) e l o = absurd (omega (arith, e, l, o))

-- what an operation on an inner node needs, and what it leaves
module _ {P K : Type 0} (s : Slab (Slot P K)) (v : Nodes P) (is : nodes_in s ≡ v) (inline : ℕ) (st : IsStored s inline) (at i : ℕ) (byte : Option ℕ) (name : 257 * i + offset_of byte ≡ at) (fits : IsByte byte)
    (stands : ContainsKey v at) (inner : (y : Node ℕ P) → get v at ≡ Some y → length (prefix_of y) < 7) where
  at_node : (y : Node ℕ P) → get v at ≡ Some y → AtInner s v at i y
  at_node y h = at_inner s v is at i byte name fits st.kinds y h (inner y h)

  there : (y : Node ℕ P) × (get v at ≡ Some y)
  there = node_at v at stands

  -- the slot to which the name of a node with a slot belongs isn't vacant
  pub has_slot : ContainsKey s i
  has_slot = rw (at_node there.0 there.1).stands refl

  -- the slot has an inner node
  pub slot_inner : (x : Slot P K) → get s i ≡ Some x → IsInner x
  slot_inner x e = is_inner s v at i there.0 (at_node there.0 there.1) x e

  -- a byte at which the tree sees nothing has nothing in the slot
  pub slot_absent : (x : Slot P K) → get s i ≡ Some x → (b : ℕ) → ((y : Node ℕ P) → get v at ≡ Some y → map.get (children_of y) b ≡ None) → inner_get x b ≡ None
  slot_absent x e b h = inner_absent s v at i there.0 (at_node there.0 there.1) x e b (h there.0 there.1)

  -- a node that isn't full for the tree isn't full in its slot
  pub slot_room : (x : Slot P K) → get s i ≡ Some x → ((y : Node ℕ P) → get v at ≡ Some y → is_full_of y ≡ false) → full_in x ≡ false
  slot_room x e h = inner_room s v at i there.0 (at_node there.0 there.1) x e (h there.0 there.1)

  -- the first byte of the keys under a byte
  pub slot_first : (x : Slot P K) → get s i ≡ Some x → (b first : ℕ) → ((y : Node ℕ P) → get v at ≡ Some y → first ≡ first_byte (prefix_of y) b) → first ≡ first_byte (prefix_in x) b
  slot_first x e b first h =
      let k = at_node there.0 there.1 in
      let p : prefix_of there.0 ≡ prefix_in x = ap prefix_of (sym k.seen) ∙ (with_prefix (inner_child i) k.node ∙ ap prefix_in (sym (inner_slot s v at i there.0 k x e))) in
      h there.0 there.1 ∙ ap (λ p. first_byte p b) p

  -- the nodes with another one in this slot have the room that they had
  pub same_capacity : (x x' : Slot P K) → (nodes_in (with_value s i x')).capacity ≡ v.capacity
  unfolding nodes_in
  same_capacity x x' = ap (λ w. w.capacity) is

  -- a leaf that lies there has a name
  pub inline_seen_there : (b : ℕ) → b < 256 → ((y : Node ℕ P) → get v at ≡ Some y → HasInline (map.get (children_of y) b)) → ContainsKey v (257 * i + (b + 1))
  inline_seen_there b low has =
      let k = at_node there.0 there.1 in
      let l = inline_in i k.node k.node there.0 k.seen b (has there.0 there.1) in
      let seen = ap (λ w. get w (257 * i + (b + 1))) (sym is) ∙ (lone_before s i k.node k.node b k.stands low refl (λ r ne. refl) ∙ ap lone_in l.here) in
      rw seen refl

  module _ (x x' : Slot P K) (e : get s i ≡ Some x) (b : ℕ) (low : b < 256) where
    kept : (y : Node ℕ P) → (k : AtInner s v at i y) → x ≡ Inner k.node
    kept y k = inner_slot s v at i y k x e

    -- the slots are sound after a leaf was put in a place that had none: one more leaf lies so
    pub hang_leaf_stored : (lone : Lone P) → HasRoomFor v 1 → ((y : Node ℕ P) → (k : AtInner s v at i y) → get v at ≡ Some y → lone_in (map.get (children_of k.node) b) ≡ None) → InnerBecomes x x' (λ m. map.insert m b (Value lone)) → IsStored (with_value s i x') (inline + 1)
    hang_leaf_stored lone room free ib =
        let k = at_node there.0 there.1 in
        let a = inner_after x x' k.node (λ m. map.insert m b (Value lone)) (kept there.0 k) ib in
        let r = spare_room s v is inline st 1 room in
        let c : count_if_some (lone_in (map.get (children_of k.node) b)) ≡ 0 = ap count_if_some (free there.0 k there.1) in
        subst (λ z. IsStored (with_value s i z) (inline + 1)) (sym a.is)
        (stored_insert s v is at i b there.0 k low a.node (Value lone) a.becomes inline (inline + 1) st (omega (arith, c)) (omega (arith, r)))

    -- and the tree sees a leaf for the key that comes in under a free name below the node
    pub hang_leaf_done : (lone : Lone P) (key : List ℕ) (value : P) → lone.key ≡ key → lone.value ≡ value → ((y : Node ℕ P) → (k : AtInner s v at i y) → get v at ≡ Some y → lone_in (map.get (children_of k.node) b) ≡ None) → InnerBecomes x x' (λ m. map.insert m b (Value lone))
        → (y : Node ℕ P) → get v at ≡ Some y → HangsLeaf v (nodes_in (with_value s i x')) at y b key value
    hang_leaf_done lone key value ek ev free ib y h =
        let k = at_node y h in
        let a = inner_after x x' k.node (λ m. map.insert m b (Value lone)) (kept y k) ib in
        subst (λ z. HangsLeaf v (nodes_in (with_value s i z)) at y b key value) (sym a.is) (hangs_leaf s v is at i b y k low a.node lone key value ek ev (free y k h) a.becomes)

    -- a node with a slot comes where nothing or such a node was
    pub put_node_stored : (below : ℕ) → ((y : Node ℕ P) → (k : AtInner s v at i y) → get v at ≡ Some y → lone_in (map.get (children_of k.node) b) ≡ None) → InnerBecomes x x' (λ m. map.insert m b (Sub below)) → IsStored (with_value s i x') inline
    put_node_stored below free ib =
        let k = at_node there.0 there.1 in
        let a = inner_after x x' k.node (λ m. map.insert m b (Sub below)) (kept there.0 k) ib in
        let c : count_if_some (lone_in (map.get (children_of k.node) b)) ≡ 0 = ap count_if_some (free there.0 k there.1) in
        let r = st.room in
        subst (λ z. IsStored (with_value s i z) inline) (sym a.is)
        (stored_insert s v is at i b there.0 k low a.node (Sub below) a.becomes inline inline st (omega (arith, c)) r)

    -- and the tree sees the node get that child
    pub put_node_done : (below target : ℕ) → target ≡ 257 * below → ((y : Node ℕ P) → (k : AtInner s v at i y) → get v at ≡ Some y → lone_in (map.get (children_of k.node) b) ≡ None) → InnerBecomes x x' (λ m. map.insert m b (Sub below))
        → (y : Node ℕ P) → get v at ≡ Some y → Sets v (nodes_in (with_value s i x')) at y (map.insert (children_of y) b (Sub target))
    put_node_done below target et free ib y h =
        let k = at_node y h in
        let a = inner_after x x' k.node (λ m. map.insert m b (Sub below)) (kept y k) ib in
        subst (λ z. Sets v (nodes_in (with_value s i z)) at y (map.insert (children_of y) b (Sub target))) (sym a.is)
        (subst (λ t. Sets v (nodes_in (with_value s i (Inner a.node))) at y (map.insert (children_of y) b (Sub t))) (sym et) (sets_insert s v is at i b y k low a.node (Sub below) a.becomes (free y k h) refl))

    -- nothing is there
    pub none_free : ((y : Node ℕ P) → get v at ≡ Some y → map.get (children_of y) b ≡ None) → (y : Node ℕ P) → (k : AtInner s v at i y) → get v at ≡ Some y → lone_in (map.get (children_of k.node) b) ≡ None
    none_free free y k h = ap lone_in (absent_in i k.node k.node y k.seen b (free y h))

    -- a node with a slot is there
    pub node_free : ((y : Node ℕ P) → get v at ≡ Some y → HasNode (map.get (children_of y) b)) → (y : Node ℕ P) → (k : AtInner s v at i y) → get v at ≡ Some y → lone_in (map.get (children_of k.node) b) ≡ None
    node_free has y k h = node_in i k.node k.node y k.seen b low (has y h)

    -- a byte under which the tree sees a node with a slot has something in the slot
    pub slot_present : ((y : Node ℕ P) → get v at ≡ Some y → HasNode (map.get (children_of y) b)) → IsSome (inner_get x b)
    slot_present has =
        let k = at_node there.0 there.1 in
        subst IsSome (sym (ap (λ w. inner_get w b) (kept there.0 k))) (node_some i k.node k.node there.0 k.seen b (has there.0 there.1))

    -- the slots are sound after a node with a slot was taken out from under a byte
    pub take_node_stored : ((y : Node ℕ P) → get v at ≡ Some y → HasNode (map.get (children_of y) b)) → InnerBecomes x x' (λ m. map.remove m b) → IsStored (with_value s i x') inline
    take_node_stored has ib =
        let k = at_node there.0 there.1 in
        let a = inner_after x x' k.node (λ m. map.remove m b) (kept there.0 k) ib in
        let c : count_if_some (lone_in (map.get (children_of k.node) b)) ≡ 0 = ap count_if_some (node_free has there.0 k there.1) in
        let r = st.room in
        subst (λ z. IsStored (with_value s i z) inline) (sym a.is) (stored_remove s v is at i b there.0 k low a.node a.becomes inline inline st (omega (arith, c)) r)

    -- and the tree sees the node lose that child
    pub take_node_done : ((y : Node ℕ P) → get v at ≡ Some y → HasNode (map.get (children_of y) b)) → InnerBecomes x x' (λ m. map.remove m b)
        → (y : Node ℕ P) → get v at ≡ Some y → Sets v (nodes_in (with_value s i x')) at y (map.remove (children_of y) b)
    take_node_done has ib y h =
        let k = at_node y h in
        let a = inner_after x x' k.node (λ m. map.remove m b) (kept y k) ib in
        subst (λ z. Sets v (nodes_in (with_value s i z)) at y (map.remove (children_of y) b)) (sym a.is) (sets_remove s v is at i b y k low a.node a.becomes (node_free has y k h))

    -- a leaf that lies there
    pub record InlineThere : Type 0 where
      pub lone : Lone P
      pub here : inner_get x b ≡ Some (Value lone)
      pub some : 0 < inline

    -- where the tree sees a leaf that lies in its parent's place, the slot has one
    pub inline_there : ((y : Node ℕ P) → get v at ≡ Some y → HasInline (map.get (children_of y) b)) → InlineThere
    inline_there has =
        let k = at_node there.0 there.1 in
        let l = inline_in i k.node k.node there.0 k.seen b (has there.0 there.1) in
        record {
          lone = l.lone;
          here = ap (λ w. inner_get w b) (kept there.0 k) ∙ l.here;
          some =
              let seen = lone_before s i k.node k.node b k.stands low refl (λ r ne. refl) ∙ ap lone_in l.here in
              let more = lone_counts s i b low (rw seen refl) in
              let c = st.counted in omega (arith, more, c);
        }

    -- what is read at that byte is that leaf
    pub inline_read : (t : InlineThere) (r : Child ℕ (Lone P)) → inner_get x b ≡ Some r → r ≡ Value t.lone
    inline_read t r e = let z : Some r ≡ Some (Value t.lone) = sym e ∙ t.here in cc

    -- a leaf that is read at that byte is that one
    pub inline_same : (t : InlineThere) (r : Child ℕ (Lone P)) → inner_get x b ≡ Some r → (lone : Lone P) → r ≡ Value lone → t.lone ≡ lone
    inline_same t r e lone q = let a : Child ℕ (Lone P) = Value t.lone in let c : Child ℕ (Lone P) = Value lone in let z : a ≡ c = sym (inline_read t r e) ∙ q in cc

    -- a node with a slot comes in its place
    pub cover_leaf_stored : (t : InlineThere) (below : ℕ) → InnerBecomes x x' (λ m. map.insert m b (Sub below)) → IsStored (with_value s i x') (inline - 1)
    cover_leaf_stored t below ib =
        let k = at_node there.0 there.1 in
        let a = inner_after x x' k.node (λ m. map.insert m b (Sub below)) (kept there.0 k) ib in
        let here : map.get (children_of k.node) b ≡ Some (Value t.lone) = sym (ap (λ w. inner_get w b) (kept there.0 k)) ∙ t.here in
        let c : count_if_some (lone_in (map.get (children_of k.node) b)) ≡ 1 = ap (λ o. count_if_some (lone_in o)) here in
        let r = st.room in let z = t.some in
        subst (λ z. IsStored (with_value s i z) (inline - 1)) (sym a.is)
        (stored_insert s v is at i b there.0 k low a.node (Sub below) a.becomes inline (inline - 1) st (omega (arith, c, z)) (omega (arith, r)))

    -- and the tree sees the leaf go, and the node come in its place
    pub cover_leaf_done : (t : InlineThere) (below target : ℕ) → target ≡ 257 * below → (lone : Lone P) → t.lone ≡ lone → ((y : Node ℕ P) → get v at ≡ Some y → HasInline (map.get (children_of y) b)) → InnerBecomes x x' (λ m. map.insert m b (Sub below))
        → (y : Node ℕ P) → get v at ≡ Some y → CoversLeaf v (nodes_in (with_value s i x')) at y b target lone.key lone.value
    cover_leaf_done t below target et lone el has ib y h =
        let k = at_node y h in
        let a = inner_after x x' k.node (λ m. map.insert m b (Sub below)) (kept y k) ib in
        let here : map.get (children_of k.node) b ≡ Some (Value t.lone) = sym (ap (λ w. inner_get w b) (kept y k)) ∙ t.here in
        subst (λ z. CoversLeaf v (nodes_in (with_value s i z)) at y b target lone.key lone.value) (sym a.is)
        (covers_leaf s v is at i b y k low a.node below target et lone a.becomes (here ∙ ap (λ l. Some (Value l)) el) (has y h))

    -- the slots are sound after the leaf was taken out of its place: one leaf less lies so
    pub take_leaf_stored : (t : InlineThere) → InnerBecomes x x' (λ m. map.remove m b) → IsStored (with_value s i x') (inline - 1)
    take_leaf_stored t ib =
        let k = at_node there.0 there.1 in
        let a = inner_after x x' k.node (λ m. map.remove m b) (kept there.0 k) ib in
        let here : map.get (children_of k.node) b ≡ Some (Value t.lone) = sym (ap (λ w. inner_get w b) (kept there.0 k)) ∙ t.here in
        let c : count_if_some (lone_in (map.get (children_of k.node) b)) ≡ 1 = ap (λ o. count_if_some (lone_in o)) here in
        let r = st.room in let z = t.some in
        subst (λ z. IsStored (with_value s i z) (inline - 1)) (sym a.is) (stored_remove s v is at i b there.0 k low a.node a.becomes inline (inline - 1) st (omega (arith, c, z)) (omega (arith, r)))

    -- and the tree sees the leaf with its value go from below the node
    pub take_leaf_done : (t : InlineThere) (value : P) → t.lone.value ≡ value → ((y : Node ℕ P) → get v at ≡ Some y → HasInline (map.get (children_of y) b)) → InnerBecomes x x' (λ m. map.remove m b)
        → (y : Node ℕ P) → get v at ≡ Some y → LosesLeaf v (nodes_in (with_value s i x')) at y b value
    take_leaf_done t value ev has ib y h =
        let k = at_node y h in
        let a = inner_after x x' k.node (λ m. map.remove m b) (kept y k) ib in
        let here : map.get (children_of k.node) b ≡ Some (Value t.lone) = sym (ap (λ w. inner_get w b) (kept y k)) ∙ t.here in
        subst (λ z. LosesLeaf v (nodes_in (with_value s i z)) at y b value) (sym a.is) (loses_leaf s v is at i b y k low a.node a.becomes t.lone value ev here (has y h))

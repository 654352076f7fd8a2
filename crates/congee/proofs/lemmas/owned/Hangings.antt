-- What becomes of the tree where a leaf with one value comes into the place of its parent, or goes from there.
use Rattle.std.proofs.Common.{rules, ◌≡◌, ◌≢◌, ℕ, zero, suc, ◌+◌, ◌<◌, ◌≤◌, ◌==◌, false, true, cond, inl, inr, List, [], ◌∷◌, length, take, get_or, refl, sym, ◌∙◌, ap, subst, arith}
use Rattle.std.specs.Prelude.{Option, Some, None, IsSome, IsTrue, Bool, ◌↔◌, ◌%◌, Result, Ok, Err, OnOk, IfErr}
use Rattle.std.specs.Ordering.{nat_cmp}
use Rattle.std.specs.FinMap as map
use Rattle.std.specs.Cmp.{nat_cmp_total}
use Rattle.slab.specs.Slab.{get, ContainsKey, Updates, HasRoomFor}
use Rattle.congee.specs.Heap.{Below, Nothing, fits, child_for, value_at}
use Rattle.congee.specs.forms.Forms.{prefix_of, children_of, form_of, size_of, is_full_of}
use Rattle.congee.specs.owned.Arena.{Nodes, hung_in, node_of, heap_of, IsTree, OnWay, Hangs, Reached}
use Rattle.congee.specs.owned.Sizes.{bytes_of, bytes_at}
use Rattle.congee.specs.owned.Changes.{Differs, MapChange, AddsLeaf, AddsFork, DropsLeaf, DiffersAt}
use Rattle.congee.specs.owned.Naming.{HasOwnSlot}
use Rattle.congee.specs.owned.OwnedSteps.{Sets, Makes, MakesRoom, SameNodes, IsHeld}
use Rattle.congee.specs.owned.Kinds.{IsValue}
use Rattle.congee.specs.owned.Renames.{Renames, Renamed}
use Rattle.congee.specs.owned.Stores.{HangsLeaf, LosesLeaf, HasOne, HasNode, HasInline}
use Rattle.congee.specs.owned.Wanted.{IsRefused, size_by, room_for}
use Rattle.congee.specs.owned.Edits.{Denies}
use Rattle.congee.specs.declared.allocator.OOMError.{OOMError}
use Rattle.congee.specs.declared.owned.arena.Arena.{Arena}
use Rattle.congee.specs.declared.forms.base_node.Node.{Node as Form}
use Rattle.congee.specs.declared.forms.base_node.NodeType.TheVariants.{N4}
use Rattle.congee.specs.declared.forms.child.Child.{Child}
use Rattle.congee.specs.declared.forms.child.Child.TheVariants.{Blank, Node as Sub, Value}
use Rattle.congee.proofs.lemmas.Fits.{same_test, other_test}
use Rattle.congee.proofs.lemmas.Tree.{same_or_not}
use Rattle.congee.proofs.lemmas.forms.Full.{full_at, full_is}
use Rattle.congee.proofs.lemmas.owned.Fulls.{same_filled}
use Rattle.congee.proofs.lemmas.owned.Joins.{add_leaf_done, drop_leaf_done, add_fork_done}
use Rattle.congee.proofs.lemmas.owned.Moves.{node_at, one_node, apart_of, prefix_at, stands_at, differs_insert, differs_remove, insert_at, insert_beside, len_one, single, held_is, held_seven, Roomy, roomy_byte}
use Rattle.congee.proofs.lemmas.owned.Renaming.{renamed}
use Rattle.congee.proofs.lemmas.owned.Sizes.{bytes_named, bytes_same, sets_bytes, makes_bytes}
use Rattle.congee.proofs.lemmas.owned.SlotLens.{count_if_some, len_update}
use Rattle.congee.proofs.lemmas.owned.Totals.{total_update}
use Rattle.congee.proofs.lemmas.owned.Wanting.{sized, roomy_none}
use Rattle.congee.proofs.lemmas.owned.Ways.{linked_of, is_child, short_prefix, below_stands, no_blank, above_apart, same_tree}

module _ {P : Type 0} where
  -- the room after two names changed
  pub bytes_two : (s s' : Nodes P) (at other : ℕ) → at ≢ other → ((m : ℕ) → m ≢ at → m ≢ other → get s' m ≡ get s m)
      → bytes_of s' + (bytes_at (get s at) + bytes_at (get s other)) ≡ bytes_of s + (bytes_at (get s' at) + bytes_at (get s' other))
  bytes_two s s' at other apart same =
      let b = length s.slots + length s'.slots + at + other + 1 in
      let x = bytes_named s b (omega arith) in
      let y = bytes_named s' b (omega arith) in
      let f : ℕ → ℕ = λ n. bytes_at (get s n) in
      let h : ℕ → ℕ = λ n. cond (n == at) (bytes_at (get s' at)) (f n) in
      let g : ℕ → ℕ = λ n. bytes_at (get s' n) in
      let first = total_update f h b at (omega arith) (λ i ne. ap (λ t. cond t (bytes_at (get s' at)) (f i)) (other_test i at ne)) in
      let second = total_update h g b other (omega arith) (λ i ne. elim (same_or_not i at) [
        | inl e ↦ (let Q : ℕ → Type 0 = λ k. g k ≡ h k in subst Q (sym e) (sym (ap (λ t. cond t (bytes_at (get s' at)) (f at)) (same_test at at refl))))
        | inr na ↦ ap bytes_at (same i na ne) ∙ sym (ap (λ t. cond t (bytes_at (get s' at)) (f i)) (other_test i at na))
      ]) in
      let ha : h at ≡ bytes_at (get s' at) = ap (λ t. cond t (bytes_at (get s' at)) (f at)) (same_test at at refl) in
      let ho : h other ≡ f other = ap (λ t. cond t (bytes_at (get s' at)) (f other)) (other_test other at (λ e. apart (sym e))) in
      omega (arith, x, y, first, second, ha, ho)

  -- room for further nodes
  pub room_made : (s s' : Nodes P) (name n : ℕ) (p : List ℕ) → Makes s s' name p → s'.capacity ≡ s.capacity → HasRoomFor s (n + 1) → HasRoomFor s' n
  room_made s s' name n p m c r =
      let u = len_update s s' name (Some m.node) m.updates in
      let z : count_if_some (get s name) ≡ 0 = ap count_if_some m.vacant in
      omega (arith, u, z, c, r)

  -- another node in the place of one leaves as much room for further nodes
  pub room_set : (s s' : Nodes P) (at n : ℕ) (x y : Form ℕ P) → get s at ≡ Some x → Updates s s' at (Some y) → s'.capacity ≡ s.capacity → HasRoomFor s n → HasRoomFor s' n
  room_set s s' at n x y e u c r =
      let k = len_update s s' at (Some y) u in
      let z : count_if_some (get s at) ≡ 1 = ap count_if_some e in
      omega (arith, k, z, c, r)

  hangs_bytes : (s s' : Nodes P) (at : ℕ) (x : Form ℕ P) (byte : ℕ) (key : List ℕ) (v : P) → get s at ≡ Some x → HangsLeaf s s' at x byte key v → bytes_of s' ≡ bytes_of s + 64
  hangs_bytes s s' at x byte key v e h =
      let two = bytes_two s s' at h.leaf (apart_of s at h.leaf x e h.vacant) h.others in
      let a : bytes_at (get s at) ≡ size_of (form_of x) = ap bytes_at e in
      let b : bytes_at (get s h.leaf) ≡ 0 = ap bytes_at h.vacant in
      let c : bytes_at (get s' at) ≡ size_of (form_of x) = ap bytes_at h.now ∙ ap size_of h.becomes.form in
      let d : bytes_at (get s' h.leaf) ≡ 64 = ap bytes_at h.taken ∙ ap size_of h.form in
      omega (arith, two, a, b, c, d)

  -- a node that hangs below one on the key's way
  pub child_there : (s : Nodes P) → IsTree s → (key : List ℕ) (n c : ℕ) → ContainsKey s n → child_for (heap_of s n) key ≡ Below c
      → (x : Form ℕ P) → get s n ≡ Some x → (b : ℕ) → b ≡ get_or key (length (heap_of s n).prefix) 0 → map.get (children_of x) b ≡ Some (Sub c)
  child_there s t key n c st h x e b is =
      let hx : heap_of s n ≡ node_of (Some x) = ap node_of e in
      let k : b ≡ get_or key (length (prefix_of x)) 0 = is ∙ ap (λ p. get_or key (length p) 0) (prefix_at s n x e) in
      let g : hung_in (map.get (children_of x) (get_or key (length (prefix_of x)) 0)) ≡ Below c = rw hx at h in
      ap (map.get (children_of x)) k ∙ of (map.get (children_of x) (get_or key (length (prefix_of x)) 0)) g
    where
      of : (o : Option (Child ℕ P)) → hung_in o ≡ Below c → o ≡ Some (Sub c)
      of None g = absurd (cc)
      of (Some Blank) g = absurd (no_blank s t key n st (h ∙ sym g))
      of (Some (Sub d)) g = ap (λ z. Some (Sub z)) (let f : Below d ≡ Below c = g in cc)
      of (Some (Value w)) g = absurd (cc)

  -- the key's value stands under its byte
  pub held_value : (s : Nodes P) (key : List ℕ) (at byte : ℕ) → IsHeld s key at → byte ≡ get_or key (length (heap_of s at).prefix) 0
      → (x : Form ℕ P) → get s at ≡ Some x → IsValue (map.get (children_of x) byte)
  held_value s key at byte h b x e =
      let k : map.get (children_of x) byte ≡ Some (Value h.value) = ap (map.get (children_of x)) b ∙ held_is s key at x e h in
      rw k tt

  -- a node with nodes below it is no leaf
  pub above_inner : (s : Nodes P) → IsTree s → (key : List ℕ) (n c : ℕ) → ContainsKey s n → child_for (heap_of s n) key ≡ Below c
      → (x : Form ℕ P) → get s n ≡ Some x → length (prefix_of x) < 7
  above_inner s t key n c st h x e =
      let i = is_child s t n c key st h in
      let l = short_prefix s t c (below_stands s t n c key st h) in
      let p : length (heap_of s n).prefix ≡ length (prefix_of x) = ap length (prefix_at s n x e) in
      omega (arith, i.longer, l, p)

  -- such a node has a slot of its own, or lies in its parent's place
  child_node : (s : Nodes P) → IsTree s → (key : List ℕ) (n c b : ℕ) → ContainsKey s n → child_for (heap_of s n) key ≡ Below c → HasOwnSlot c
      → b ≡ get_or key (length (heap_of s n).prefix) 0 → (x : Form ℕ P) → get s n ≡ Some x → HasNode (map.get (children_of x) b)
  child_node s t key n c b st h own is x e = subst HasNode (sym (child_there s t key n c st h x e b is)) own

  -- a node without a slot of its own, below a node on the key's way, lies in its parent's place
  pub child_inline : (s : Nodes P) → IsTree s → (key : List ℕ) (n c b : ℕ) → ContainsKey s n → child_for (heap_of s n) key ≡ Below c → (HasOwnSlot c → ⊥)
      → b ≡ get_or key (length (heap_of s n).prefix) 0 → (x : Form ℕ P) → get s n ≡ Some x → HasInline (map.get (children_of x) b)
  child_inline s t key n c b st h inline is x e = subst HasInline (sym (child_there s t key n c st h x e b is)) inline

  -- the same where the node above is as it was
  pub up_inner : (s s' : Nodes P) → IsTree s → (key : List ℕ) (above at : ℕ) → get s' above ≡ get s above → Hangs s key above at
      → (x : Form ℕ P) → get s' above ≡ Some x → length (prefix_of x) < 7
  up_inner s s' t key above at same h x e = above_inner s t key above at h.way.stands h.child x (sym same ∙ e)

  -- a node with a slot hangs under the key's byte in a node above it that is as it was
  pub up_node : (s s' : Nodes P) → IsTree s → (key : List ℕ) (above at : ℕ) → get s' above ≡ get s above → Hangs s key above at
      → (b : ℕ) → HasOwnSlot at → b ≡ get_or key (length (heap_of s' above).prefix) 0 → (x : Form ℕ P) → get s' above ≡ Some x → HasNode (map.get (children_of x) b)
  up_node s s' t key above at same h b own is x e =
      child_node s t key above at b h.way.stands h.child own (is ∙ ap (λ o. get_or key (length (node_of o).prefix) 0) same) x (sym same ∙ e)

  -- a leaf whose value was taken, and which was taken out of its parent, is a leaf still
  pub left_leaf : (s0 s1 s2 : Nodes P) (key : List ℕ) (above at byte up : ℕ) → IsTree s0 → OnWay s0 key at → IsHeld s0 key at → Hangs s0 key above at
      → ((x : Form ℕ P) → get s0 at ≡ Some x → Sets s0 s1 at x (map.remove (children_of x) byte))
      → ((x : Form ℕ P) → get s1 above ≡ Some x → Sets s1 s2 above x (map.remove (children_of x) up))
      → (x : Form ℕ P) → get s2 at ≡ Some x → length (prefix_of x) ≡ 7
  left_leaf s0 s1 s2 key above at byte up t w h hangs sets1 sets2 x e =
      let l = node_at s0 at w.stands in
      let n = node_at s0 above hangs.way.stands in
      let ne : above ≢ at = above_apart s0 t key above at hangs in
      let j = sets1 l.0 l.1 in
      let k = sets2 n.0 (j.updates.others above ne ∙ n.1) in
      let is : x ≡ j.node = one_node s2 at x j.node e (k.updates.others at (λ q. ne (sym q)) ∙ j.updates.changed) in
      ap length (ap prefix_of is ∙ (j.becomes.prefix ∙ sym (prefix_at s0 at l.0 l.1))) ∙ held_seven s0 key at t w h

  -- a leaf of the key's comes in below an inner node
  pub hung_roomy : (s0 s1 s2 : Nodes P) (at : ℕ) → ContainsKey s0 at → SameNodes s0 s1 → ((x : Form ℕ P) → get s1 at ≡ Some x → MakesRoom s1 s2 at x) → Roomy s0 s2 at
  hung_roomy s0 s1 s2 at st same g =
      let n = node_at s0 at st in
      let k = g n.0 (same at ∙ n.1) in
      record { before = n.0; was = n.1; node = k.node; now = k.updates.changed; prefix = k.prefixed; children = k.children; room = k.room; wide = k.wide }

  -- an inner node that was given room is an inner node still
  pub roomy_inner : (s s' : Nodes P) (at : ℕ) → Roomy s s' at → length (heap_of s at).prefix < 7 → (x : Form ℕ P) → get s' at ≡ Some x → length (prefix_of x) < 7
  roomy_inner s s' at r l x e =
      let p : length (prefix_of x) ≡ length (heap_of s at).prefix = ap length (ap prefix_of (one_node s' at x r.node e r.now) ∙ (r.prefix ∙ sym (prefix_at s at r.before r.was))) in
      omega (arith, p, l)

  -- a node that was given room has the prefix that it had
  pub roomy_prefix : (s s' : Nodes P) (at : ℕ) → Roomy s s' at → (x : Form ℕ P) → get s' at ≡ Some x → prefix_of x ≡ (heap_of s at).prefix
  roomy_prefix s s' at r x e = ap prefix_of (one_node s' at x r.node e r.now) ∙ (r.prefix ∙ sym (prefix_at s at r.before r.was))

  -- a leaf that was given room is a leaf still
  pub roomy_leaf : (s s' : Nodes P) (at : ℕ) → Roomy s s' at → length (heap_of s at).prefix ≡ 7 → (x : Form ℕ P) → get s' at ≡ Some x → length (prefix_of x) ≡ 7
  roomy_leaf s s' at r l x e = ap length (ap prefix_of (one_node s' at x r.node e r.now) ∙ (r.prefix ∙ sym (prefix_at s at r.before r.was))) ∙ l

  -- where every name has its node as before, the tree sees it as before
  pub same_heap : (s s' : Nodes P) (n : ℕ) → SameNodes s s' → heap_of s' n ≡ heap_of s n
  same_heap s s' n e = ap node_of (e n)

  -- where every name has its node as before, what stood stands
  pub same_stands : (s s' : Nodes P) (n : ℕ) → SameNodes s s' → ContainsKey s n → ContainsKey s' n
  same_stands s s' n e h = subst IsSome (sym (e n)) h

  -- a leaf put in its parent's free place is the key's insertion, and takes 64 bytes
  pub leaf_hung : (s0 s1 s2 s3 : Nodes P) (key : List ℕ) (at byte : ℕ) (v : P) → length key ≡ 8 → IsTree s0 → OnWay s0 key at
      → child_for (heap_of s0 at) key ≡ Nothing → length (heap_of s0 at).prefix < 7
      → SameNodes s0 s1 → ((x : Form ℕ P) → get s1 at ≡ Some x → MakesRoom s1 s2 at x)
      → byte ≡ get_or key (length (heap_of s2 at).prefix) 0
      → ((x : Form ℕ P) → get s2 at ≡ Some x → HangsLeaf s2 s3 at x byte key v)
      → (IsTree s3 × MapChange s0 s3 key None (Some v)) × (bytes_of s3 ≡ bytes_of s2 + 64)
  leaf_hung s0 s1 s2 s3 key at byte v len t w free inner same g b hang =
      let r = hung_roomy s0 s1 s2 at w.stands same g in
      let k = g r.before (same at ∙ r.was) in
      let h = hang r.node r.now in
      let ne : at ≢ h.leaf = apart_of s2 at h.leaf r.node r.now h.vacant in
      let d = differs_insert r.node h.node byte (Sub h.leaf) h.becomes in
      let D : ℕ → Type 0 = λ z. Differs r.before h.node z (Some (Sub h.leaf)) in
      let differs : D byte = record { prefix = d.prefix ∙ r.prefix; here = d.here; beside = λ q n. d.beside q n ∙ ap (λ m. map.get m q) r.children; wide = λ z. d.wide (r.wide z) } in
      let adds : AddsLeaf s0 s3 key at h.leaf v = record {
        before = r.before;
        after = h.node;
        made = h.made;
        was = r.was;
        now = h.now;
        differs = subst D (roomy_byte s0 s2 key at byte r b) differs;
        vacant = sym (same h.leaf) ∙ (sym (k.updates.others h.leaf (λ q. ne (sym q))) ∙ h.vacant);
        taken = h.taken;
        has = h.has;
        others = λ y nl na. h.others y na nl ∙ (k.updates.others y na ∙ same y);
      } in (
        add_leaf_done s0 s3 key at h.leaf v len t w inner free adds,
        hangs_bytes s2 s3 at r.node byte key v r.now h,
      )

  -- a node over another comes in, with a leaf for the key
  pub record Forked (s0 s1 s2 s3 : Nodes P) (key : List ℕ) (common over other below : ℕ) (v : P) : Type 0 where
    pub lower : Form ℕ P
    pub stands : get s0 below ≡ Some lower
    pub parts : DiffersAt key (prefix_of lower) common
    pub other_is : other ≡ get_or (prefix_of lower) common 0
    pub made : Makes s0 s1 over (take common key)
    pub hangs : HangsLeaf s1 s2 over made.node (get_or key common 0) key v
    pub forks : Sets s2 s3 over hangs.node (map.insert (children_of hangs.node) other (Sub below))

  module _ (s0 s1 s2 s3 : Nodes P) (key : List ℕ) (common over other below : ℕ) (v : P) (f : Forked s0 s1 s2 s3 key common over other below v) where
    over_apart : (n : ℕ) (x : Form ℕ P) → get s0 n ≡ Some x → n ≢ over
    over_apart n x e = apart_of s0 n over x e f.made.vacant

    leaf_apart : (n : ℕ) (x : Form ℕ P) → get s0 n ≡ Some x → n ≢ f.hangs.leaf
    leaf_apart n x e = apart_of s1 n f.hangs.leaf x (f.made.updates.others n (over_apart n x e) ∙ e) f.hangs.vacant

    -- the other nodes are as they were
    pub forked_at : (n : ℕ) → ContainsKey s0 n → get s3 n ≡ get s0 n
    forked_at n st =
        let x = node_at s0 n st in
        let no = over_apart n x.0 x.1 in
        f.forks.updates.others n no ∙ (f.hangs.others n no (leaf_apart n x.0 x.1) ∙ f.made.updates.others n no)

    module _ (s4 : Nodes P) (at byte : ℕ) (len : length key ≡ 8) (t : IsTree s0) (w : OnWay s0 key at) (h : child_for (heap_of s0 at) key ≡ Below below)
        (df : fits (heap_of s0 below).prefix key ≡ false) (b : byte ≡ get_or key (length (heap_of s3 at).prefix) 0)
        (sets : (x : Form ℕ P) → get s3 at ≡ Some x → Sets s3 s4 at x (map.insert (children_of x) byte (Sub over))) where
      -- a fork with a leaf in its place, put over a node, is the key's insertion, and takes 128 bytes
      pub fork_hung : (IsTree s4 × MapChange s0 s4 key None (Some v)) × (bytes_of s4 ≡ bytes_of s0 + 128)
      fork_hung =
          let n = node_at s0 at w.stands in
          let e3 : get s3 at ≡ Some n.0 = forked_at at w.stands ∙ n.1 in
          let k = sets n.0 e3 in
          let no : at ≢ over = over_apart at n.0 n.1 in
          let nl : at ≢ f.hangs.leaf = leaf_apart at n.0 n.1 in
          let ol : over ≢ f.hangs.leaf = apart_of s1 over f.hangs.leaf f.made.node f.made.updates.changed f.hangs.vacant in
          let d = differs_insert n.0 k.node byte (Sub over) k.becomes in
          let one = differs_insert f.made.node f.hangs.node (get_or key common 0) (Sub f.hangs.leaf) f.hangs.becomes in
          let two = differs_insert f.hangs.node f.forks.node other (Sub below) f.forks.becomes in
          let apart : get_or key common 0 ≢ other = (λ e. f.parts.apart (e ∙ f.other_is)) in
          let b' : byte ≡ get_or key (length (prefix_of n.0)) 0 = b ∙ ap (λ p. get_or key (length p) 0) (prefix_at s3 at n.0 e3) in
          let D : ℕ → Type 0 = λ z. Differs n.0 k.node z (Some (Sub over)) in
          let O : ℕ → Type 0 = λ z. map.get (children_of f.forks.node) z ≡ Some (Sub below) in
          let B : ℕ → Type 0 = λ z. (q : ℕ) → q ≢ z → q ≢ get_or key common 0 → map.get (children_of f.forks.node) q ≡ None in
          let adds : AddsFork s0 s4 key at below common over f.hangs.leaf v = record {
            before = n.0;
            after = k.node;
            lower = f.lower;
            fork = f.forks.node;
            made = f.hangs.made;
            was = n.1;
            now = k.updates.changed;
            differs = subst D b' d;
            vacant_over = f.made.vacant;
            vacant_leaf = sym (f.made.updates.others f.hangs.leaf (λ q. ol (sym q))) ∙ f.hangs.vacant;
            apart = ol;
            taken_leaf = k.updates.others f.hangs.leaf (λ q. nl (sym q)) ∙ (f.forks.updates.others f.hangs.leaf (λ q. ol (sym q)) ∙ f.hangs.taken);
            has = f.hangs.has;
            taken_over = k.updates.others over (λ q. no (sym q)) ∙ f.forks.updates.changed;
            prefix = two.prefix ∙ (one.prefix ∙ f.made.prefixed);
            old_child = subst O f.other_is two.here;
            new_child = two.beside (get_or key common 0) apart ∙ one.here;
            beside = subst B f.other_is (λ q nq nk. two.beside q nq ∙ (one.beside q nk ∙ (ap (λ m. map.get m q) f.made.children ∙ map.get-empty _ q)));
            stands = f.stands;
            others = λ y yo yl ya. k.updates.others y ya ∙ (f.forks.updates.others y yo ∙ (f.hangs.others y yo yl ∙ f.made.updates.others y yo));
          } in
          let parts : DiffersAt key (heap_of s0 below).prefix common = rw (prefix_at s0 below f.lower f.stands) f.parts in
          let m1 = makes_bytes s0 s1 over _ f.made in
          let m2 = hangs_bytes s1 s2 over f.made.node _ key v f.made.updates.changed f.hangs in
          let m3 = sets_bytes s2 s3 over f.hangs.node _ f.hangs.now f.forks in
          let m4 = sets_bytes s3 s4 at n.0 _ e3 k in (
            add_fork_done s0 s4 key at below common over f.hangs.leaf v len t w h df parts adds,
            omega (arith, m1, m2, m3, m4),
          )

  -- a leaf goes from its parent's place
  module _ (s s' : Nodes P) (key : List ℕ) (above at up : ℕ) (v : P) (len : length key ≡ 8) (t : IsTree s) (w : OnWay s key at) (h : IsHeld s key at) (hangs : Hangs s key above at)
      (bu : up ≡ get_or key (length (heap_of s above).prefix) 0) (loses : (x : Form ℕ P) → get s above ≡ Some x → LosesLeaf s s' above x up v) where
    upper : (x : Form ℕ P) × (get s above ≡ Some x)
    upper = node_at s above hangs.way.stands

    loss : LosesLeaf s s' above upper.0 up v
    loss = loses upper.0 upper.1

    is_at : loss.leaf ≡ at
    is_at = let z : Some (Sub loss.leaf) ≡ Some (Sub at) = sym loss.child ∙ child_there s t key above at hangs.way.stands hangs.child upper.0 upper.1 up bu in cc

    stood : get s at ≡ Some loss.was
    stood = subst (λ z. get s z ≡ Some loss.was) is_at loss.stood

    -- a leaf that goes from its parent's place is its key's removal, and gives back its size
    pub lost : (IsTree s' × MapChange s s' key (Some v) None) × (bytes_of s' + size_by (heap_of s at).capacity ≡ bytes_of s)
    lost =
        let seven : length (heap_of s at).prefix ≡ 7 = held_seven s key at t w h in
        let pl : (heap_of s at).prefix ≡ prefix_of loss.was = prefix_at s at loss.was stood in
        let byte : ℕ = get_or key (length (prefix_of loss.was)) 0 in
        let held : map.get (children_of loss.was) byte ≡ Some (Value h.value) = subst (λ p. map.get (children_of loss.was) (get_or key (length p) 0) ≡ Some (Value h.value)) pl (held_is s key at loss.was stood h) in
        let last : byte ≡ loss.last = elim (same_or_not byte loss.last) [
          | inl e ↦ e
          | inr ne ↦ absurd (let z : Some (Value h.value) ≡ None = sym held ∙ (ap (λ m. map.get m byte) loss.lone.children ∙ (insert_beside map.empty loss.last (Value v) byte ne ∙ map.get-empty _ byte)) in cc)
        ] in
        let value : map.get (children_of loss.was) byte ≡ Some (Value v) = ap (map.get (children_of loss.was)) last ∙ (ap (λ m. map.get m loss.last) loss.lone.children ∙ insert_at map.empty loss.last (Value v)) in
        let one : map.len (children_of loss.was) ≡ 1 = ap map.len loss.lone.children ∙ len_one loss.last (Value v) in
        let D : ℕ → Type 0 = λ z. Differs upper.0 loss.node z None in
        let bn : up ≡ get_or key (length (prefix_of upper.0)) 0 = bu ∙ ap (λ p. get_or key (length p) 0) (prefix_at s above upper.0 upper.1) in
        let drops : DropsLeaf s s' key above at v = record {
          before = upper.0;
          after = loss.node;
          last = loss.was;
          was = upper.1;
          now = loss.now;
          differs = subst D bn (differs_remove upper.0 loss.node up loss.becomes);
          stood = stood;
          value = value;
          beside = λ q nq. single (children_of loss.was) byte (Value v) q one value nq;
          left = subst (λ z. get s' z ≡ None) is_at loss.left;
          others = λ m nm na. loss.others m nm (λ e. na (e ∙ is_at));
        } in
        let two = bytes_two s s' above loss.leaf (λ e. above_apart s t key above at hangs (e ∙ is_at)) loss.others in
        let a : bytes_at (get s above) ≡ size_of (form_of upper.0) = ap bytes_at upper.1 in
        let b : bytes_at (get s loss.leaf) ≡ 64 = ap bytes_at loss.stood ∙ ap size_of loss.lone.form in
        let c : bytes_at (get s' above) ≡ size_of (form_of upper.0) = ap bytes_at loss.now ∙ ap size_of loss.becomes.form in
        let d : bytes_at (get s' loss.leaf) ≡ 0 = ap bytes_at loss.left in
        let size : size_by (heap_of s at).capacity ≡ 64 = ap (λ o. size_by (node_of o).capacity) stood ∙ (sized loss.was ∙ ap size_of loss.lone.form) in (
          drop_leaf_done s s' key above at v len t w hangs seven drops,
          omega (arith, two, a, b, c, d, size),
        )

-- a map of one pair
pub only_pair : {X : Type 0} (m : map.FinMap nat_cmp X) → map.len m ≡ 1 → (k : ℕ) × (x : X) × (m ≡ map.insert map.empty k x)
only_pair {X} m l = of (map.entries m) refl
  where
    of : (es : List (ℕ × X)) → map.entries m ≡ es → (k : ℕ) × (x : X) × (m ≡ map.insert map.empty k x)
    of [] e = absurd (let z : map.len m ≡ 0 = map.len-entries m ∙ ap length e in omega (arith, z, l))
    of ((k, x) ∷ []) e = (k, x, map.same_entries_map m (map.insert map.empty k x) (e ∙ sym (map.entries-insert nat_cmp_total map.empty k x ∙ ap (map.put nat_cmp k x) none)))
      where
        none : map.entries (map.empty {X = X} {R = nat_cmp}) ≡ []
        none = none_of (map.entries map.empty) (sym (map.len-entries map.empty) ∙ map.len-empty nat_cmp X)
          where
            none_of : (es : List (ℕ × X)) → length es ≡ 0 → es ≡ []
            none_of [] z = refl
            none_of (y ∷ r) z = absurd (omega (arith, z))
    of (y ∷ (z ∷ r)) e = absurd (let q : map.len m ≡ length (y ∷ (z ∷ r)) = map.len-entries m ∙ ap length e in omega (arith, q, l))

module _ {P : Type 0} where
  -- a leaf of the least form with one child has a value there
  pub has_one : (s : Nodes P) → IsTree s → (n : ℕ) (y : Form ℕ P) → get s n ≡ Some y → form_of y ≡ N4 → length (prefix_of y) ≡ 7 → map.len (children_of y) ≡ 1
      → ((b : ℕ) → IsSome (map.get (children_of y) b) → b < 256) → HasOne y
  has_one s t n y e form seven one low = of pair.1 refl
    where
      pair : (k : ℕ) × (x : Child ℕ P) × (children_of y ≡ map.insert map.empty k x)
      pair = only_pair (children_of y) one

      there : map.get (children_of y) pair.0 ≡ Some pair.1
      there = ap (λ m. map.get m pair.0) pair.2 ∙ insert_at map.empty pair.0 pair.1

      no_node : (c : ℕ) → hung_in (Some pair.1) ≡ Below c → ⊥
      no_node c q =
          let st : ContainsKey s n = stands_at s n y e in
          let h : (heap_of s n).children pair.0 ≡ Below c = ap (λ o. (node_of o).children pair.0) e ∙ (ap hung_in there ∙ q) in
          let i = t.tree.down n pair.0 c (linked_of s t.parent n st) h in
          let l = t.tree.short c i.linked in
          let p : length (heap_of s n).prefix ≡ 7 = ap (λ o. length (node_of o).prefix) e ∙ seven in
          omega (arith, i.longer, l, p)

      of : (x : Child ℕ P) → pair.1 ≡ x → HasOne y
      of Blank q = absurd (no_node 0 (ap (λ z. hung_in (Some z)) q))
      of (Sub c) q = absurd (no_node c (ap (λ z. hung_in (Some z)) q))
      of (Value v) q = record {
        last = pair.0;
        value = v;
        low = low pair.0 (subst IsSome (sym there) (search rules));
        lone = record { form = form; prefix = seven; children = pair.2 ∙ ap (map.insert map.empty pair.0) q };
      }

-- so many of a list's first elements are no more
pub short_take : (n : ℕ) (xs : List ℕ) → n < 7 → length (take n xs) < 7
short_take n xs l = let e = most n xs in omega (arith, e, l)
  where
    most : (n : ℕ) (xs : List ℕ) → length (take n xs) ≤ n
    most zero xs = omega arith
    most (suc n) [] = omega arith
    most (suc n) (x ∷ xs) = let e = most n xs in omega (arith, e)

-- what a name tells of its node's place
pub own_of : (b : Bool) (n : ℕ) → IsTrue b ↔ (HasOwnSlot n → ⊥) → b ≡ false → HasOwnSlot n
own_of b n h e = elim (same_or_not (n % 257) 0) [
  | inl p ↦ p
  | inr ne ↦ absurd (let z : false ≡ true = sym e ∙ h.1 ne in cc)
]

-- a node that was told to stand in its parent's place has no slot of its own
pub inline_of : (b : Bool) (n : ℕ) → IsTrue b ↔ (HasOwnSlot n → ⊥) → b ≡ true → HasOwnSlot n → ⊥
inline_of b n h e = h.0 e

module _ {P : Type 0} where
  -- a leaf of the key's way that took a slot
  pub record Unfolded (s s' : Nodes P) (key : List ℕ) (above at leaf : ℕ) : Type 0 where
    pub renamed : Renamed s s'
    pub stands : ContainsKey s' leaf
    pub heap : heap_of s' leaf ≡ heap_of s at
    pub up : OnWay s' key above
    pub child : child_for (heap_of s' above) key ≡ Below leaf

  -- a leaf in its parent's place that takes a slot is the same leaf below the same node
  pub unfolded : (s s' : Nodes P) (key : List ℕ) (above at up leaf : ℕ) → IsTree s → OnWay s key above → child_for (heap_of s above) key ≡ Below at
      → up ≡ get_or key (length (heap_of s above).prefix) 0
      → ((x : Form ℕ P) (c : ℕ) → get s above ≡ Some x → map.get (children_of x) up ≡ Some (Sub c) → Renames s s' above up c leaf)
      → Unfolded s s' key above at leaf
  unfolded s s' key above at up leaf t w h b ren =
      let n = node_at s above w.stands in
      let r = ren n.0 at n.1 (child_there s t key above at w.stands h n.0 n.1 up b) in
      let heap : heap_of s' leaf ≡ heap_of s at = ap node_of (r.stands ∙ sym r.stood) in
      let old : r.old ≡ n.0 = one_node s above r.old n.0 r.was n.1 in
      let p : (heap_of s' above).prefix ≡ (heap_of s above).prefix = prefix_at s' above r.new r.now ∙ (r.becomes.prefix ∙ sym (prefix_at s above r.old r.was)) in
      let k : get_or key (length (heap_of s' above).prefix) 0 ≡ up = ap (λ q. get_or key (length q) 0) p ∙ sym b in
      let c : (heap_of s' above).children up ≡ Below leaf = ap (λ o. (node_of o).children up) r.now ∙ (ap (λ m. hung_in (map.get m up)) r.becomes.children ∙ ap hung_in (insert_at (children_of r.old) up (Sub leaf))) in
      record {
        renamed = renamed s s' above up at leaf t r;
        stands = stands_at s' leaf r.node r.stands;
        heap = heap;
        up = record { stands = stands_at s' above r.new r.now; fitted = ap (λ q. fits q key) p ∙ w.fitted };
        child = ap (heap_of s' above).children k ∙ c;
      }

  -- the node above a leaf, and the leaf, after a value of the leaf's was taken
  pub taken_hangs : (s s' : Nodes P) (key : List ℕ) (above at byte : ℕ) → IsTree s → OnWay s key at → Hangs s key above at
      → ((x : Form ℕ P) → get s at ≡ Some x → Sets s s' at x (map.remove (children_of x) byte)) → Hangs s' key above at
  taken_hangs s s' key above at byte t w h sets =
      let l = node_at s at w.stands in
      let same : get s' above ≡ get s above = (sets l.0 l.1).updates.others above (above_apart s t key above at h) in
      let heap : heap_of s' above ≡ heap_of s above = ap node_of same in
      record {
        way = record { stands = subst IsSome (sym same) h.way.stands; fitted = ap (λ n. fits n.prefix key) heap ∙ h.way.fitted };
        child = ap (λ n. child_for n key) heap ∙ h.child;
      }

  -- a leaf whose value was taken has the prefix that it had
  pub taken_prefix : (s s' : Nodes P) (at byte : ℕ) → ContainsKey s at
      → ((x : Form ℕ P) → get s at ≡ Some x → Sets s s' at x (map.remove (children_of x) byte)) → (heap_of s' at).prefix ≡ (heap_of s at).prefix
  taken_prefix s s' at byte st sets =
      let l = node_at s at st in
      let k = sets l.0 l.1 in
      prefix_at s' at k.node k.updates.changed ∙ (k.becomes.prefix ∙ sym (prefix_at s at l.0 l.1))

  -- a node that hangs in the tree stands
  pub hung_stands : (s : Nodes P) → IsTree s → (key : List ℕ) (above at : ℕ) → Hangs s key above at → ContainsKey s at
  hung_stands s t key above at h = below_stands s t above at key h.way.stands h.child

  -- a node that was just made, and then got a leaf
  pub made_inner : (s s' : Nodes P) (n : ℕ) (p : List ℕ) → Makes s s' n p → length p < 7 → (x : Form ℕ P) → get s' n ≡ Some x → length (prefix_of x) < 7
  made_inner s s' n p m l x e =
      let q : length (prefix_of x) ≡ length p = ap length (ap prefix_of (one_node s' n x m.node e m.updates.changed) ∙ m.prefixed) in
      omega (arith, q, l)

  module _ (s s' s'' : Nodes P) (n : ℕ) (p : List ℕ) (byte : ℕ) (key : List ℕ) (v : P) (m : Makes s s' n p) (h : HangsLeaf s' s'' n m.node byte key v) where
    -- a new inner node that got a leaf is an inner node
    pub hung_inner : length p < 7 → (x : Form ℕ P) → get s'' n ≡ Some x → length (prefix_of x) < 7
    hung_inner l x e =
        let q : length (prefix_of x) ≡ length p = ap length (ap prefix_of (one_node s'' n x h.node e h.now) ∙ (h.becomes.prefix ∙ m.prefixed)) in
        omega (arith, q, l)

    -- a new inner node that got a leaf has nothing under the other bytes
    pub hung_absent : (other : ℕ) → byte ≢ other → (x : Form ℕ P) → get s'' n ≡ Some x → map.get (children_of x) other ≡ None
    hung_absent other ne x e =
        ap (λ y. map.get (children_of y) other) (one_node s'' n x h.node e h.now)
        ∙ (ap (λ z. map.get z other) h.becomes.children
        ∙ (insert_beside (children_of m.node) byte (Sub h.leaf) other (λ q. ne (sym q))
        ∙ (ap (λ z. map.get z other) m.children ∙ map.get-empty _ other)))

    -- a new inner node that got a leaf isn't full
    pub hung_room : (x : Form ℕ P) → get s'' n ≡ Some x → is_full_of x ≡ false
    hung_room x e =
        let c : children_of h.node ≡ map.insert map.empty byte (Sub h.leaf) = h.becomes.children ∙ ap (λ z. map.insert z byte (Sub h.leaf)) m.children in
        ap is_full_of (one_node s'' n x h.node e h.now)
        ∙ (full_is h.node ∙ (ap (λ t. full_at t (map.len (children_of h.node))) (h.becomes.form ∙ m.form) ∙ (ap (λ z. full_at N4 (map.len z)) c ∙ ap (full_at N4) (len_one byte (Sub h.leaf)))))

  -- a node at the key's byte of one on the key's way hangs in that one
  pub fork_hangs : (s : Nodes P) (key : List ℕ) (at below : ℕ) → OnWay s key at → child_for (heap_of s at) key ≡ Below below → Hangs s key at below
  fork_hangs s key at below w h = record { way = w; child = h }

  -- a leaf's only child leaves room
  pub one_room : (s : Nodes P) (n : ℕ) (y : Form ℕ P) → get s n ≡ Some y → HasOne y → room_for (heap_of s n) ≡ []
  one_room s n y e h = ap (λ o. room_for (node_of o)) e ∙ roomy_none y (full_is y ∙ (ap (λ t. full_at t (map.len (children_of y))) h.lone.form ∙ (ap (λ z. full_at N4 (map.len z)) h.lone.children ∙ ap (full_at N4) (len_one h.last (Value h.value)))))

  -- a leaf in its parent's place isn't the root
  pub inline_hangs : (s : Nodes P) (key : List ℕ) (above at : ℕ) → Reached s key above at → (HasOwnSlot at → ⊥) → Hangs s key above at
  inline_hangs s key above at r inline = r.hangs (λ e. inline (subst HasOwnSlot (sym e) refl))

  -- nodes that are the same take the same room, and are the same tree
  pub same_renamed : (s s' : Nodes P) → SameNodes s s' → IsTree s → Renamed s s'
  same_renamed s s' e t =
      let h : heap_of s' ≡ heap_of s = λ i n. ap node_of (e n) i in
      record { tree = same_tree s s' e t; values = λ k. ap (λ z. value_at z k) h; bytes = bytes_same s s' e; filled = λ by_form. same_filled by_form s s' e }

  -- where every name has its node as before, a node on a key's way is on it
  pub same_way : (s s' : Nodes P) (key : List ℕ) (n : ℕ) → SameNodes s s' → OnWay s key n → OnWay s' key n
  same_way s s' key n e w = record { stands = same_stands s s' n e w.stands; fitted = ap (λ z. fits z.prefix key) (same_heap s s' n e) ∙ w.fitted }

-- an insertion into a leaf with room is never refused
pub never_denied : {P A K : Type 0} (charged limit : A → ℕ) (old new : Arena P A K) (key : List ℕ) (v : P) (wants : List ℕ) (refusal : OOMError × P)
    → wants ≡ [] → Denies charged limit old new key v (Some wants) refusal → ⊥
never_denied charged limit old new key v wants refusal e d = subst (λ w. IsRefused (Some w) (charged old.allocator) (limit old.allocator) refusal.0) e d.cause

-- what an outcome tells, told on
pub adds_in : {T E : Type 0} {A B : Type 0} (r : Result T E) → (A → B) → OnOk r A → OnOk r B
adds_in (Ok x) f a = f a
adds_in (Err e) f a = a

-- an error that can't be is none, and tells anything
pub never_in : {T E : Type 0} (A B : E → Type 0) (r : Result T E) → ((e : E) → A e → ⊥) → IfErr r A → IfErr r B
never_in A B (Ok x) f a = a
never_in A B (Err e) f a = absurd (f e a)

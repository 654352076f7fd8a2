-- A root that comes alone into slots where nothing is.
use Rattle.std.proofs.Common.{◌≡◌, ℕ, ◌<◌, [], length, get_or, refl, ap, subst, ◌∙◌, arith}
use Rattle.std.specs.Prelude.{None, Some}
use Rattle.std.specs.FinMap as map
use Rattle.slab.specs.Slab.{Slab, get, ContainsKey, Updates}
use Rattle.congee.specs.forms.Forms.{Becomes, children_of, form_of, prefix_of}
use Rattle.congee.specs.owned.Arena.{Nodes}
use Rattle.congee.specs.owned.Kinds.{Cleared}
use Rattle.congee.specs.owned.Slots.{inner_child, lone_in, nodes_in, with_children}
use Rattle.congee.specs.owned.Storage.{HasKind, IsStored}
use Rattle.congee.specs.owned.Stores.{IsAlone, LeavesRoot}
use Rattle.congee.specs.declared.forms.base_node.Node.{Node}
use Rattle.congee.specs.declared.owned.inline_leaf.Lone.{Lone}
use Rattle.congee.specs.declared.owned.slots.Slot.{Slot}
use Rattle.congee.specs.declared.owned.slots.Slot.TheVariants.{Inner, Leaf}
use Rattle.congee.proofs.lemmas.forms.MappedLemmas.{mapped_empty}
use Rattle.congee.proofs.lemmas.owned.SlotChanges.{AtInner, at_inner, inner_slot}
use Rattle.congee.proofs.lemmas.owned.SlotComes.{comes_stored, slot_updates}
use Rattle.congee.proofs.lemmas.owned.SlotOps.{has_slot}
use Rattle.congee.proofs.lemmas.owned.Moves.{node_at}
use Rattle.congee.proofs.lemmas.owned.Slots.{with_becomes}

module _ {P K : Type 0} (s s' : Slab (Slot P K)) (empty : s.slots ≡ []) (i : ℕ) (first : i ≡ 0) (n : Node ℕ (Lone P)) (u : Updates s s' i (Some (Inner n))) (bare : children_of n ≡ map.empty) where
  -- as many places as there are then, and nothing in them
  abbrev blank : Slab (Slot P K)
  blank = record { slots = []; vacant_key = 0; capacity = s'.capacity }

  blank_stored : IsStored blank 0
  unfolding nodes_in
  blank_stored = record { counted = refl; room = omega arith; kinds = λ slot. tt }

  comes : Updates blank s' 0 (Some (Inner n))
  comes =
      let w = subst (λ k. Updates s s' k (Some (Inner n))) first u in
      record { changed = w.changed; others = λ m ne. w.others m ne ∙ ap (λ l. get_or l m None) empty }

  -- slots with a new inner node alone are sound, and no leaf lies in its parent's place
  pub alone_stored : length (prefix_of n) < 7 → i < s'.capacity → IsStored s' 0
  alone_stored short low = comes_stored blank s' (nodes_in blank) refl 0 blank_stored 0 n refl comes bare short refl (omega (arith, low))

  -- a new inner node alone in the slots is the root, which stands alone
  pub alone : IsAlone (nodes_in s') (with_children (inner_child 0) n)
  unfolding nodes_in
  alone = record {
    before = nodes_in blank;
    none = λ m. refl;
    puts = slot_updates blank s' 0 (Some (Inner n)) comes (λ b. ap lone_in (ap (λ m. map.get m b) bare ∙ map.get-empty _ b));
  }

-- an inner node whose children went
record ClearedTo {P K : Type 0} (n : Node ℕ (Lone P)) (x' : Slot P K) : Type 0 where
  pub node : Node ℕ (Lone P)
  pub is : x' ≡ Inner node
  pub becomes : Becomes n node map.empty

cleared_to : {P K : Type 0} (x x' : Slot P K) (n : Node ℕ (Lone P)) → x ≡ Inner n → Cleared x x' → ClearedTo n x'
cleared_to {P} {K} x x' n e k = of x' (subst (λ z. Cleared z x') e k)
  where
    of : (z : Slot P K) → Cleared (Inner n) z → ClearedTo n z
    of (Inner m) k = record { node = m; is = refl; becomes = k }
    of (Leaf m) k = absurd k

-- the root comes back without its children, and all else went
module _ {P K : Type 0} (s : Slab (Slot P K)) (v : Nodes P) (is : nodes_in s ≡ v) (inline : ℕ) (st : IsStored s inline) (stands : ContainsKey v 0) (inner : (y : Node ℕ P) → get v 0 ≡ Some y → length (prefix_of y) < 7) where
  -- the root's slot isn't vacant
  pub root_slot : ContainsKey s 0
  root_slot = has_slot s v is inline st 0 0 None refl tt stands inner

  module _ (x x' : Slot P K) (e : get s 0 ≡ Some x) (gone : Cleared x x') (s0 s' : Slab (Slot P K)) (empty : s0.slots ≡ []) (i : ℕ) (first : i ≡ 0) (u : Updates s0 s' i (Some x')) where
    at_root : (y : Node ℕ P) → get v 0 ≡ Some y → AtInner s v 0 0 y
    at_root y h = at_inner s v is 0 0 None refl tt st.kinds y h (inner y h)

    after : (y : Node ℕ P) (k : AtInner s v 0 0 y) → ClearedTo k.node x'
    after y k = cleared_to x x' k.node (inner_slot s v 0 0 y k x e) gone

    comes_back : (y : Node ℕ P) (k : AtInner s v 0 0 y) → Updates s0 s' i (Some (Inner (after y k).node))
    comes_back y k = subst (λ z. Updates s0 s' i (Some z)) (after y k).is u

    -- slots to which the root alone came back are sound, and no leaf lies in its parent's place
    pub root_left_stored : i < s'.capacity → IsStored s' 0
    root_left_stored low =
        let y = node_at v 0 stands in
        let k = at_root y.0 y.1 in
        let a = after y.0 k in
        let short : length (prefix_of k.node) < 7 = subst HasKind k.stands (st.kinds 0) in
        let p : length (prefix_of a.node) ≡ length (prefix_of k.node) = ap length a.becomes.prefix in
        alone_stored s0 s' empty i first a.node (comes_back y.0 k) a.becomes.children (omega (arith, p, short)) low

    -- and the tree sees that all but the root went, and its children
    pub root_left_done : (y : Node ℕ P) → get v 0 ≡ Some y → LeavesRoot v (nodes_in s') y
    root_left_done y h =
        let k = at_root y h in
        let a = after y k in
        let w = with_becomes (inner_child 0) k.node a.node map.empty a.becomes in
        record {
          node = with_children (inner_child 0) a.node;
          becomes = record {
            form = w.form ∙ ap form_of k.seen;
            prefix = w.prefix ∙ ap prefix_of k.seen;
            children = w.children ∙ mapped_empty (inner_child 0);
          };
          alone = alone s0 s' empty i first a.node (comes_back y k) a.becomes.children;
        }

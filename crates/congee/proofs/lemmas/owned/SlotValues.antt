-- Another value in a leaf that lies in its parent's place.
use Rattle.std.proofs.Common.{◌≡◌, ◌≢◌, ℕ, ◌+◌, ◌*◌, ◌<◌, inl, inr, List, take, get_or, refl, sym, ap, subst, ◌∙◌, arith}
use denote.RawPtr.{null_ptr}
use Rattle.std.specs.Prelude.{Option, None, Some, IsSome}
use Rattle.std.specs.Ordering.{nat_cmp}
use Rattle.std.specs.FinMap as map
use Rattle.slab.specs.Slab.{Slab, get, ContainsKey, Updates, with_value}
use Rattle.congee.specs.forms.Forms.{children_of, form_of, prefix_of}
use Rattle.congee.specs.forms.Mapped.{mapped}
use Rattle.congee.specs.owned.Arena.{Nodes}
use Rattle.congee.specs.owned.Entries.{first_byte}
use Rattle.congee.specs.owned.Kinds.{InnerBecomes, IsValue, inner_get, prefix_in}
use Rattle.congee.specs.owned.Naming.{HasOwnSlot, IsByte, offset_of}
use Rattle.congee.specs.owned.OwnedSteps.{Sets}
use Rattle.congee.specs.owned.Slots.{inner_child, lone_in, lone_node, nodes_in, with_children}
use Rattle.congee.specs.owned.Storage.{IsStored}
use Rattle.congee.specs.declared.forms.base_node.Node.{Node}
use Rattle.congee.specs.declared.forms.base_node.Node.TheVariants.{N4, N16, N48, N256}
use Rattle.congee.specs.declared.forms.base_node.NodeType.{NodeType}
use Rattle.congee.specs.declared.forms.base_node.NodeType.TheVariants.{N4 as T4, N16 as T16, N48 as T48, N256 as T256}
use Rattle.congee.specs.declared.forms.child.Child.{Child}
use Rattle.congee.specs.declared.forms.child.Child.TheVariants.{Value}
use Rattle.congee.specs.declared.owned.inline_leaf.Lone.{Lone}
use Rattle.congee.specs.declared.owned.slots.Slot.{Slot}
use Rattle.congee.specs.declared.owned.slots.Slot.TheVariants.{Inner}
use Rattle.congee.proofs.lemmas.Tree.{same_or_not}
use Rattle.congee.proofs.lemmas.forms.MappedLemmas.{mapped_insert, same_answers, some_mapped}
use Rattle.congee.proofs.lemmas.owned.Moves.{insert_at, insert_beside, one_node}
use Rattle.congee.proofs.lemmas.owned.SlotChanges.{InnerAfter, inner_after, lone_after, others_after, seen_after, stored_after}
use Rattle.congee.proofs.lemmas.owned.SlotLens.{count_if_some}
use Rattle.congee.proofs.lemmas.owned.Stored.{LoneAt, lone_seen, named_lone_at, slot_seen}

module _ {X : Type 0} (m : map.FinMap nat_cmp X) (k : ℕ) (x : X) where
  -- what is there is put there
  insert_same : map.get m k ≡ Some x → map.insert m k x ≡ m
  insert_same e = same_answers {X = ℕ} {Y = ℕ} (λ k y. y) _ _ (λ q. elim (same_or_not q k) [
    | inl w ↦ (let Q : ℕ → Type 0 = λ z. map.get (map.insert m k x) z ≡ map.get m z in subst Q (sym w) (insert_at m k x ∙ sym e))
    | inr ne ↦ insert_beside m k x q ne
  ])

  -- one after another is put there
  pub insert_again : (y : X) → map.insert (map.insert m k x) k y ≡ map.insert m k y
  insert_again y = same_answers {X = ℕ} {Y = ℕ} (λ k y. y) _ _ (λ q. elim (same_or_not q k) [
    | inl w ↦ (let Q : ℕ → Type 0 = λ z. map.get (map.insert (map.insert m k x) k y) z ≡ map.get (map.insert m k y) z in
        subst Q (sym w) (insert_at (map.insert m k x) k y ∙ sym (insert_at m k y)))
    | inr ne ↦ insert_beside (map.insert m k x) k y q ne ∙ (insert_beside m k x q ne ∙ sym (insert_beside m k y q ne))
  ])

-- a node with changed children is told by its form, its prefix and those children
module _ {P Q : Type 0} (f : ℕ → Child ℕ P → Child ℕ Q) where
  abbrev told : NodeType → List ℕ → map.FinMap nat_cmp (Child ℕ Q) → Node ℕ Q
  told T4 p m = N4 (record { prefix = p; children = m })
  told T16 p m = N16 (record { ptr = null_ptr; alloc = record { memory = record { seal = tt } }; value = record { prefix = p; children = m } })
  told T48 p m = N48 (record { ptr = null_ptr; alloc = record { memory = record { seal = tt } }; value = record { prefix = p; children = m } })
  told T256 p m = N256 (record { ptr = null_ptr; alloc = record { memory = record { seal = tt } }; value = record { prefix = p; children = m } })

  is_told : (n : Node ℕ P) → with_children f n ≡ told (form_of n) (prefix_of n) (mapped f (children_of n))
  is_told (N4 n) = refl
  is_told (N16 n) = refl
  is_told (N48 n) = refl
  is_told (N256 n) = refl

  same_with : (n n' : Node ℕ P) → form_of n' ≡ form_of n → prefix_of n' ≡ prefix_of n → mapped f (children_of n') ≡ mapped f (children_of n) → with_children f n' ≡ with_children f n
  same_with n n' form prefix children =
      is_told n'
      ∙ (ap (λ t. told t (prefix_of n') (mapped f (children_of n'))) form
      ∙ (ap (λ p. told (form_of n) p (mapped f (children_of n'))) prefix
      ∙ (ap (told (form_of n) (prefix_of n)) children ∙ sym (is_told n))))

-- the name of no byte is a slot's
pub own_none : (at i : ℕ) (byte : Option ℕ) → 257 * i + offset_of byte ≡ at → byte ≡ None → HasOwnSlot at
own_none at i byte e none = let n : at ≡ 257 * i = sym e ∙ (ap (λ b. 257 * i + offset_of b) none ∙ omega arith) in omega (arith, n)

-- the one byte under which a leaf has a value
value_byte : {P : Type 0} (lone : Lone P) (b : ℕ) → IsValue (map.get (children_of (lone_node lone)) b) → b ≡ get_or lone.key 7 0
value_byte lone b h = elim (same_or_not b (get_or lone.key 7 0)) [
  | inl q ↦ q
  | inr ne ↦ (let n : map.get (children_of (lone_node lone)) b ≡ None = insert_beside map.empty (get_or lone.key 7 0) (Value lone.value) b ne ∙ map.get-empty _ b in absurd (subst IsValue n h))
]

module _ {P K : Type 0} (s : Slab (Slot P K)) (v : Nodes P) (is : nodes_in s ≡ v) (inline : ℕ) (st : IsStored s inline) (at i : ℕ) (byte : Option ℕ) (name : 257 * i + offset_of byte ≡ at) (fits : IsByte byte)
    (place : ℕ) (placed : byte ≡ Some place) (stands : ContainsKey v at) (b : ℕ) (present : (y : Node ℕ P) → get v at ≡ Some y → IsValue (map.get (children_of y) b)) where
  at_is : at ≡ 257 * i + (place + 1)
  at_is = sym name ∙ ap (λ o. 257 * i + offset_of o) placed

  low : place < 256
  low = subst IsByte placed fits

  it : LoneAt s i place
  it = named_lone_at s v is at i byte name place placed fits stands

  -- the slot of a leaf in its parent's place isn't vacant
  pub inline_slot : ContainsKey s i
  inline_slot = rw it.stands refl

  -- a leaf that is seen there has its value under this byte
  module _ (lone : Lone P) (seen : get v (257 * i + (place + 1)) ≡ Some (lone_node lone)) where
    same_node : (y : Node ℕ P) → get v at ≡ Some y → lone_node lone ≡ y
    same_node y h = one_node v at (lone_node lone) y (ap (get v) at_is ∙ seen) h

    same_byte : (y : Node ℕ P) → get v at ≡ Some y → b ≡ get_or lone.key 7 0
    same_byte y h = value_byte lone b (subst (λ n. IsValue (map.get (children_of n) b)) (sym (same_node y h)) (present y h))

    was_there : (y : Node ℕ P) → get v at ≡ Some y → Some (Value lone.value) ≡ map.get (children_of y) b
    was_there y h =
        let k = get_or lone.key 7 0 in
        let c : map.get (children_of (lone_node lone)) b ≡ Some (Value lone.value) = ap (map.get (children_of (lone_node lone))) (same_byte y h) ∙ insert_at map.empty k (Value lone.value) in
        sym c ∙ ap (λ n. map.get (children_of n) b) (same_node y h)

  module _ (x : Slot P K) (e : get s i ≡ Some x) where
    is_slot : x ≡ Inner it.node
    is_slot = let z : Some x ≡ Some (Inner it.node) = sym e ∙ it.stands in cc

    here : inner_get x place ≡ Some (Value it.lone)
    here = ap (λ w. inner_get w place) is_slot ∙ it.child

    -- the slot has a value under the leaf's byte
    pub inline_holds : IsValue (inner_get x place)
    inline_holds = subst IsValue (sym here) tt

    -- the leaf that is read under that byte is the one that stands under its name
    pub inline_reads : (lone : Lone P) → inner_get x place ≡ Some (Value lone) → get v (257 * i + (place + 1)) ≡ Some (lone_node lone)
    inline_reads lone read = lone_seen s v is i place it x lone e read

    -- the first byte of the keys under that byte is the same by each reading of the slot's node
    pub inline_first : (z : Slot P K) → get s i ≡ Some z → (first : ℕ) → first ≡ first_byte (prefix_in z) place → first ≡ first_byte (prefix_in x) place
    inline_first z h first f = let w : Some z ≡ Some x = sym h ∙ e in let q : z ≡ x = cc in f ∙ ap (λ y. first_byte (prefix_in y) place) q

    -- the slot has something under the leaf's byte
    pub inline_present : IsSome (inner_get x place)
    inline_present = rw here refl

    -- nothing else than a leaf is read under that byte
    pub inline_only : (r : Child ℕ (Lone P)) → inner_get x place ≡ Some r → ((l : Lone P) → r ≡ Value l → ⊥) → ⊥
    inline_only r read ne = ne it.lone (let z : Some r ≡ Some (Value it.lone) = sym read ∙ here in cc)

    -- the value of the leaf that is read there is the one at the byte that the tree sees
    pub inline_was : (old : Lone P) (r : Child ℕ (Lone P)) → inner_get x place ≡ Some r → r ≡ Value old → (y : Node ℕ P) → get v at ≡ Some y → Some (Value old.value) ≡ map.get (children_of y) b
    inline_was old r read q y h = was_there old (lone_seen s v is i place it x old e (read ∙ ap Some q)) y h

    -- another leaf for the key lies there then
    module _ (lone new : Lone P) (seen : get v (257 * i + (place + 1)) ≡ Some (lone_node lone)) (key : new.key ≡ lone.key) (x' : Slot P K) (ib : InnerBecomes x x' (λ m. map.insert m place (Value new))) where
      after : InnerAfter it.node x' (map.insert (children_of it.node) place (Value new))
      after = inner_after x x' it.node (λ m. map.insert m place (Value new)) is_slot ib

      beside : (q : ℕ) → q ≢ place → map.get (children_of after.node) q ≡ map.get (children_of it.node) q
      beside q ne = ap (λ m. map.get m q) after.becomes.children ∙ insert_beside (children_of it.node) place (Value new) q ne

      now_here : lone_in (map.get (children_of after.node) place) ≡ Some (lone_node new)
      now_here = ap lone_in (ap (λ m. map.get m place) after.becomes.children ∙ insert_at (children_of it.node) place (Value new))

      -- the slots are sound with a leaf of the same key in its place
      pub inline_stored : IsStored (with_value s i x') inline
      inline_stored =
          let c : count_if_some (lone_in (map.get (children_of it.node) place)) ≡ 1 = ap (λ o. count_if_some (lone_in o)) it.child in
          let d : count_if_some (lone_in (map.get (children_of after.node) place)) ≡ 1 = ap count_if_some now_here in
          let r = st.room in
          subst (λ z. IsStored (with_value s i z) inline) (sym after.is) (stored_after s i it.node after.node place it.stands low after.becomes.prefix beside inline inline st (omega (arith, c, d)) r)

      parent_same : with_children (inner_child i) after.node ≡ with_children (inner_child i) it.node
      parent_same =
          let f = inner_child i in
          let c : map.get (mapped f (children_of it.node)) place ≡ Some (f place (Value new)) = some_mapped f (children_of it.node) place (Value it.lone) it.child in
          same_with f it.node after.node after.becomes.form after.becomes.prefix
          (ap (mapped f) after.becomes.children ∙ (mapped_insert f (children_of it.node) place (Value new) ∙ insert_same (mapped f (children_of it.node)) place (f place (Value new)) c))

      updates : Updates v (nodes_in (with_value s i (Inner after.node))) (257 * i + (place + 1)) (Some (lone_node new))
      updates =
          let v' = nodes_in (with_value s i (Inner after.node)) in
          record {
            changed = lone_after s i it.node after.node place it.stands low after.becomes.prefix beside ∙ now_here;
            others = λ m ne. elim (same_or_not m (257 * i)) [
              | inl w ↦ (let Q : ℕ → Type 0 = λ z. get v' z ≡ get v z in
                  subst Q (sym w) (seen_after s i it.node after.node place it.stands low after.becomes.prefix beside
                  ∙ (ap Some parent_same ∙ (sym (slot_seen s i (Inner it.node) it.stands) ∙ ap (λ w. get w (257 * i)) is))))
              | inr nm ↦ others_after s i it.node after.node place it.stands low after.becomes.prefix beside m nm ne ∙ ap (λ w. get w m) is
            ];
          }

      -- and the tree sees the value alone change
      pub inline_swaps : (y : Node ℕ P) → get v at ≡ Some y → Sets v (nodes_in (with_value s i x')) at y (map.insert (children_of y) b (Value new.value))
      inline_swaps y h =
          let k = get_or lone.key 7 0 in
          let q = same_node lone seen y h in
          let end : b ≡ k = same_byte lone seen y h in
          let last : get_or new.key 7 0 ≡ k = ap (λ l. get_or l 7 0) key in
          let a : Child ℕ P = Value lone.value in let d : Child ℕ P = Value new.value in
          let children : map.insert map.empty (get_or new.key 7 0) d ≡ map.insert (children_of y) b d =
          ap (λ j. map.insert map.empty j d) last ∙ (sym (insert_again map.empty k a d) ∙ (ap (λ j. map.insert (map.insert map.empty k a) j d) (sym end) ∙ ap (λ n. map.insert (children_of n) b d) q)) in
          let sets : Sets v (nodes_in (with_value s i (Inner after.node))) at y (map.insert (children_of y) b d) = record {
            node = lone_node new;
            becomes = record {
              form = ap form_of q;
              prefix = ap (take 7) key ∙ ap prefix_of q;
              children = children;
            };
            updates = subst (λ n. Updates v (nodes_in (with_value s i (Inner after.node))) n (Some (lone_node new))) (sym at_is) updates;
          } in
          subst (λ z. Sets v (nodes_in (with_value s i z)) at y (map.insert (children_of y) b d)) (sym after.is) sets

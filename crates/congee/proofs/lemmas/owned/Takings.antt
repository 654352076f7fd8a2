-- An inner node leaves its slot and gives its only child.
use Rattle.std.proofs.Common.{◌≡◌, ◌≢◌, ℕ, zero, suc, ◌+◌, ◌-◌, ◌*◌, ◌/◌, ◌%◌, ◌<◌, ◌≤◌, inl, inr, length, refl, sym, ap, subst, ◌∙◌, arith}
use Rattle.std.specs.Prelude.{Option, None, Some, IsSome}
use Rattle.std.specs.Ordering.{nat_cmp}
use Rattle.std.specs.FinMap as map
use Rattle.slab.specs.Slab.{Slab, get, ContainsKey, Updates, slab_len}
use Rattle.congee.specs.forms.Forms.{children_of, prefix_of}
use Rattle.congee.specs.forms.Mapped.{mapped}
use Rattle.congee.specs.owned.Arena.{Nodes}
use Rattle.congee.specs.owned.Kinds.{len_in}
use Rattle.congee.specs.owned.Lifting.{GivesOnly, HasOneNode, HasOnly}
use Rattle.congee.specs.owned.Naming.{IsByte, offset_of}
use Rattle.congee.specs.owned.Only.{IsOnly}
use Rattle.congee.specs.owned.Slots.{inner_child, in_slot, lone_in, lone_node, nodes_in}
use Rattle.congee.specs.owned.Storage.{HasKind, IsStored}
use Rattle.congee.specs.declared.forms.base_node.Node.{Node}
use Rattle.congee.specs.declared.forms.child.Child.{Child}
use Rattle.congee.specs.declared.forms.child.Child.TheVariants.{Blank, Node as Sub, Value}
use Rattle.congee.specs.declared.owned.inline_leaf.Lone.{Lone}
use Rattle.congee.specs.declared.owned.slots.Slot.{Slot}
use Rattle.congee.specs.declared.owned.slots.Slot.TheVariants.{Inner}
use Rattle.congee.proofs.lemmas.Tree.{same_or_not}
use Rattle.congee.proofs.lemmas.forms.MappedLemmas.{mapped_empty, mapped_insert}
use Rattle.congee.proofs.lemmas.owned.Hangings.{only_pair}
use Rattle.congee.proofs.lemmas.owned.Moves.{insert_at, insert_beside, len_one, node_at, one_node}
use Rattle.congee.proofs.lemmas.owned.SlotChanges.{AtInner, at_inner, inner_slot}
use Rattle.congee.proofs.lemmas.owned.SlotComes.{slot_stored, slot_updates}
use Rattle.congee.proofs.lemmas.owned.SlotLens.{count_if_some, len_two}
use Rattle.congee.proofs.lemmas.owned.Slots.{beside_slot, get_inline, get_offset, get_slot, in_offset, low_offset, with_len, with_mapped}
use Rattle.congee.proofs.lemmas.owned.Stored.{lone_counts}
use Rattle.congee.proofs.lemmas.owned.Unfolds.{one_value}

module _ {X : Type 0} (m : map.FinMap nat_cmp X) (one : map.len m ≡ 1) where
  -- what stands in a map of one child is its only one
  pub only_there : (b : ℕ) (x : X) → b < 256 → map.get m b ≡ Some x → IsOnly m x
  only_there b x low here =
      let p = only_pair m one in
      let k = p.0 in let y = p.1 in let e : m ≡ map.insert map.empty k y = p.2 in
      elim (same_or_not b k) [
        | inl q ↦ (let z : Some x ≡ Some y = sym here ∙ (ap (map.get m) q ∙ (ap (λ z. map.get z k) e ∙ insert_at map.empty k y)) in
            let w : x ≡ y = cc in
            record { byte = b; low = low; is = e ∙ (ap (λ n. map.insert map.empty n y) (sym q) ∙ ap (map.insert map.empty b) (sym w)) })
        | inr ne ↦ (let z : Some x ≡ None = sym here ∙ (ap (λ z. map.get z b) e ∙ (insert_beside map.empty k y b ne ∙ map.get-empty _ b)) in absurd (cc))
      ]

  -- a map of one child has one from byte 0 on
  pub never_bare : ((q : ℕ) → 0 ≤ q → map.get m q ≡ None) → ⊥
  never_bare none =
      let p = only_pair m one in
      let z : Some p.1 ≡ None = sym (ap (λ n. map.get n p.0) p.2 ∙ insert_at map.empty p.0 p.1) ∙ none p.0 (omega arith) in cc

-- no leaf lies where something else is
pub no_lone : {P : Type 0} (c : Child ℕ (Lone P)) → ((lone : Lone P) → c ≡ Value lone → ⊥) → lone_in (Some c) ≡ None
no_lone Blank ne = refl
no_lone (Sub slot) ne = refl
no_lone (Value lone) ne = absurd (ne lone refl)

module _ {P K : Type 0} (s : Slab (Slot P K)) (v : Nodes P) (is : nodes_in s ≡ v) (inline : ℕ) (st : IsStored s inline) (at i : ℕ) (byte : Option ℕ) (name : 257 * i + offset_of byte ≡ at) (fits : IsByte byte)
    (stands : ContainsKey v at) (inner : (y : Node ℕ P) → get v at ≡ Some y → length (prefix_of y) < 7) (alone : (y : Node ℕ P) → get v at ≡ Some y → HasOneNode y) where
  there : (y : Node ℕ P) × (get v at ≡ Some y)
  there = node_at v at stands

  hangs : HasOneNode there.0
  hangs = alone there.0 there.1

  here : AtInner s v at i there.0
  here = at_inner s v is at i byte name fits st.kinds there.0 there.1 (inner there.0 there.1)

  module _ (x : Slot P K) (e : get s i ≡ Some x) where
    is_here : x ≡ Inner here.node
    is_here = inner_slot s v at i there.0 here x e

    -- the slot's node has one child
    pub only_len : len_in x ≡ 1
    only_len = ap len_in is_here ∙ (sym (with_len (inner_child i) here.node) ∙ (ap (λ n. map.len (children_of n)) here.seen ∙ (ap map.len hangs.children ∙ len_one hangs.byte (Sub hangs.child))))

    -- what it had
    module _ (c : Child ℕ (Lone P)) (has : HasOnly x c) (s' : Slab (Slot P K)) (u : Updates s s' i None) where
      only : IsOnly (children_of here.node) c
      only = subst (λ w. HasOnly w c) is_here has

      seen_only : children_of there.0 ≡ map.insert map.empty only.byte (inner_child i only.byte c)
      seen_only =
          ap children_of (sym here.seen)
          ∙ (with_mapped (inner_child i) here.node
          ∙ (ap (mapped (inner_child i)) only.is ∙ (mapped_insert (inner_child i) map.empty only.byte c ∙ ap (λ m. map.insert m only.byte (inner_child i only.byte c)) (mapped_empty (inner_child i)))))

      lies : in_slot i (get s i) (suc only.byte) ≡ lone_in (Some c)
      lies = ap (λ o. in_slot i o (suc only.byte)) here.stands ∙ ap lone_in (ap (λ m. map.get m only.byte) only.is ∙ insert_at map.empty only.byte c)

      beside : (b : ℕ) → b ≢ only.byte → in_slot i (get s i) (suc b) ≡ None
      beside b ne = ap (λ o. in_slot i o (suc b)) here.stands ∙ ap lone_in (ap (λ m. map.get m b) only.is ∙ (insert_beside map.empty only.byte c b ne ∙ map.get-empty _ b))

      -- a node with a slot of its own
      module _ (plain : lone_in (Some c) ≡ None) where
        none : (b : ℕ) → in_slot {P = P} {K = K} i None (suc b) ≡ in_slot i (get s i) (suc b)
        none b = elim (same_or_not b only.byte) [
          | inl q ↦ (let Q : ℕ → Type 0 = λ z. None ≡ in_slot i (get s i) (suc z) in subst Q (sym q) (sym (lies ∙ plain)))
          | inr ne ↦ sym (beside b ne)
        ]

        -- where a node with a slot was given, the slots are sound, with as many leaves in places
        pub plain_stored : s'.capacity ≡ s.capacity → slab_len s' + 1 ≡ slab_len s → IsStored s' inline
        plain_stored cap len = let r = st.room in slot_stored s s' i inline None st u none tt cap (omega (arith, r, cap, len))

        plain_gone : Updates v (nodes_in s') at None
        plain_gone = subst (λ k. Updates v (nodes_in s') k None) (sym here.name) (subst (λ w. Updates w (nodes_in s') (257 * i) None) is (slot_updates s s' i None u none))

      -- a leaf
      module _ (lone : Lone P) (q : c ≡ Value lone) where
        abbrev leaf : ℕ
        leaf = 257 * i + (only.byte + 1)

        others : (m : ℕ) → m ≢ at → m ≢ leaf → get (nodes_in s') m ≡ get v m
        others m na nl = elim (same_or_not (m / 257) i) [
          | inr ne ↦ beside_slot s s' i None u m ne ∙ ap (λ w. get w m) is
          | inl p ↦ (let k : m ≡ 257 * i + m % 257 = in_offset i m p in
              let a = here.name in
              let Q : ℕ → Type 0 = λ z. get (nodes_in s') z ≡ get v z in
              subst Q (sym k) (of (m % 257) (λ w. na (omega (arith, k, w, a))) (λ w. nl (omega (arith, k, w))) (low_offset m)))
        ]
          where
            of : (j : ℕ) → j ≢ 0 → j ≢ suc only.byte → j < 257 → get (nodes_in s') (257 * i + j) ≡ get v (257 * i + j)
            of zero n0 nb l = absurd (n0 refl)
            of (suc b) n0 nb l =
                get_offset s' i (suc b) l
                ∙ (ap (λ o. in_slot i o (suc b)) u.changed ∙ (sym (beside b (λ w. nb (ap suc w))) ∙ (sym (get_offset s i (suc b) l) ∙ ap (λ w. get w (257 * i + suc b)) is)))

        now_at : get (nodes_in s') at ≡ None
        now_at = ap (get (nodes_in s')) here.name ∙ (get_slot s' i ∙ ap (λ o. in_slot i o 0) u.changed)

        now_leaf : get (nodes_in s') leaf ≡ None
        now_leaf = get_inline s' i only.byte only.low ∙ ap (λ o. in_slot i o (suc only.byte)) u.changed

        in_view : get (nodes_in s) leaf ≡ Some (lone_node lone)
        in_view = get_inline s i only.byte only.low ∙ (lies ∙ ap (λ z. lone_in (Some z)) q)

        was_leaf : get v leaf ≡ Some (lone_node lone)
        was_leaf = ap (λ w. get w leaf) (sym is) ∙ in_view

        -- where a leaf was given, some leaf lay in its parent's place
        pub lone_some : 0 < inline
        lone_some =
            let more = lone_counts s i only.byte only.low (subst IsSome (sym in_view) refl) in
            let k = st.counted in omega (arith, more, k)

        -- where a leaf was given, the slots are sound, with one leaf less in a place
        pub lone_stored : s'.capacity ≡ s.capacity → slab_len s' + 1 ≡ slab_len s → IsStored s' (inline - 1)
        lone_stored cap len =
            let a = here.name in
            let two = len_two v (nodes_in s') at leaf (λ w. absurd (omega (arith, w, a))) others in
            let b : count_if_some (get v at) ≡ 1 = ap count_if_some there.1 in
            let d : count_if_some (get v leaf) ≡ 1 = ap count_if_some was_leaf in
            let f : count_if_some (get (nodes_in s') at) ≡ 0 = ap count_if_some now_at in
            let h : count_if_some (get (nodes_in s') leaf) ≡ 0 = ap count_if_some now_leaf in
            let l : slab_len (nodes_in s) ≡ slab_len v = ap slab_len is in
            let k = st.counted in let r = st.room in let z = lone_some in
            record {
              counted = omega (arith, two, b, d, f, h, l, k, z, len);
              room = omega (arith, r, cap, len);
              kinds = λ j. elim (same_or_not j i) [
                | inl z ↦ (let Q : ℕ → Type 0 = λ w. HasKind (get s' w) in subst Q (sym z) (subst HasKind (sym u.changed) tt))
                | inr ne ↦ subst HasKind (sym (u.others j ne)) (st.kinds j)
              ];
            }

      given : GivesOnly v (nodes_in s') at there.0 c
      given = of c refl
        where
          of : (d : Child ℕ (Lone P)) → c ≡ d → GivesOnly v (nodes_in s') at there.0 d
          of Blank q =
              let a : Child ℕ P = Blank in let d : Child ℕ P = Sub hangs.child in
              let z : a ≡ d = one_value only.byte hangs.byte a d (sym (seen_only ∙ ap (λ w. map.insert map.empty only.byte (inner_child i only.byte w)) q) ∙ hangs.children) in
              absurd (cc)
          of (Sub slot) q = record {
            byte = only.byte;
            only = seen_only ∙ ap (λ w. map.insert map.empty only.byte (inner_child i only.byte w)) q;
            gone = plain_gone (ap (λ z. lone_in (Some z)) q);
          }
          of (Value lone) q = record {
            byte = only.byte;
            leaf = leaf lone q;
            only = seen_only ∙ ap (λ w. map.insert map.empty only.byte (inner_child i only.byte w)) q;
            stood = was_leaf lone q;
            left = now_leaf lone q;
            gone = now_at lone q;
            others = others lone q;
          }

      -- the tree sees the node go and its only child given
      pub take_gives : (y : Node ℕ P) → get v at ≡ Some y → GivesOnly v (nodes_in s') at y c
      take_gives y h = subst (λ z. GivesOnly v (nodes_in s') at z c) (one_node v at there.0 y there.1 h) given

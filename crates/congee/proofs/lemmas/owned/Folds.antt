-- A leaf with one value comes into its parent's place.
use Rattle.std.proofs.Common.{◌≡◌, ◌≢◌, ℕ, ◌<◌, ◌≤◌, inl, inr, List, length, take, get_or, refl, sym, ap, subst, ◌∙◌, arith}
use Rattle.std.specs.Prelude.{None, Some}
use Rattle.std.specs.FinMap as map
use Rattle.std.proofs.lemmas.Grind.{same_number_lists}
use Rattle.std.proofs.lemmas.List.{get_or-take, length-take-le}
use Rattle.slab.specs.Slab.{get, ContainsKey, HasRoomFor, Updates}
use Rattle.congee.specs.forms.Bytes.{IsFirst}
use Rattle.congee.specs.forms.Forms.{children_of, prefix_of}
use Rattle.congee.specs.owned.Arena.{Nodes}
use Rattle.congee.specs.owned.Entries.{first_byte}
use Rattle.congee.specs.owned.Kinds.{IsValue}
use Rattle.congee.specs.owned.Naming.{HasOwnSlot}
use Rattle.congee.specs.owned.OwnedSteps.{Sets}
use Rattle.congee.specs.owned.Stores.{Folds, HangsLeaf, HasNode, HasOne}
use Rattle.congee.specs.declared.forms.base_node.Node.{Node}
use Rattle.congee.specs.declared.forms.child.Child.{Child}
use Rattle.congee.specs.declared.forms.child.Child.TheVariants.{Node as Sub, Value}
use Rattle.congee.proofs.lemmas.Tree.{same_or_not}
use Rattle.congee.proofs.lemmas.owned.Folding.{fold_done}
use Rattle.congee.proofs.lemmas.owned.Moves.{insert_at, insert_beside, node_at, one_node}
use Rattle.congee.proofs.lemmas.owned.SlotLens.{count_if_some, len_update}

-- a key's first seven bytes
key_prefix : (p key : List ℕ) → length p ≡ 7 → length key ≡ 8 → ((j : ℕ) → j < 7 → get_or key j 0 ≡ get_or p j 0) → take 7 key ≡ p
key_prefix p key seven whole bytes =
    let l : length (take 7 key) ≡ 7 = length-take-le 7 key (omega (arith, whole)) in
    same_number_lists (take 7 key) p (l ∙ sym seven) (λ k h. let low : k < 7 = omega (arith, h, l) in get_or-take 7 key k 0 low ∙ bytes k low)

module _ {P : Type 0} (v : Nodes P) (at leaf : ℕ) (stands : ContainsKey v at) (inner : (y : Node ℕ P) → get v at ≡ Some y → length (prefix_of y) < 7) (below : ContainsKey v leaf) (one : (x : Node ℕ P) → get v leaf ≡ Some x → HasOne x) where
  there : (y : Node ℕ P) × (get v at ≡ Some y)
  there = node_at v at stands

  lies : (x : Node ℕ P) × (get v leaf ≡ Some x)
  lies = node_at v leaf below

  has : HasOne lies.0
  has = one lies.0 lies.1

  fold_apart : at ≢ leaf
  fold_apart w =
      let q : there.0 ≡ lies.0 = one_node v leaf there.0 lies.0 (ap (get v) (sym w) ∙ there.1) lies.1 in
      let p : length (prefix_of there.0) ≡ length (prefix_of lies.0) = ap (λ n. length (prefix_of n)) q in
      let l = inner there.0 there.1 in let s = has.lone.prefix in
      omega (arith, p, l, s)

  here : map.get (children_of lies.0) has.last ≡ Some (Value has.value)
  here = ap (λ m. map.get m has.last) has.lone.children ∙ insert_at map.empty has.last (Value has.value)

  -- what is read as the leaf's prefix has seven bytes
  pub fold_whole : (p : List ℕ) → ((x : Node ℕ P) → get v leaf ≡ Some x → p ≡ prefix_of x) → length p ≡ 7
  fold_whole p prefix = ap length (prefix lies.0 lies.1) ∙ has.lone.prefix

  -- it has a child
  pub not_bare : ((x : Node ℕ P) → get v leaf ≡ Some x → (b : ℕ) → 0 ≤ b → map.get (children_of x) b ≡ None) → ⊥
  not_bare none = let c : Child ℕ P = Value has.value in let z : None ≡ Some c = sym (none lies.0 lies.1 has.last (omega arith)) ∙ here in cc

  -- the first of its children is its value
  module _ (last : ℕ) (c : Child ℕ P) (first : (x : Node ℕ P) → get v leaf ≡ Some x → IsFirst (children_of x) 0 last c) where
    beside : (q : ℕ) → q ≢ has.last → map.get (children_of lies.0) q ≡ None
    beside q ne = ap (λ m. map.get m q) has.lone.children ∙ (insert_beside map.empty has.last (Value has.value) q ne ∙ map.get-empty _ q)

    last_is : last ≡ has.last
    last_is = elim (same_or_not last has.last) [
      | inl q ↦ q
      | inr ne ↦ (let z : Some c ≡ None = sym (first lies.0 lies.1).here ∙ beside last ne in absurd (cc))
    ]

    holds : map.get (children_of lies.0) last ≡ Some (Value has.value)
    holds = ap (map.get (children_of lies.0)) last_is ∙ here

    -- the first child of the leaf is a value
    pub fold_value : (x : Node ℕ P) → get v leaf ≡ Some x → IsValue (map.get (children_of x) last)
    fold_value x h =
        let q : lies.0 ≡ x = one_node v leaf lies.0 x lies.1 h in
        subst (λ n. IsValue (map.get (children_of n) last)) q (subst IsValue (sym holds) tt)

    -- the value went
    module _ (v1 : Nodes P) (takes : (x : Node ℕ P) → get v leaf ≡ Some x → Sets v v1 leaf x (map.remove (children_of x) last)) where
      taken : Sets v v1 leaf lies.0 (map.remove (children_of lies.0) last)
      taken = takes lies.0 lies.1

      -- the leaf still stands after its value was taken
      pub fold_left : ContainsKey v1 leaf
      fold_left = rw taken.updates.changed refl

      -- the leaf still has a prefix of seven bytes after its value was taken
      pub fold_seven : (x : Node ℕ P) → get v1 leaf ≡ Some x → length (prefix_of x) ≡ 7
      fold_seven x h =
          let q : taken.node ≡ x = one_node v1 leaf taken.node x taken.updates.changed h in
          ap (λ n. length (prefix_of n)) (sym q) ∙ (ap length taken.becomes.prefix ∙ has.lone.prefix)

      -- and then the leaf
      module _ (v2 : Nodes P) (gone : Updates v1 v2 leaf None) where
        kept : get v2 at ≡ get v at
        kept = gone.others at fold_apart ∙ taken.updates.others at fold_apart

        -- the node above still stands after the leaf went
        pub fold_stands : ContainsKey v2 at
        fold_stands = rw (kept ∙ there.1) refl

        -- the node above still is an inner node after the leaf went
        pub fold_inner : (y : Node ℕ P) → get v2 at ≡ Some y → length (prefix_of y) < 7
        fold_inner y h = inner y (sym kept ∙ h)

        -- after the leaf went there is room for one more node
        pub fold_room : HasRoomFor v 0 → v1.capacity ≡ v.capacity → v2.capacity ≡ v1.capacity → HasRoomFor v2 1
        fold_room room c1 c2 =
            let l1 = len_update v v1 leaf (Some taken.node) taken.updates in
            let a : count_if_some (get v leaf) ≡ 1 = ap count_if_some lies.1 in
            let l2 = len_update v1 v2 leaf None gone in
            let d : count_if_some (get v1 leaf) ≡ 1 = ap count_if_some taken.updates.changed in
            omega (arith, l1, a, l2, d, room, c1, c2)

        -- its key begins with the byte that led to it
        pub fold_first : (b : ℕ) → ((x y : Node ℕ P) → get v at ≡ Some x → get v leaf ≡ Some y → get_or (prefix_of y) 0 0 ≡ first_byte (prefix_of x) b)
            → (key p : List ℕ) → ((x : Node ℕ P) → get v leaf ≡ Some x → p ≡ prefix_of x) → get_or key 0 0 ≡ get_or p 0 0 → (x : Node ℕ P) → get v2 at ≡ Some x → get_or key 0 0 ≡ first_byte (prefix_of x) b
        fold_first b begins key p prefix first x h = first ∙ (ap (λ q. get_or q 0 0) (prefix lies.0 lies.1) ∙ begins x lies.0 (sym kept ∙ h) lies.1)

        module _ (b : ℕ) (present : (y : Node ℕ P) → get v at ≡ Some y → map.get (children_of y) b ≡ Some (Sub leaf)) (own : HasOwnSlot leaf) where
          -- under the byte that led to the leaf the node above still has a child with a slot
          pub fold_present : (y : Node ℕ P) → get v2 at ≡ Some y → HasNode (map.get (children_of y) b)
          fold_present y h = subst HasNode (sym (present y (sym kept ∙ h))) own

          -- a leaf for the same key lies in its parent's place
          pub fold_folds : (v3 : Nodes P) (key p : List ℕ) (value : P) → ((x : Node ℕ P) → get v leaf ≡ Some x → p ≡ prefix_of x) → length key ≡ 8 → ((j : ℕ) → j < 7 → get_or key j 0 ≡ get_or p j 0) → get_or key 7 0 ≡ last
              → ((x : Node ℕ P) → get v leaf ≡ Some x → Some (Value value) ≡ map.get (children_of x) last) → ((z : Node ℕ P) → get v2 at ≡ Some z → HangsLeaf v2 v3 at z b key value) → Folds v v3 at b leaf
          fold_folds v3 key p value prefix whole bytes end was hangs =
              let form = has.lone.form in
              let px = prefix lies.0 lies.1 in
              let seven : length p ≡ 7 = ap length px ∙ has.lone.prefix in
              let a : Child ℕ P = Value value in let d : Child ℕ P = Value has.value in
              let same : Some a ≡ Some d = was lies.0 lies.1 ∙ holds in
              let q : d ≡ a = cc in
              let at_end : has.last ≡ get_or key 7 0 = sym (end ∙ last_is) in
              let children : children_of lies.0 ≡ map.insert map.empty (get_or key 7 0) (Value value) = has.lone.children ∙ (ap (λ k. map.insert map.empty k d) at_end ∙ ap (λ c. map.insert map.empty (get_or key 7 0) c) q) in
              fold_done v v1 v2 v3 at b leaf there.0 lies.0 key value there.1 lies.1 (present there.0 there.1) fold_apart (λ m ne. taken.updates.others m ne) gone hangs (λ z h w. h.inline (subst HasOwnSlot (sym w) own)) form (sym px ∙ sym (key_prefix p key seven whole bytes)) children

-- A node comes into the place of a leaf with one value, over that leaf and one for the key.
use Rattle.std.proofs.Common.{◌≡◌, ◌≢◌, ℕ, ◌+◌, ◌<◌, false, inl, inr, Bool, List, length, take, get_or, refl, sym, ap, subst, ◌∙◌, arith}
use Rattle.std.specs.Prelude.{Some, None}
use Rattle.std.specs.FinMap as map
use Rattle.slab.specs.Slab.{get, ContainsKey, HasRoomFor, Updates, with_value}
use Rattle.slab.proofs.SlabLemmas.{Updates-with_value}
use Rattle.congee.specs.Heap.{Below, child_for, fits}
use Rattle.congee.specs.forms.Forms.{children_of, form_of, is_full_of, prefix_of}
use Rattle.congee.specs.owned.Arena.{IsTree, Nodes, OnWay, heap_of, node_of}
use Rattle.congee.specs.owned.Changes.{DiffersAt, MapChange}
use Rattle.congee.specs.owned.Entries.{first_byte}
use Rattle.congee.specs.owned.Full.{NodesFilled}
use Rattle.congee.specs.owned.Naming.{HasOwnSlot}
use Rattle.congee.specs.owned.OwnedSteps.{Makes, Sets}
use Rattle.congee.specs.owned.Renames.{Renamed, Renames}
use Rattle.congee.specs.owned.Sizes.{bytes_of}
use Rattle.congee.specs.owned.Stores.{CoversLeaf, HangsLeaf}
use Rattle.congee.specs.declared.forms.base_node.Node.{Node}
use Rattle.congee.specs.declared.forms.base_node.Node.TheVariants.{N4}
use Rattle.congee.specs.declared.forms.child.Child.TheVariants.{Node as Sub, Value}
use Rattle.congee.proofs.lemmas.Tree.{same_or_not}
use Rattle.congee.proofs.lemmas.owned.Firsts.{first_below}
use Rattle.congee.proofs.lemmas.owned.Folding.{one_child, same_least}
use Rattle.congee.proofs.lemmas.owned.FullSteps.{fork_filled}
use Rattle.congee.proofs.lemmas.owned.Hangings.{Forked, child_there, fork_hung, forked_at, hung_absent, hung_inner, hung_room}
use Rattle.congee.proofs.lemmas.owned.Moves.{apart_of, insert_at, node_at, one_node}
use Rattle.congee.proofs.lemmas.owned.Renaming.{renamed, renamed_change}
use Rattle.congee.proofs.lemmas.owned.SlotLens.{count_if_some, len_two}
use Rattle.congee.proofs.lemmas.owned.SlotValues.{insert_again}
use Rattle.congee.proofs.lemmas.owned.Ways.{below_stands}
use Rattle.std.proofs.lemmas.List.{get_or-take}

module _ {P : Type 0} (s0 s1 s2 : Nodes P) (key : List ℕ) (common over other below : ℕ) (v : P) (at up : ℕ) (t : IsTree s0) (w : OnWay s0 key at) (h : child_for (heap_of s0 at) key ≡ Below below)
    (up_is : up ≡ get_or key (length (heap_of s0 at).prefix) 0)
    (parts : (x : Node ℕ P) → get s0 below ≡ Some x → DiffersAt key (prefix_of x) common) (other_is : (x : Node ℕ P) → get s0 below ≡ Some x → other ≡ get_or (prefix_of x) common 0)
    (made : Makes s0 s1 over (take common key)) (hangs : HangsLeaf s1 s2 over made.node (get_or key common 0) key v) where
  upper : (x : Node ℕ P) × (get s0 at ≡ Some x)
  upper = node_at s0 at w.stands

  lower : (x : Node ℕ P) × (get s0 below ≡ Some x)
  lower = node_at s0 below (below_stands s0 t at below key w.stands h)

  over_apart : (n : ℕ) (x : Node ℕ P) → get s0 n ≡ Some x → n ≢ over
  over_apart n x e = apart_of s0 n over x e made.vacant

  kept : (n : ℕ) (x : Node ℕ P) → get s0 n ≡ Some x → get s2 n ≡ get s0 n
  kept n x e =
      let no = over_apart n x e in
      let one = made.updates.others n no in
      hangs.others n no (apart_of s1 n hangs.leaf x (one ∙ e) hangs.vacant) ∙ one

  -- the node above is as it was
  pub cover_at : get s2 at ≡ get s0 at
  cover_at = kept at upper.0 upper.1

  module _ (s3 : Nodes P) (lone : List ℕ) (held : P) (covers : (x : Node ℕ P) → get s2 at ≡ Some x → CoversLeaf s2 s3 at x up over lone held) where
    cover : CoversLeaf s2 s3 at upper.0 up over lone held
    cover = covers upper.0 (cover_at ∙ upper.1)

    is_below : cover.leaf ≡ below
    is_below = let z : Some (Sub cover.leaf) ≡ Some (Sub below) = sym cover.child ∙ child_there s0 t key at below w.stands h upper.0 upper.1 up up_is in cc

    below_apart : below ≢ at
    below_apart e = let a = is_below in let c = cover.named in omega (arith, a, c, e)

    -- the new node, which has the leaf for the key alone
    over_now : get s3 over ≡ Some hangs.node
    over_now = cover.others over (λ q. over_apart at upper.0 upper.1 (sym q)) (λ q. over_apart below lower.0 lower.1 (sym (q ∙ is_below))) ∙ hangs.now

    same_over : get s2 over ≡ get s3 over
    same_over = hangs.now ∙ sym over_now

    -- the new node stands after the leaf in its way went
    pub cover_stands : ContainsKey s3 over
    cover_stands = rw over_now refl

    -- the new node is no leaf
    pub cover_inner : length (take common key) < 7 → (x : Node ℕ P) → get s3 over ≡ Some x → length (prefix_of x) < 7
    cover_inner short x e = hung_inner s0 s1 s2 over _ _ key v made hangs short x (same_over ∙ e)

    -- the new node has nothing at the byte of the leaf that went
    pub cover_absent : get_or key common 0 ≢ other → (x : Node ℕ P) → get s3 over ≡ Some x → map.get (children_of x) other ≡ None
    cover_absent ne x e = hung_absent s0 s1 s2 over _ _ key v made hangs other ne x (same_over ∙ e)

    -- the new node isn't full
    pub cover_full : (x : Node ℕ P) → get s3 over ≡ Some x → is_full_of x ≡ false
    cover_full x e = hung_room s0 s1 s2 over _ _ key v made hangs x (same_over ∙ e)

    -- the leaf's place is free
    pub cover_room : s2.capacity ≡ s1.capacity → s3.capacity ≡ s2.capacity → HasRoomFor s1 1 → HasRoomFor s3 1
    cover_room c2 c3 room =
        let one = len_two s1 s2 over hangs.leaf (apart_of s1 over hangs.leaf made.node made.updates.changed hangs.vacant) hangs.others in
        let a : count_if_some (get s1 over) ≡ 1 = ap count_if_some made.updates.changed in
        let b : count_if_some (get s1 hangs.leaf) ≡ 0 = ap count_if_some hangs.vacant in
        let c : count_if_some (get s2 over) ≡ 1 = ap count_if_some hangs.now in
        let d : count_if_some (get s2 hangs.leaf) ≡ 1 = ap count_if_some hangs.taken in
        let two = len_two s2 s3 at cover.leaf (λ q. below_apart (sym (q ∙ is_below))) cover.others in
        let i : count_if_some (get s2 at) ≡ 1 = ap count_if_some (cover_at ∙ upper.1) in
        let j : count_if_some (get s2 cover.leaf) ≡ 1 = ap count_if_some cover.stood in
        let k : count_if_some (get s3 at) ≡ 1 = ap count_if_some cover.now in
        let l : count_if_some (get s3 cover.leaf) ≡ 0 = ap count_if_some cover.left in
        omega (arith, one, a, b, c, d, two, i, j, k, l, c2, c3, room)

    -- the nodes if the leaf kept its name: first the new node over it, and then that one in its place
    abbrev fork : Node ℕ P
    fork = N4 (record { prefix = prefix_of hangs.node; children = map.insert (children_of hangs.node) other (Sub below) })

    fork_form : form_of fork ≡ form_of hangs.node
    fork_form = sym (hangs.becomes.form ∙ made.form)

    abbrev forking : Nodes P
    forking = with_value s2 over fork

    forking_updates : Updates s2 forking over (Some fork)
    forking_updates = Updates-with_value s2 over fork (rw hangs.now refl)

    abbrev hanging : Nodes P
    hanging = with_value forking at cover.node

    forking_at : get forking at ≡ Some upper.0
    forking_at = forking_updates.others at (over_apart at upper.0 upper.1) ∙ (cover_at ∙ upper.1)

    hanging_updates : Updates forking hanging at (Some cover.node)
    hanging_updates = Updates-with_value forking at cover.node (rw forking_at refl)

    forked : Forked s0 s1 s2 forking key common over other below v
    forked = record {
      lower = lower.0;
      stands = lower.1;
      parts = parts lower.0 lower.1;
      other_is = other_is lower.0 lower.1;
      made = made;
      hangs = hangs;
      forks = record { node = fork; becomes = record { form = fork_form; prefix = refl; children = refl }; updates = forking_updates };
    }

    sets : (x : Node ℕ P) → get forking at ≡ Some x → Sets forking hanging at x (map.insert (children_of x) up (Sub over))
    sets x e = subst (λ z. Sets forking hanging at z (map.insert (children_of z) up (Sub over))) (one_node forking at upper.0 x forking_at e) (record { node = cover.node; becomes = cover.becomes; updates = hanging_updates })

    module _ (len : length key ≡ 8) (df : fits (heap_of s0 below).prefix key ≡ false) where
      hung : (IsTree hanging × MapChange s0 hanging key None (Some v)) × (bytes_of hanging ≡ bytes_of s0 + 128)
      hung = fork_hung s0 s1 s2 forking key common over other below v forked hanging at up len t w h df (up_is ∙ ap (λ o. get_or key (length (node_of o).prefix) 0) (upper.1 ∙ sym forking_at)) sets

      stood : get s2 below ≡ Some lower.0
      stood = kept below lower.0 lower.1 ∙ lower.1

      stays : get hanging below ≡ Some lower.0
      stays = hanging_updates.others below below_apart ∙ (forking_updates.others below (over_apart below lower.0 lower.1) ∙ stood)

      fork_stands : get hanging over ≡ Some fork
      fork_stands = hanging_updates.others over (λ q. over_apart at upper.0 upper.1 (sym q)) ∙ forking_updates.changed

      was_is : cover.was ≡ lower.0
      was_is = one_node s2 below cover.was lower.0 (subst (λ n. get s2 n ≡ Some cover.was) is_below cover.stood) stood

      -- the leaf's key begins with the byte that leads there
      pub cover_begins : (x : Node ℕ P) → get s3 over ≡ Some x → get_or lone 0 0 ≡ first_byte (prefix_of x) other
      cover_begins x e =
          let first = first_below hanging hung.0.0 over other below fork lower.0 fork_stands stays (insert_at (children_of hangs.node) other (Sub below)) in
          let p : prefix_of lower.0 ≡ take 7 lone = ap prefix_of (sym was_is) ∙ cover.has.prefix in
          let same : hangs.node ≡ x = one_node s3 over hangs.node x over_now e in
          sym (get_or-take 7 lone 0 0 (omega arith)) ∙ (ap (λ q. get_or q 0 0) (sym p) ∙ (first ∙ ap (λ n. first_byte (prefix_of n) other) same))

      -- the leaf under its new name
      module _ (s4 : Nodes P) (own : HasOwnSlot over) (low : up < 256) (low_other : other < 256) (puts : (x : Node ℕ P) → get s3 over ≡ Some x → HangsLeaf s3 s4 over x other lone held) where
        put : HangsLeaf s3 s4 over hangs.node other lone held
        put = puts hangs.node over_now

        new_at : put.leaf ≢ at
        new_at q = apart_of s3 at put.leaf cover.node cover.now put.vacant (sym q)

        new_over : put.leaf ≢ over
        new_over q = apart_of s3 over put.leaf hangs.node over_now put.vacant (sym q)

        new_below : put.leaf ≢ below
        new_below q =
            let ne = over_apart at upper.0 upper.1 in
            let a = is_below in let c = cover.named in let d = cover.own in let n = put.named in
            ne (omega (arith, q, a, c, d, n, own, low, low_other))

        made_is : put.made ≡ lower.0
        made_is =
            let one = one_child (children_of put.made) (get_or lone 7 0) (Value held) put.has.value put.has.beside in
            let was = one_child (children_of cover.was) (get_or lone 7 0) (Value held) cover.has.value cover.has.beside in
            same_least put.made cover.was put.form cover.form (put.has.prefix ∙ sym cover.has.prefix) (one ∙ sym was) ∙ was_is

        renames : Renames hanging s4 over other below put.leaf
        renames = record {
          old = fork;
          new = put.node;
          node = lower.0;
          was = fork_stands;
          child = insert_at (children_of hangs.node) other (Sub below);
          stood = stays;
          free = hanging_updates.others put.leaf new_at ∙ (forking_updates.others put.leaf new_over ∙ (sym (cover.others put.leaf new_at (λ q. new_below (q ∙ is_below))) ∙ put.vacant));
          now = put.now;
          becomes = record { form = put.becomes.form ∙ sym fork_form; prefix = put.becomes.prefix; children = put.becomes.children ∙ sym (insert_again (children_of hangs.node) other (Sub below) (Sub put.leaf)) };
          stands = put.taken ∙ ap Some made_is;
          left = put.others below (over_apart below lower.0 lower.1) (λ q. new_below (sym q)) ∙ subst (λ n. get s3 n ≡ None) is_below cover.left;
          others = λ m no nb nn. put.others m no nn ∙ elim (same_or_not m at) [
            | inl q ↦ (let Q : ℕ → Type 0 = λ n. get s3 n ≡ get hanging n in subst Q (sym q) (cover.now ∙ sym hanging_updates.changed))
            | inr na ↦ cover.others m na (λ q. nb (q ∙ is_below)) ∙ sym (hanging_updates.others m na ∙ forking_updates.others m no)
          ];
        }

        renaming : Renamed hanging s4
        renaming = renamed hanging s4 over other below put.leaf hung.0.0 renames

        -- the nodes are a tree with the leaf under its new name
        pub cover_tree : IsTree s4
        cover_tree = renaming.tree

        -- the key's value alone came into the map
        pub cover_change : MapChange s0 s4 key None (Some v)
        cover_change = renamed_change s0 hanging s4 key None (Some v) hung.0.1 renaming

        -- the sizes grow by those of the new node and of one leaf
        pub cover_bytes : bytes_of s4 ≡ bytes_of s0 + 128
        cover_bytes = renaming.bytes ∙ hung.1

        -- the nodes have enough children if they had
        pub cover_filled : (by_form : Bool) → NodesFilled by_form s0 → NodesFilled by_form s4
        cover_filled by_form f =
            let same : get forking at ≡ get s0 at = forked_at s0 s1 s2 forking key common over other below v forked at w.stands in
            renaming.filled by_form (fork_filled by_form s0 s1 s2 forking hanging key common over other below at up v forked len w.stands (λ x e. child_there s0 t key at below w.stands h x (sym same ∙ e) up up_is) sets f)

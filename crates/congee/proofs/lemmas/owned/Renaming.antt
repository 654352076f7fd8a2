-- A node of an arena takes another name: the tree, its map and its room stay.
use Rattle.std.proofs.Common.{◌≡◌, ◌≢◌, ℕ, ◌==◌, ◌+◌, inl, inr, cond, Bool, List, length, refl, sym, ap, subst, ◌∙◌, arith}
use Rattle.std.specs.Prelude.{Option, None, Some, is_some}
use Rattle.slab.specs.Slab.{get}
use Rattle.congee.specs.Heap.{Below, value_at}
use Rattle.congee.specs.Notes.{Linked, Gone, IsChild}
use Rattle.congee.specs.forms.Forms.{form_of, size_of}
use Rattle.congee.specs.owned.Arena.{Nodes, hung_in, node_of, heap_of, notes_of, IsFilled, IsTree}
use Rattle.congee.specs.owned.Changes.{Differs, MapChange}
use Rattle.congee.specs.owned.Edits.{Edits, Adds}
use Rattle.congee.specs.owned.Full.{HasEnough, NodesFilled}
use Rattle.congee.specs.owned.Renames.{Renames, Renamed}
use Rattle.congee.specs.owned.Sizes.{bytes_at, bytes_of}
use Rattle.congee.specs.owned.Wanted.{InsertionFits, gain_of}
use Rattle.congee.specs.declared.owned.arena.Arena.{Arena}
use Rattle.congee.specs.declared.forms.child.Child.TheVariants.{Node as Sub}
use Rattle.congee.proofs.lemmas.Fits.{same_test, other_test}
use Rattle.congee.proofs.lemmas.Rename.{Moves, in_place, move_tree, move_map}
use Rattle.congee.proofs.lemmas.Tree.{same_or_not}
use Rattle.congee.proofs.lemmas.owned.Edits.{wide_after}
use Rattle.congee.proofs.lemmas.owned.Filled.{filled_at, filled_with, filled_none}
use Rattle.congee.proofs.lemmas.owned.Fulls.{changed_enough, filled_then, holds_of_same}
use Rattle.congee.proofs.lemmas.owned.Moves.{differs_insert, stands_at}
use Rattle.congee.proofs.lemmas.owned.Sizes.{bytes_named}
use Rattle.congee.proofs.lemmas.owned.Totals.{total_same, total_update}
use Rattle.congee.proofs.lemmas.owned.Ways.{linked_of}

module _ {P : Type 0} (s s' : Nodes P) (p b n m : ℕ) (t : IsTree s) (k : Renames s s' p b n m) where
  differs : Differs k.old k.new b (Some (Sub m))
  differs = differs_insert k.old k.new b (Sub m) k.becomes

  hp : heap_of s p ≡ node_of (Some k.old)
  hp = ap node_of k.was

  hq : heap_of s' p ≡ node_of (Some k.new)
  hq = ap node_of k.now

  abbrev parent : ℕ → ℕ
  parent x = cond (x == m) p (in_place n m (t.parent x))

  above : (notes_of s t.parent p).status ≡ Linked
  above = linked_of s t.parent p (stands_at s p k.old k.was)

  hung : (heap_of s p).children b ≡ Below n
  hung = rw hp (ap hung_in k.child)

  hangs : IsChild (notes_of s t.parent) (heap_of s) p b n
  hangs = t.tree.down p b n above hung

  root_apart : 0 ≢ n
  root_apart e =
      let z : length (heap_of s n).prefix ≡ length (heap_of s 0).prefix = ap (λ y. length (heap_of s y).prefix) (sym e) in
      let y : length (heap_of s 0).prefix ≡ 0 = ap length t.tree.empty in
      absurd (omega (arith, hangs.longer))

  unlinked : (notes_of s t.parent m).status ≢ Linked
  unlinked h = let z : Gone ≡ Linked = rw k.free at h in cc

  left : (notes_of s' parent n).status ≢ Linked
  left h = let z : Gone ≡ Linked = rw k.left at h in cc

  stays : (x : ℕ) → x ≢ n → x ≢ m → (notes_of s' parent x).status ≡ (notes_of s t.parent x).status
  stays x nn nm = ap (λ o. cond o Linked Gone) (elim (same_or_not x p) [
    | inl e ↦ (let Q : ℕ → Type 0 = λ y. is_some (get s' y) ≡ is_some (get s y) in subst Q (sym e) (rw (k.now, k.was) refl))
    | inr np ↦ ap is_some (k.others x np nn nm)
  ])

  moves : Moves (notes_of s t.parent) (heap_of s) (notes_of s' parent) (heap_of s') p b n m
  moves = record {
    above = above;
    hung = hung;
    unlinked = unlinked;
    prefix = rw (hp, hq) differs.prefix;
    child = rw hq (ap hung_in differs.here);
    beside = λ c ne. rw (hp, hq) (ap hung_in (differs.beside c ne));
    same_prefix = ap (λ o. (node_of o).prefix) (k.stands ∙ sym k.stood);
    same_children = λ c. ap (λ o. (node_of o).children c) (k.stands ∙ sym k.stood);
    nodes = λ x nn nm np. ap node_of (k.others x np nn nm);
    joined = linked_of s' parent m (stands_at s' m k.node k.stands);
    left = left;
    stays = stays;
    parent = rw (same_test m m refl) refl;
    parents = λ x l nn. rw (other_test x m (λ e. unlinked (let Q : ℕ → Type 0 = λ y. (notes_of s t.parent y).status ≡ Linked in subst Q e l))) refl;
  }

  filled : (x : ℕ) → IsFilled (get s' x)
  filled x = elim (same_or_not x m) [
    | inl e ↦ filled_at s' x m (Some k.node) e k.stands (subst IsFilled k.stood (t.filled n))
    | inr nm ↦ elim (same_or_not x n) [
      | inl e ↦ filled_at s' x n None e k.left filled_none
      | inr nn ↦ elim (same_or_not x p) [
        | inl e ↦ filled_at s' x p (Some k.new) e k.now (filled_with k.new b (Sub m) differs.here)
        | inr np ↦ subst IsFilled (sym (k.others x np nn nm)) (t.filled x)
      ]
    ]
  ]

  root_new : 0 ≢ m
  root_new e = unlinked (let Q : ℕ → Type 0 = λ y. (notes_of s t.parent y).status ≡ Linked in subst Q e t.tree.root)

  renamed_is : IsTree s' × ((key : List ℕ) → value_at (heap_of s') key ≡ value_at (heap_of s) key)
  renamed_is = (
    record {
      parent = parent;
      tree = move_tree (notes_of s t.parent) (heap_of s) (notes_of s' parent) (heap_of s') p b n m t.tree moves;
      wide = wide_after s s' p k.old k.new t.wide k.was k.now differs.wide (λ ne. k.others 0 ne root_apart root_new);
      filled = filled;
    },
    move_map (notes_of s t.parent) (heap_of s) (notes_of s' parent) (heap_of s') p b n m t.tree moves,
  )

  -- what a name weighs before, with the old name given up, and with the new one taken
  weight : ℕ → ℕ
  weight x = bytes_at (get s x)

  weight_left : ℕ → ℕ
  weight_left x = cond (x == n) 0 (weight x)

  weight_after : ℕ → ℕ
  weight_after x = cond (x == m) (size_of (form_of k.node)) (weight_left x)

  bound : ℕ
  bound = length s.slots + length s'.slots + n + m + 1

  -- the same room is taken
  renamed_bytes : bytes_of s' ≡ bytes_of s
  unfolding weight weight_left weight_after bound
  renamed_bytes =
      let mn : m ≢ n = (λ e. unlinked (let Q : ℕ → Type 0 = λ y. (notes_of s t.parent y).status ≡ Linked in subst Q (sym e) hangs.linked)) in
      let old = bytes_named s bound (omega arith) in
      let new = bytes_named s' bound (omega arith) in
      let gone = total_update weight weight_left bound n (omega arith) (λ x ne. rw (other_test x n ne) refl) in
      let come = total_update weight_left weight_after bound m (omega arith) (λ x ne. rw (other_test x m ne) refl) in
      let at_n : weight_left n ≡ 0 = rw (same_test n n refl) refl in
      let had : weight n ≡ size_of (form_of k.node) = ap bytes_at k.stood in
      let at_m : weight_after m ≡ size_of (form_of k.node) = rw (same_test m m refl) refl in
      let none : weight_left m ≡ 0 = rw (other_test m n mn) (ap bytes_at k.free) in
      let all = total_same (λ x. bytes_at (get s' x)) weight_after bound (λ x l. elim (same_or_not x m) [
        | inl e ↦ (let Q : ℕ → Type 0 = λ y. bytes_at (get s' y) ≡ weight_after y in subst Q (sym e) (ap bytes_at k.stands ∙ sym at_m))
        | inr nm ↦ rw (other_test x m nm) (elim (same_or_not x n) [
          | inl e ↦ (let Q : ℕ → Type 0 = λ y. bytes_at (get s' y) ≡ weight_left y in subst Q (sym e) (ap bytes_at k.left ∙ sym at_n))
          | inr nn ↦ rw (other_test x n nn) (elim (same_or_not x p) [
            | inl e ↦ (let Q : ℕ → Type 0 = λ y. bytes_at (get s' y) ≡ weight y in subst Q (sym e) (ap bytes_at k.now ∙ (ap size_of k.becomes.form ∙ sym (ap bytes_at k.was))))
            | inr np ↦ ap bytes_at (k.others x np nn nm)
          ])
        ])
      ]) in
      omega (arith, old, new, gone, come, at_n, had, at_m, none, all)

module _ {P : Type 0} (s s' : Nodes P) (p b n m : ℕ) (t : IsTree s) (k : Renames s s' p b n m) where
  -- the node under its new name has as many children, and so has the one above
  renamed_filled : (by_form : Bool) → NodesFilled by_form s → NodesFilled by_form s'
  renamed_filled by_form h = filled_then by_form s s' h (λ x y ne e. elim (same_or_not x m) [
    | inl q ↦ inl (n, (λ z. root_apart s s' p b n m t k (sym z)), k.stood ∙ (sym k.stands ∙ (ap (λ w. get s' w) (sym q) ∙ e)))
    | inr nm ↦ elim (same_or_not x n) [
      | inl q ↦ absurd (let z : None ≡ Some y = sym k.left ∙ (ap (λ w. get s' w) (sym q) ∙ e) in cc)
      | inr nn ↦ elim (same_or_not x p) [
        | inl q ↦ inr (holds_of_same s' (HasEnough by_form) x p y k.new q e k.now (changed_enough by_form k.old k.new b (Sub m) (Sub n) k.child k.becomes (h p k.old (λ z. ne (q ∙ z)) k.was)))
        | inr np ↦ inl (x, ne, sym (k.others x np nn nm) ∙ e)
      ]
    ]
  ])

-- where a node takes another name, names alone changed
pub renamed : {P : Type 0} (s s' : Nodes P) (above byte before after : ℕ) → IsTree s → Renames s s' above byte before after → Renamed s s'
renamed s s' p b n m t k = let r = renamed_is s s' p b n m t k in record { tree = r.0; values = r.1; bytes = renamed_bytes s s' p b n m t k; filled = renamed_filled s s' p b n m t k }

module _ {P : Type 0} where
  -- the map changes as it does beside a renaming
  pub change_renamed : (s s' s'' : Nodes P) (key : List ℕ) (before after : Option P) → Renamed s s' → MapChange s' s'' key before after → MapChange s s'' key before after
  change_renamed s s' s'' key before after r c = record {
    was = sym (r.values key) ∙ c.was;
    now = c.now;
    others = λ k l ne. c.others k l ne ∙ r.values k;
  }

  -- a change of the map is one with a renaming after it
  pub renamed_change : (s s' s'' : Nodes P) (key : List ℕ) (before after : Option P) → MapChange s s' key before after → Renamed s' s'' → MapChange s s'' key before after
  renamed_change s s' s'' key before after c r = record {
    was = c.was;
    now = r.values key ∙ c.now;
    others = λ k l ne. r.values k ∙ c.others k l ne;
  }

module _ {P A K : Type 0} (charged limit : A → ℕ) (old mid new : Arena P A K) (key : List ℕ) where
  -- an edit after a renaming
  module _ (r : Renamed old.nodes mid.nodes) (same : mid.allocator ≡ old.allocator) where
    edits_renamed : (before after : Option P) → Edits charged limit mid new key before after → Edits charged limit old new key before after
    edits_renamed before after e = record {
      tree = e.tree;
      change = change_renamed old.nodes mid.nodes new.nodes key before after r e.change;
      balance = (let b = e.balance in let c : charged mid.allocator ≡ charged old.allocator = ap charged same in omega (arith, b, c, r.bytes));
      same_limit = e.same_limit ∙ ap limit same;
    }

    -- an insertion after a renaming is one on the arena before the renaming
    pub adds_renamed : (before : Option P) (value : P) (wants : Option (List ℕ)) → Adds charged limit mid new key before value wants → Adds charged limit old new key before value wants
    adds_renamed before value wants a = record {
      edits = edits_renamed before (Some value) a.edits;
      fits = subst (λ t. InsertionFits wants (charged t) (limit t)) same a.fits;
      bytes = a.bytes ∙ ap (λ n. n + gain_of wants) r.bytes;
      filled = λ by_form h. a.filled by_form (r.filled by_form h);
    }

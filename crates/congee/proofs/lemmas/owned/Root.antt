-- A root alone is a tree without pairs.
use Rattle.std.proofs.Common.{◌≡◌, ℕ, ◌≤◌, inl, inr, List, [], length, refl, sym, ap, ◌∙◌, subst, arith}
use Rattle.std.specs.Prelude.{None, Some}
use Rattle.std.specs.FinMap as map
use Rattle.slab.specs.Slab.{get, Updates}
use Rattle.congee.specs.Heap.{Nothing, Below, Holds, value_at}
use Rattle.congee.specs.Notes.{Linked, Gone}
use Rattle.congee.specs.forms.Forms.{form_of, prefix_of, children_of, size_of, capacity_of}
use Rattle.congee.specs.owned.Sizes.{bytes_of, bytes_at}
use Rattle.congee.specs.owned.Arena.{Nodes, hung_in, node_of, heap_of, notes_of, IsFilled, IsTree}
use Rattle.congee.specs.declared.forms.base_node.Node.{Node as Form}
use Rattle.congee.specs.declared.forms.base_node.NodeType.TheVariants.{N256}
use Rattle.congee.proofs.lemmas.Tree.{same_or_not, value_at_linked}
use Rattle.congee.proofs.lemmas.owned.Filled.{filled_at, filled_some, filled_none}
use Rattle.congee.proofs.lemmas.owned.Sizes.{bytes_update}

module _ {P : Type 0} (s0 s : Nodes P) (root : Form ℕ P) (none : (n : ℕ) → get s0 n ≡ None) (puts : Updates s0 s 0 (Some root)) (prefix : prefix_of root ≡ []) (children : children_of root ≡ map.empty) (form : form_of root ≡ N256) where
  root_is : heap_of s 0 ≡ node_of (Some root)
  root_is = ap node_of puts.changed

  only : (n : ℕ) → (notes_of s (λ _. 0) n).status ≡ Linked → n ≡ 0
  only n l = elim (same_or_not n 0) [
    | inl e ↦ e
    | inr ne ↦ absurd (let e : get s n ≡ None = puts.others n ne ∙ none n in let z : Gone ≡ Linked = rw e at l in cc)
  ]

  nothing : (b : ℕ) → (heap_of s 0).children b ≡ Nothing
  nothing b = rw root_is (ap hung_in (ap (λ m. map.get m b) children ∙ map.get-empty _ b))

  nothing_at : (n b : ℕ) → (notes_of s (λ _. 0) n).status ≡ Linked → (heap_of s n).children b ≡ Nothing
  nothing_at n b l = let Q : ℕ → Type 0 = λ y. (heap_of s y).children b ≡ Nothing in subst Q (sym (only n l)) (nothing b)

  empty_prefix : (heap_of s 0).prefix ≡ []
  empty_prefix = rw root_is prefix

  -- a root alone is a tree
  pub root_tree : IsTree s
  root_tree = record {
    parent = λ _. 0;
    tree = record {
      root = rw puts.changed refl;
      empty = empty_prefix;
      short = λ n l. let Q : ℕ → Type 0 = λ y. length (heap_of s y).prefix ≤ 7 in subst Q (sym (only n l)) (rw empty_prefix (omega arith));
      leaves = λ n b v l e. absurd (let z : Nothing ≡ Holds v = sym (nothing_at n b l) ∙ e in cc);
      down = λ n b c l e. absurd (let z : Nothing ≡ Below c = sym (nothing_at n b l) ∙ e in cc);
      up = λ n l ne. absurd (ne (only n l));
    };
    wide = rw root_is (ap capacity_of form);
    filled = λ n. elim (same_or_not n 0) [
      | inl e ↦ filled_at s n 0 (Some root) e puts.changed (filled_some root (λ seven. let z : length (prefix_of root) ≡ 0 = ap length prefix in absurd (omega (arith, z, seven))))
      | inr ne ↦ subst IsFilled (sym (puts.others n ne ∙ none n)) filled_none
    ];
  }

  -- in a root alone no key has a value
  pub root_empty : (key : List ℕ) → value_at (heap_of s) key ≡ None
  root_empty key = value_at_linked _ (heap_of s) root_tree.tree 0 key Nothing root_tree.tree.root (rw empty_prefix refl) (nothing _)

  -- a root alone takes 2,104 bytes
  pub root_bytes : bytes_of s0 ≡ 0 → bytes_of s ≡ 2104
  root_bytes z =
      let u = bytes_update s0 s 0 (Some root) puts in
      let b : bytes_at (get s0 0) ≡ 0 = ap bytes_at (none 0) in
      let r : size_of (form_of root) ≡ 2104 = ap size_of form in
      omega (arith, u, b, r, z)

-- A tree from which all but its root went.
use Rattle.std.proofs.Common.{◌≡◌, ℕ, zero, suc, ◌≤◌, Bool, true, false, List, [], ◌∷◌, get_or, refl, sym, ap, ◌∙◌, arith}
use Rattle.std.specs.Prelude.{Option, None, Some}
use Rattle.std.specs.FinMap as map
use Rattle.slab.specs.Slab.{get}
use Rattle.congee.specs.Heap.{value_at}
use Rattle.congee.specs.forms.Forms.{form_of, prefix_of, children_of, capacity_of, size_of}
use Rattle.congee.specs.owned.Sizes.{bytes_of, bytes_at, bytes_in}
use Rattle.congee.specs.owned.Full.{NodesFilled, lacking_of}
use Rattle.congee.specs.owned.Levels.{nodes_of}
use Rattle.congee.specs.owned.Stats.{root_alone}
use Rattle.congee.specs.owned.Stores.{IsAlone, LeavesRoot}
use Rattle.congee.specs.owned.Wanted.{WantsLeaf, wants_of}
use Rattle.congee.specs.owned.Arena.{Nodes, node_of, heap_of, IsTree}
use Rattle.congee.specs.declared.forms.base_node.Node.{Node as Form}
use Rattle.congee.specs.declared.forms.base_node.NodeType.{NodeType}
use Rattle.congee.specs.declared.forms.base_node.NodeType.TheVariants.{N4, N16, N48, N256}
use Rattle.congee.proofs.lemmas.owned.Fulls.{lacking_none}
use Rattle.congee.proofs.lemmas.owned.Root.{root_tree, root_empty, root_bytes}
use Rattle.congee.proofs.lemmas.owned.Sizes.{bytes_same}
use Rattle.congee.proofs.lemmas.owned.Surveys.{root_nodes}
use Rattle.congee.proofs.lemmas.owned.Wanting.{wants_leaf}

wide_form : (f : NodeType) → capacity_of f ≡ 256 → f ≡ N256
wide_form N4 e = absurd (omega (arith, e))
wide_form N16 e = absurd (omega (arith, e))
wide_form N48 e = absurd (omega (arith, e))
wide_form N256 e = refl

module _ {P : Type 0} where
  -- the root has the greatest form
  pub root_form : (s : Nodes P) (x : Form ℕ P) → IsTree s → get s 0 ≡ Some x → form_of x ≡ N256
  root_form s x t e = wide_form (form_of x) (sym (ap (λ o. (node_of o).capacity) e) ∙ t.wide)

  -- what stands where the root is alone
  pub record RootLeft (s : Nodes P) : Type 0 where
    pub tree : IsTree s
    pub empty : (key : List ℕ) → value_at (heap_of s) key ≡ None
    pub nodes : nodes_of s ≡ root_alone
    pub bytes : bytes_of s ≡ 2104
    pub lacking : lacking_of s ≡ 0
    pub branch : NodesFilled false s
    pub wants : WantsLeaf (wants_of s)

  -- where nothing stands nothing takes room
  no_bytes : (s : Nodes P) → ((n : ℕ) → get s n ≡ None) → bytes_of s ≡ 0
  no_bytes s none =
      let bare : Nodes P = record { slots = []; vacant_key = 0; capacity = 0 } in
      bytes_same bare s (λ n. none n)

  -- nothing but the root stands
  pub alone_filled : (by_form : Bool) (s : Nodes P) (root : Form ℕ P) → IsAlone s root → NodesFilled by_form s
  alone_filled by_form s root a n x ne e = absurd (let z : None ≡ Some x = sym (a.none n) ∙ (sym (a.puts.others n ne) ∙ e) in cc)

  -- a root that stands alone, without children, is a tree with no pairs, of its own size
  pub root_left : (s : Nodes P) (root : Form ℕ P) → IsAlone s root → prefix_of root ≡ [] → children_of root ≡ map.empty → form_of root ≡ N256 → RootLeft s
  root_left s root a prefix children form =
      let tree : IsTree s = root_tree a.before s root a.none a.puts prefix children form in
      record {
        tree = tree;
        empty = root_empty a.before s root a.none a.puts prefix children form;
        nodes = root_nodes s root tree a.puts.changed form children;
        bytes = root_bytes a.before s root a.none a.puts prefix children form (no_bytes a.before a.none);
        lacking = lacking_none s (alone_filled true s root a);
        branch = alone_filled false s root a;
        wants = wants_leaf s root tree a.puts.changed form children;
      }

  -- a root whose children and all else went
  pub all_left : (s0 s : Nodes P) (x : Form ℕ P) → IsTree s0 → get s0 0 ≡ Some x → LeavesRoot s0 s x → RootLeft s
  all_left s0 s x t e l =
      root_left s l.node l.alone
      (l.becomes.prefix ∙ (sym (ap (λ o. (node_of o).prefix) e) ∙ t.tree.empty))
      l.becomes.children
      (l.becomes.form ∙ root_form s0 x t e)

  at_within : (slots : List (Option (Form ℕ P))) (n : ℕ) → bytes_at (get_or slots n None) ≤ bytes_in slots
  at_within [] n = omega arith
  at_within (o ∷ rest) zero = omega arith
  at_within (o ∷ rest) (suc n) = let h = at_within rest n in omega (arith, h)

  -- the root's bytes are among those of all
  pub root_within : (s : Nodes P) (x : Form ℕ P) → IsTree s → get s 0 ≡ Some x → 2104 ≤ bytes_of s
  root_within s x t e =
      let c : bytes_at (get s 0) ≡ 2104 = ap bytes_at e ∙ ap size_of (root_form s x t e) in
      let h = at_within s.slots 0 in
      omega (arith, c, h)

use Rattle.std.proofs.Common.{rules, ◌≡◌, ◌≢◌, ◌<◌, ℕ, Bool, true, false, Some, length, sym, ap, ◌∙◌, arith}
use Rattle.std.specs.Prelude.{IsTrue, ◌↔◌}
use Rattle.slab.specs.Slab.{get, ContainsKey}
use Rattle.congee.specs.forms.Forms.{prefix_of}
use Rattle.congee.specs.owned.Arena.{Nodes, IsTree, heap_of}
use Rattle.congee.specs.declared.forms.base_node.Node.{Node as Form}
use Rattle.congee.proofs.lemmas.owned.Moves.{node_at, prefix_at}
use Rattle.congee.proofs.lemmas.owned.Wanting.{free_leaf, free_inner}
use Rattle.congee.proofs.lemmas.owned.Ways.{short_prefix}
use Rattle.congee.proofs.owned.arena.Arena.add.Goals as goal

-- what the length of a node's prefix tells
module _ {P : Type 0} (s : Nodes P) (at : ℕ) (stands : ContainsKey s at) (b : Bool) (is : (x : Form ℕ P) → get s at ≡ Some x → IsTrue b ↔ (length (prefix_of x) ≡ 7)) where
  told_leaf : b ≡ true → length (heap_of s at).prefix ≡ 7
  told_leaf e = let n = node_at s at stands in ap length (prefix_at s at n.0 n.1) ∙ (is n.0 n.1).0 e

  told_apart : b ≡ false → length (heap_of s at).prefix ≢ 7
  told_apart e q =
      let n = node_at s at stands in
      let z : false ≡ true = sym e ∙ (is n.0 n.1).1 (sym (ap length (prefix_at s at n.0 n.1)) ∙ q) in cc

  told_inner : IsTree s → b ≡ false → length (heap_of s at).prefix < 7
  told_inner t e = let a = told_apart e in let l = short_prefix s t at stands in omega (arith, a, l)

pub add_value-requires-clause-leaf : goal.add_value-requires-clause-leaf
add_value-requires-clause-leaf g c = told_leaf c.args.self.now.nodes c.args.at c.requires.way.stands c.is_leaf.result c.is_leaf.ensures (search rules)

pub add_leaf-requires-clause-inner : goal.add_leaf-requires-clause-inner
add_leaf-requires-clause-inner g c = told_inner c.args.self.now.nodes c.args.at c.requires.way.stands c.is_leaf.result c.is_leaf.ensures c.requires.tree (search rules)

pub returns-then-is_leaf-clause-adds : goal.returns-then-is_leaf-clause-adds
returns-then-is_leaf-clause-adds g c =
    let leaf = told_leaf c.args.self.now.nodes c.args.at c.requires.way.stands c.is_leaf.result c.is_leaf.ensures (search rules) in
    rw (free_leaf (heap_of c.args.self.now.nodes c.args.at) leaf) c.add_value.ensures.adds

pub returns-then-is_leaf-clause-refused : goal.returns-then-is_leaf-clause-refused
returns-then-is_leaf-clause-refused g c =
    let leaf = told_leaf c.args.self.now.nodes c.args.at c.requires.way.stands c.is_leaf.result c.is_leaf.ensures (search rules) in
    rw (free_leaf (heap_of c.args.self.now.nodes c.args.at) leaf) c.add_value.ensures.refused

pub returns-else-is_leaf-clause-adds : goal.returns-else-is_leaf-clause-adds
returns-else-is_leaf-clause-adds g c =
    let inner = told_apart c.args.self.now.nodes c.args.at c.requires.way.stands c.is_leaf.result c.is_leaf.ensures (search rules) in
    rw (free_inner (heap_of c.args.self.now.nodes c.args.at) inner) c.add_leaf.ensures.adds

pub returns-else-is_leaf-clause-refused : goal.returns-else-is_leaf-clause-refused
returns-else-is_leaf-clause-refused g c =
    let inner = told_apart c.args.self.now.nodes c.args.at c.requires.way.stands c.is_leaf.result c.is_leaf.ensures (search rules) in
    rw (free_inner (heap_of c.args.self.now.nodes c.args.at) inner) c.add_leaf.ensures.refused

-- No leaf is empty.
use Rattle.std.proofs.Common.{◌≡◌, ◌≢◌, ℕ, zero, suc, ◌+◌, ◌-◌, ◌<◌, true, List, length, refl, sym, ap, subst, ◌∙◌, arith}
use Rattle.std.specs.Prelude.{Option, None, Some, is_some}
use Rattle.std.specs.List.{All}
use Rattle.std.proofs.lemmas.List.Elements.{All-append, All-cons, All-nil}
use Rattle.std.specs.Ordering.{nat_cmp}
use Rattle.std.specs.Cmp.{nat_cmp_total}
use Rattle.std.specs.FinMap as map
use Rattle.slab.specs.Slab.{get}
use Rattle.congee.specs.Heap.{Hung, Nothing, Below, Holds}
use Rattle.congee.specs.forms.Forms.{prefix_of, children_of}
use Rattle.congee.specs.owned.Arena.{Nodes, hung_in, IsFilled, IsTree}
use Rattle.congee.specs.owned.Levels.{shape_of, under_byte, under_bytes, with_node, nodes_from, nodes_of}
use Rattle.congee.specs.owned.Stats.{Shape, HasValue}
use Rattle.congee.specs.declared.forms.base_node.Node.{Node as Form}

module _ {X : Type 0} where
  -- a map with a pair isn't empty
  pub has_pair : (m : map.FinMap nat_cmp X) (k : ℕ) (x : X) → map.get m k ≡ Some x → 0 < map.len m
  has_pair m k x e =
      let ne : map.len m ≢ 0 = (λ z. let n : None ≡ Some x = sym (map.get-empty _ k) ∙ (ap (λ n. map.get n k) (sym (map.empty_of_len m z)) ∙ e) in absurd (cc)) in
      omega (arith, ne)

  -- a map with a further pair isn't empty after one went
  pub has_further : (m : map.FinMap nat_cmp X) (k : ℕ) (x : X) → map.get m k ≡ Some x → map.len m ≢ 1 → 0 < map.len (map.remove m k)
  has_further m k x e ne =
      let c : map.contains_key m k ≡ true = ap is_some e in
      let l : map.len (map.remove m k) ≡ map.len m - 1 = map.len-remove nat_cmp_total m k ∙ rw c refl in
      let h = has_pair m k x e in
      omega (arith, l, h, ne)

module _ {P : Type 0} where
  -- a node that has a child if it is a leaf is no empty leaf
  pub filled_some : (y : Form ℕ P) → (length (prefix_of y) ≡ 7 → 0 < map.len (children_of y)) → IsFilled (Some y)
  filled_some y h x e seven =
      let i : y ≡ x = (let z : Some y ≡ Some x = e in cc) in
      subst (λ z. 0 < map.len (children_of z)) i (h (subst (λ z. length (prefix_of z) ≡ 7) (sym i) seven))

  -- a name without a node has no empty leaf
  pub filled_none : IsFilled {P = P} None
  filled_none x e = absurd (cc)

  -- a node with a child
  pub filled_with : (y : Form ℕ P) (byte : ℕ) (c : _) → map.get (children_of y) byte ≡ Some c → IsFilled (Some y)
  filled_with y byte c e = filled_some y (λ _. has_pair (children_of y) byte c e)

  -- what stands under a name, by another name and what is there
  pub filled_at : (s : Nodes P) (n m : ℕ) (o : Option (Form ℕ P)) → n ≡ m → get s m ≡ o → IsFilled o → IsFilled (get s n)
  filled_at s n m o e is h = subst (λ z. IsFilled (get s z)) (sym e) (subst IsFilled (sym is) h)

  all_under : (go : ℕ → List Shape) (children : ℕ → Hung P) (n : ℕ) → ((c : ℕ) → All HasValue (go c)) → All HasValue (under_bytes go children n)
  unfolding under_bytes
  all_under go children zero h = All-nil HasValue
  all_under go children (suc b) h = All-append HasValue (under_bytes go children b) (under_byte go (children b)) (all_under go children b h) (of (children b))
    where
      of : (x : Hung P) → All HasValue (under_byte go x)
      of Nothing = All-nil HasValue
      of (Below c) = h c
      of (Holds v) = All-nil HasValue

  all_with : (go : ℕ → List Shape) (level : ℕ) (o : Option (Form ℕ P)) → ((c : ℕ) → All HasValue (go c)) → IsFilled o → All HasValue (with_node go level o)
  all_with go level None below h = All-nil HasValue
  all_with go level (Some x) below h =
      All-cons HasValue (shape_of level x) _ (λ seven. h x refl seven) (all_under go (λ b. hung_in (map.get (children_of x) b)) 256 below)

  all_from : (s : Nodes P) → IsTree s → (f level n : ℕ) → All HasValue (nodes_from (get s) f level n)
  unfolding nodes_from
  all_from s t zero level n = All-nil HasValue
  all_from s t (suc f) level n = all_with (λ c. nodes_from (get s) f (level + 1) c) level (get s n) (λ c. all_from s t f (level + 1) c) (t.filled n)

  -- each leaf among the nodes has a value
  pub leaves_filled : (s : Nodes P) → IsTree s → All HasValue (nodes_of s)
  unfolding nodes_of
  leaves_filled s t = all_from s t 8 0 0

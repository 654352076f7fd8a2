-- What is in reach for the collector is what stands on a path from the tree's root.
use Rattle.std.proofs.Common.{◌≡◌, ℕ, zero, suc, ◌<◌, List, [], ◌∷◌, ◌++◌, refl, sym, ◌∙◌, ap, subst, arith}
use Rattle.std.specs.Prelude.{Option, Some, None}
use Rattle.std.specs.List.{Contains}
use Rattle.crossbeam_epoch.specs.declared.names.Name.{Name}
use Rattle.crossbeam_epoch.specs.declared.names.Ptr.{Ptr}
use Rattle.crossbeam_epoch.specs.world.Store.{Store}
use Rattle.crossbeam_epoch.specs.world.Reach.{InReach, from_root, from_cell, links_of}
use Rattle.congee.specs.Heap.{Node, Below}
use Rattle.congee.specs.protocol.Handing.{Leads, InTree}
use Rattle.joint.specs.Names.{number}
use Rattle.joint.specs.nodes.Ties.{Ties, Rooted}
use Rattle.joint.specs.NameLemmas.{same_name}

-- one step further
longer : {V : Type 0} (h : ℕ → Node V) (path : List ℕ) (a c d b : ℕ) → Leads h a path c → (h c).children b ≡ Below d → Leads h a (path ++ b ∷ []) d
longer h [] a c d b l e = let P : ℕ → Type 0 = λ x. (h x).children b ≡ Below d in (d, subst P (sym l) e, refl)
longer h (x ∷ path) a c d b l e = (l.0, l.1, longer h path l.0 c d b l.2 e)

lone : {A : Type 0} (x y : A) → Contains (y ∷ []) x → x ≡ y
lone x y (zero, l, e) = sym e
lone x y (suc k, l, e) = absurd (let bad : suc k < 1 = l in omega (arith, bad))

abbrev get_or_top : Name → Option Name → Name
get_or_top d None = d
get_or_top d (Some n) = n

module _ {T V : Type 0} (names : T → List Name) (st : Store T) (h : ℕ → Node V) (roots : List Ptr) (top : Name) (t : Ties names st h) (r : Rooted roots top) where
  top_first : InReach roots (links_of names st) top
  top_first =
      let P : List Ptr → Type 0 = λ xs. Contains xs (record { name = Some top; tag = 0 }) in
      from_root (record { name = Some top; tag = 0 }) top (subst P (sym r.only) (0, omega arith, refl)) refl

  -- the node of a name that is in reach of the roots is in the tree
  pub in_tree : {n : Name} → InReach roots (links_of names st) n → InTree h (number n)
  in_tree (from_root p n is e) =
      let P : List Ptr → Type 0 = λ xs. Contains xs p in
      let one : p ≡ record { name = Some top; tag = 0 } = lone p (record { name = Some top; tag = 0 }) (subst P r.only is) in
      let same : Some top ≡ Some n = sym (ap (λ x. x.name) one) ∙ e in
      ([], sym r.first ∙ ap number (ap (get_or_top top) same))
  in_tree (from_cell c n is holds) =
      let up : InTree h (number c) = in_tree is in
      let l : (b : ℕ) × ((h (number c)).children b ≡ Below (number n)) = t.links c n holds in
      (up.0 ++ l.0 ∷ [], longer h up.0 0 (number c) (number n) l.0 up.1 l.1)

  reached : (path : List ℕ) (c n : Name) → InReach roots (links_of names st) c → Leads h (number c) path (number n) → InReach roots (links_of names st) n
  reached [] c n is l = let Q : Name → Type 0 = λ x. InReach roots (links_of names st) x in subst Q (same_name c n l) is
  reached (b ∷ path) c n is l =
      let x : (d : Name) × Contains (links_of names st c) d × (number d ≡ l.0) = t.hangs c b l.0 l.1 in
      let P : ℕ → Type 0 = λ k. Leads h k path (number n) in
      reached path x.0 n (from_cell c x.0 is x.1) (subst P (sym x.2) l.2)

  -- the name of a node in the tree is in reach of the roots
  pub in_reach : (n : Name) → InTree h (number n) → InReach roots (links_of names st) n
  in_reach n i = reached i.0 top n top_first (let P : ℕ → Type 0 = λ k. Leads h k i.0 (number n) in subst P (sym r.first) i.1)

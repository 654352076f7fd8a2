-- The nodes read off the cells agree with the cells.
use Rattle.std.proofs.Common.{◌≡◌, ◌<◌, arith, ℕ, Bool, true, false, List, refl, sym, ◌∙◌, ap, subst}
use Rattle.std.specs.Prelude.{Option, None, Some, is_some}
use Rattle.std.specs.List.{Contains}
use Rattle.crossbeam_epoch.specs.declared.names.Name.{Name}
use Rattle.crossbeam_epoch.specs.world.Store.{Store, value_at, was_given}
use Rattle.crossbeam_epoch.specs.world.Reach.{links_in}
use Rattle.congee.specs.Heap.{Node, Below, Stands}
use Rattle.joint.specs.Names.{number}
use Rattle.joint.specs.nodes.Heap.{IsView, node_at, heap_of}
use Rattle.joint.specs.nodes.Ties.{Ties}
use Rattle.joint.specs.NameLemmas.{named_number}

module _ {T V : Type 0} (names : T → List Name) (view : Bool → Option T → Node V) (ok : IsView names view) where
  live_at : (g : Bool) (v : Option T) → Stands (view g v) → is_some v ≡ true
  live_at g (Some v) s = refl
  live_at true None s = absurd (let e : (view true None).destroyed ≡ true = ok.lost in let f : (view true None).destroyed ≡ false = s.kept in cc)
  live_at false None s = absurd (let e : (view false None).made ≡ false = ok.unmade in let f : (view false None).made ≡ true = s.made in cc)

  -- a node whose name has a value stands
  pub stands_at : (g : Bool) (v : Option T) → is_some v ≡ true → Stands (view g v)
  stands_at g (Some v) e = ok.stands g v
  stands_at g None e = absurd (cc e)

  given_at : (g : Bool) (v : Option T) → g ≡ true → (view g v).made ≡ true
  given_at g (Some v) e = (ok.stands g v).made
  given_at true None e = ok.used
  given_at false None e = absurd (cc e)

  links_at : (g : Bool) (v : Option T) (c : Name) → Contains (links_in names v) c → (b : ℕ) × ((view g v).children b ≡ Below (number c))
  links_at g None c x = absurd (let bad : x.0 < 0 = x.1 in omega (arith, bad))
  links_at g (Some v) c x = ok.links g v c x

  hangs_at : (g : Bool) (v : Option T) (b k : ℕ) → (view g v).children b ≡ Below k → (c : Name) × Contains (links_in names v) c × (number c ≡ k)
  hangs_at g None b k e = absurd (let z = ok.bare g b in cc)
  hangs_at g (Some v) b k e = ok.hangs g v b k e

  -- the node of a name's number is the node under that name
  pub heap_of_number : (st : Store T) (n : Name) → heap_of view st (number n) ≡ node_at view st n
  heap_of_number st n = ap (node_at view st) (named_number n)

  -- the nodes read off the cells stand, are made and have links just where the cells say so
  pub heap_ties : (st : Store T) → Ties names st (heap_of view st)
  heap_ties st =
      let At : (Node V → Type 0) → (n : Name) → node_at view st n ≡ node_at view st n → Type 0 = λ P n _. P (heap_of view st (number n)) in
      record {
        live = λ n s. live_at (was_given st n) (value_at st n) (subst Stands (heap_of_number st n) s);
        stands = λ n e. subst Stands (sym (heap_of_number st n)) (stands_at (was_given st n) (value_at st n) e);
        given = λ n e. ap (λ x. x.made) (heap_of_number st n) ∙ given_at (was_given st n) (value_at st n) e;
        links = λ n c x. let l : (b : ℕ) × ((node_at view st n).children b ≡ Below (number c)) = links_at (was_given st n) (value_at st n) c x in (l.0, ap (λ y. y.children l.0) (heap_of_number st n) ∙ l.1);
        hangs = λ n b k e. hangs_at (was_given st n) (value_at st n) b k (ap (λ y. y.children b) (sym (heap_of_number st n)) ∙ e);
      }

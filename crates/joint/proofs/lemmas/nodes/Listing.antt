-- The nodes that pass a test are listed once each, and sums over them are sums over the cells.
use Rattle.std.proofs.Common.{◌≡◌, ◌≢◌, ℕ, zero, suc, ◌+◌, ◌-◌, ◌==◌, ◌<◌, ◌≤◌, Bool, true, false, cond, List, [], ◌∷◌, ◌++◌, length, get_or, refl, sym, ◌∙◌, ap, subst, arith, inl, inr}
use Rattle.std.specs.Prelude.{Option, None, Some, slice_get}
use Rattle.std.specs.List.{All, AllPairs, Contains, filter, flat_map, sum_by}
use Rattle.std.proofs.lemmas.Bool.Decides.{nat_tests}
use Rattle.std.proofs.lemmas.List.Elements.{All-append, All-contains, Contains-append_cases, Contains-append_left, Contains-append_right, Contains-get_or, filter_passes}
use Rattle.std.proofs.lemmas.List.Kept.{AllPairs-cons, AllPairs-filter}
use Rattle.std.proofs.lemmas.List.Sums.{sum_by-cons}
use Rattle.crossbeam_epoch.specs.declared.world.cells.Cell.{Cell}
use Rattle.crossbeam_epoch.specs.declared.names.Name.{Name}
use Rattle.crossbeam_epoch.specs.world.Store.{Store, fresh, cell_at, value_at, was_given}
use Rattle.congee.specs.Heap.{Node}
use Rattle.joint.specs.declared.nodes.slot.Slot.{Slot}
use Rattle.joint.specs.nodes.Nodes.{Nodes, nodes, of_value, of_cell, total, size}
use Rattle.joint.specs.nodes.Listing.{last_name, last_names, nodes_that, bytes_of}
use Rattle.joint.specs.NameLemmas.{named_number, number_named, same_name}
use Rattle.joint.specs.Names.{number, named}
use Rattle.joint.specs.nodes.View.{view}
use Rattle.joint.proofs.lemmas.nodes.Altering.{cell_of, cell_inside}
use Rattle.joint.proofs.lemmas.nodes.NodesInvariant.{node_here}

module _ {X : Type 0} where
  contains_more : (y x : X) (xs : List X) → Contains xs x → Contains (y ∷ xs) x
  contains_more y x xs c = (suc c.0, (let l : c.0 < length xs = c.1 in omega (arith, l)), c.2)

  in_cond : (b : Bool) (y x : X) (xs : List X) → Contains xs x → Contains (cond b (y ∷ xs) xs) x
  in_cond true y x xs c = contains_more y x xs c
  in_cond false y x xs c = c

  passes_at : (p : X → Bool) (xs : List X) (k : ℕ) (x : X) → k < length xs → get_or xs k x ≡ x → p x ≡ true → Contains (filter p xs) x
  passes_at p [] k x l e t = absurd (let z : k < 0 = l in omega (arith, z))
  passes_at p (y ∷ ys) zero x l e t =
      let q : p y ≡ true = ap p e ∙ t in
      subst (λ b. Contains (cond b (y ∷ filter p ys) (filter p ys)) x) (sym q) (0, (let z : 0 < suc (length (filter p ys)) = omega arith in z), e)
  passes_at p (y ∷ ys) (suc k) x l e t = in_cond (p y) y x (filter p ys) (passes_at p ys k x (let z : suc k < suc (length ys) = l in omega (arith, z)) e t)

  -- what passes the test is kept, and nothing else
  pub passes : (p : X → Bool) (xs : List X) (x : X) → Contains xs x → p x ≡ true → Contains (filter p xs) x
  passes p xs x c t = passes_at p xs c.0 x c.1 c.2 t

  -- what a filter leaves passes its test
  pub passed : (p : X → Bool) (xs : List X) (x : X) → Contains (filter p xs) x → p x ≡ true
  passed p xs x c = All-contains (λ y. p y ≡ true) (filter p xs) x (filter_passes p xs) c

  -- a relation of all pairs of two lists, and of each of the one with each of the other, is one of both joined
  pub pairs_append : (R : X → X → Type 0) (xs ys : List X) → AllPairs R xs → AllPairs R ys → ((x y : X) → Contains xs x → Contains ys y → R x y) → AllPairs R (xs ++ ys)
  pairs_append R [] ys a b c = b
  pairs_append R (x ∷ xs) ys a b c =
      let before : All (R x) xs = λ k d l. a 0 (suc k) d (omega arith) (let z : suc k < suc (length xs) = omega (arith, l) in z) in
      let after : All (R x) ys = λ k d l. c x (get_or ys k d) (0, (let z : 0 < suc (length xs) = omega arith in z), refl) (Contains-get_or ys k d l) in
      AllPairs-cons R x (xs ++ ys) (All-append (R x) xs ys before after)
      (pairs_append R xs ys (λ i j d l m. a (suc i) (suc j) d (omega (arith, l)) (let z : suc j < suc (length xs) = omega (arith, m) in z)) b (λ y z m n. c y z (contains_more x y xs m) n))

-- what a function gives of the elements, some of each
module _ {X Y : Type 0} (h : X → List Y) where
  -- what the function gives of one element is in the list of what it gives of all
  pub gives : (xs : List X) (i : ℕ) (x : X) (y : Y) → slice_get xs i ≡ Some x → Contains (h x) y → Contains (flat_map h xs) y
  gives [] zero x y at c = absurd (cc at)
  gives [] (suc i) x y at c = absurd (cc at)
  gives (z ∷ zs) zero x y at c =
      let q : z ≡ x = cc in
      Contains-append_left (h z) (flat_map h zs) y (subst (λ w. Contains (h w) y) (sym q) c)
  gives (z ∷ zs) (suc i) x y at c = Contains-append_right (h z) (flat_map h zs) y (gives zs i x y at c)

  abbrev Given : List X → Y → Type 0
  Given xs y = (i : ℕ) × (x : X) × (slice_get xs i ≡ Some x) × Contains (h x) y

  -- what is in the list of what it gives of all is given by one element
  pub given : (xs : List X) (y : Y) → Contains (flat_map h xs) y → Given xs y
  given [] y c = absurd (let bad : c.0 < 0 = c.1 in omega (arith, bad))
  given (z ∷ zs) y c = elim (Contains-append_cases (h z) (flat_map h zs) y c) [
    | inl x ↦ (0, z, refl, x)
    | inr x ↦ (let w : Given zs y = given zs y x in (suc w.0, w.1, w.2, w.3))
  ]

  -- no two elements give the same
  abbrev pub GivesOnce : List X → Type 0
  GivesOnce xs = (i j : ℕ) (x x' : X) (y : Y) → slice_get xs i ≡ Some x → slice_get xs j ≡ Some x' → Contains (h x) y → Contains (h x') y → i ≡ j

  -- and none gives anything twice
  abbrev pub EachOnce : List X → Type 0
  EachOnce xs = (i : ℕ) (x : X) → slice_get xs i ≡ Some x → AllPairs (λ m n. m ≢ n) (h x)

  -- where no two elements give the same and none gives anything twice, the list has nothing twice
  pub once : (xs : List X) → GivesOnce xs → EachOnce xs → AllPairs (λ m n. m ≢ n) (flat_map h xs)
  once [] u v = λ i j d l m. absurd (let z : j < 0 = m in omega (arith, z))
  once (z ∷ zs) u v = pairs_append (λ m n. m ≢ n) (h z) (flat_map h zs) (v 0 z refl)
      (once zs (λ i j x x' y a b p q. (let e : suc i ≡ suc j = u (suc i) (suc j) x x' y a b p q in omega (arith, e))) (λ i x a. v (suc i) x a))
      (λ m n p q e.
      let w : Given zs n = given zs n q in
      let bad : 0 ≡ suc w.0 = u 0 (suc w.0) z w.1 n refl w.2 (subst (λ k. Contains (h z) k) e p) w.3 in omega (arith, bad))

sum_cond : (g : ℕ → ℕ) (b : Bool) (x : ℕ) (xs : List ℕ) → sum_by g (cond b (x ∷ xs) xs) ≡ cond b (g x) 0 + sum_by g xs
sum_cond g true x xs = sum_by-cons g x xs
sum_cond g false x xs = omega arith

-- the last names of the cells
module _ {T : Type 0} where
  -- there is one last name for each cell
  pub long : (i : ℕ) (cs : List (Cell T)) → length (last_names i cs) ≡ length cs
  long i [] = refl
  long i (c ∷ cs) = ap suc (long (suc i) cs)

  at_place : (i : ℕ) (cs : List (Cell T)) (j d : ℕ) → j < length cs → get_or (last_names i cs) j d ≡ last_name (i + j) (get_or cs j fresh)
  at_place i [] j d l = absurd (let z : j < 0 = l in omega (arith, z))
  at_place i (c ∷ cs) zero d l = (let z : i ≡ i + 0 = omega arith in ap (λ k. last_name k c) z)
  at_place i (c ∷ cs) (suc j) d l =
      let z : suc i + j ≡ i + suc j = omega arith in
      at_place (suc i) cs j d (let m : suc j < suc (length cs) = l in omega (arith, m)) ∙ ap (λ k. last_name k (get_or cs j fresh)) z

  -- no name twice
  names_once : (cs : List (Cell T)) → AllPairs (λ m n. m ≢ n) (last_names 0 cs)
  names_once cs i j d l m e =
      let n : length (last_names 0 cs) ≡ length cs = long 0 cs in
      let a : get_or (last_names 0 cs) i d ≡ last_name (0 + i) (get_or cs i fresh) = at_place 0 cs i d (omega (arith, l, m, n)) in
      let b : get_or (last_names 0 cs) j d ≡ last_name (0 + j) (get_or cs j fresh) = at_place 0 cs j d (omega (arith, m, n)) in
      let q = same_name _ _ (sym a ∙ e ∙ b) in
      let z : 0 + i ≡ 0 + j = ap (λ x. x.cell) q in
      omega (arith, l, z)

  -- what stands, stands under a last name
  stands_last : (st : Store T) (n : Name) (v : T) → value_at st n ≡ Some v → Contains (last_names 0 st.cells) (number n)
  stands_last st n v e =
      let at : n.cell < length st.cells = cell_inside st n v e in
      let l : length (last_names 0 st.cells) ≡ length st.cells = long 0 st.cells in
      let t : (cell_at st n.cell).turns ≡ n.turn + 1 = (cell_of (cell_at st n.cell) n.turn v e).0 in
      let z : 0 + n.cell ≡ n.cell = omega arith in
      let y : (cell_at st n.cell).turns - 1 ≡ n.turn = omega (arith, t) in
      (n.cell, omega (arith, at, l), at_place 0 st.cells n.cell (number n) at ∙ ap (λ k. number (record { cell = k; turn = (cell_at st n.cell).turns - 1 })) z ∙ ap (λ k. number (record { cell = n.cell; turn = k })) y)

  -- a sum over the names that pass is one over the cells
  sum_kept : (p : ℕ → Bool) (g : ℕ → ℕ) (w : Cell T → ℕ) (i : ℕ) (cs : List (Cell T))
      → ((j : ℕ) → j < length cs → cond (p (last_name (i + j) (get_or cs j fresh))) (g (last_name (i + j) (get_or cs j fresh))) 0 ≡ w (get_or cs j fresh)) → sum_by g (filter p (last_names i cs)) ≡ sum_by w cs
  sum_kept p g w i [] each = refl
  sum_kept p g w i (c ∷ cs) each =
      let z : i + 0 ≡ i = omega arith in
      let here : cond (p (last_name i c)) (g (last_name i c)) 0 ≡ w c = subst (λ k. cond (p (last_name k c)) (g (last_name k c)) 0 ≡ w c) z (each 0 (let l : 0 < suc (length cs) = omega arith in l)) in
      let rest : sum_by g (filter p (last_names (suc i) cs)) ≡ sum_by w cs = sum_kept p g w (suc i) cs (λ j l.
      let y : i + suc j ≡ suc i + j = omega arith in
      subst (λ k. cond (p (last_name k (get_or cs j fresh))) (g (last_name k (get_or cs j fresh))) 0 ≡ w (get_or cs j fresh)) y (each (suc j) (let m : suc j < suc (length cs) = omega (arith, l) in m))) in
      let a = sum_cond g (p (last_name i c)) (last_name i c) (filter p (last_names (suc i) cs)) in
      let b = sum_by-cons w c cs in
      omega (arith, here, rest, a, b)

  last_value : (st : Store T) (i : ℕ) → 1 ≤ (cell_at st i).turns → value_at st (record { cell = i; turn = (cell_at st i).turns - 1 }) ≡ (cell_at st i).value
  last_value st i l =
      let e : ((cell_at st i).turns == (cell_at st i).turns - 1 + 1) ≡ true = (let q : (cell_at st i).turns ≡ (cell_at st i).turns - 1 + 1 = omega (arith, l) in grind (arith, nat_tests, q)) in
      ap (λ b. cond b (cell_at st i).value None) e

-- as many as the sum of one for each
pub ones : {X : Type 0} (xs : List X) → length xs ≡ sum_by (λ x. 1) xs
ones [] = refl
ones (x ∷ xs) = (let a = ones xs in let b = sum_by-cons (λ y. 1) x xs in omega (arith, a, b))

-- what is charged for a node is the size of the slot under its name
pub bytes_are : {P : Type 0} (F : Nodes P) (n : Name) (v : Slot P) → value_at F.collector.store n ≡ Some v → bytes_of F (number n) ≡ size v
bytes_are F n v e = ap (λ x. of_value size (value_at F.collector.store x)) (named_number n) ∙ ap (of_value size) e

-- a test of nodes that only what stands passes, by its slot
module _ {P : Type 0} (test : Node P → Bool) (q : Slot P → Bool) (none : (g : Bool) → test (view g None) ≡ false) (some : (g : Bool) (v : Slot P) → test (view g (Some v)) ≡ q v) (F : Nodes P) where
  abbrev st : Store (Slot P)
  st = F.collector.store

  abbrev node_test : ℕ → Bool
  node_test n = test (nodes F n)

  tested : (n : Name) → node_test (number n) ≡ test (view (was_given st n) (value_at st n))
  tested n = ap test (node_here st n)

  weigh : (g : ℕ → ℕ) (f : Slot P → ℕ) (n : Name) (o : Option (Slot P)) → value_at st n ≡ o → ((v : Slot P) → value_at st n ≡ Some v → g (number n) ≡ f v)
      → cond (node_test (number n)) (g (number n)) 0 ≡ of_value (λ v. cond (q v) (f v) 0) o
  weigh g f n None e gf = ap (λ b. cond b (g (number n)) 0) (tested n ∙ ap (λ v. test (view (was_given st n) v)) e ∙ none (was_given st n))
  weigh g f n (Some v) e gf = ap (λ b. cond b (g (number n)) 0) (tested n ∙ ap (λ x. test (view (was_given st n) x)) e ∙ some (was_given st n) v) ∙ ap (λ k. cond (q v) k 0) (gf v e)

  summed : ((i : ℕ) → i < length st.cells → 1 ≤ (cell_at st i).turns) → (g : ℕ → ℕ) (f : Slot P → ℕ) → ((n : Name) (v : Slot P) → value_at st n ≡ Some v → g (number n) ≡ f v)
      → sum_by g (nodes_that test F) ≡ total (λ v. cond (q v) (f v) 0) st
  summed used g f gf = sum_kept node_test g (of_cell (λ v. cond (q v) (f v) 0)) 0 st.cells (λ j l.
      let z : 0 + j ≡ j = omega arith in
      let n : Name = record { cell = j; turn = (cell_at st j).turns - 1 } in
      let here = weigh g f n (cell_at st j).value (last_value st j (used j l)) (λ v. gf n v) in
      subst (λ k. cond (node_test (last_name k (cell_at st j))) (g (last_name k (cell_at st j))) 0 ≡ of_cell (λ v. cond (q v) (f v) 0) (cell_at st j)) (sym z) here)

  -- so many nodes pass as slots in the cells do
  pub counted_nodes : ((i : ℕ) → i < length st.cells → 1 ≤ (cell_at st i).turns) → length (nodes_that test F) ≡ total (λ v. cond (q v) 1 0) st
  counted_nodes used = ones (nodes_that test F) ∙ summed used (λ n. 1) (λ v. 1) (λ n v e. refl)

  -- the nodes that pass are charged as many bytes as the slots that do
  pub weighed_nodes : ((i : ℕ) → i < length st.cells → 1 ≤ (cell_at st i).turns) → sum_by (bytes_of F) (nodes_that test F) ≡ total (λ v. cond (q v) (size v) 0) st
  weighed_nodes used = summed used (bytes_of F) size (bytes_are F)

  -- no node that passes is listed twice
  pub nodes_once : AllPairs (λ m n. m ≢ n) (nodes_that test F)
  nodes_once = AllPairs-filter (λ m n. m ≢ n) node_test (last_names 0 st.cells) (names_once st.cells)

  -- each node that passes is listed
  pub listed : (n : ℕ) → test (nodes F n) ≡ true → Contains (nodes_that test F) n
  listed n t = passes node_test (last_names 0 st.cells) n (go (value_at st (named n)) refl) t
    where
      go : (o : Option (Slot P)) → value_at st (named n) ≡ o → Contains (last_names 0 st.cells) n
      go None e = absurd (let b : false ≡ true = sym (ap (λ v. test (view (was_given st (named n)) v)) e ∙ none (was_given st (named n))) ∙ t in cc b)
      go (Some v) e = subst (λ (k : ℕ). Contains (last_names 0 st.cells) k) (number_named n) (stands_last st (named n) v e)

  -- each node that is listed passes
  pub unlisted : (n : ℕ) → Contains (nodes_that test F) n → test (nodes F n) ≡ true
  unlisted n c = passed node_test (last_names 0 st.cells) n c

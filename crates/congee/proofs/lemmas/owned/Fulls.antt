-- How full the nodes of an arena are: what they lack, and those of the tree, each with its level.
use Rattle.std.proofs.Common.{◌≡◌, ◌≢◌, ℕ, zero, suc, ◌+◌, ◌-◌, ◌<◌, ◌≤◌, ◌⊎◌, Bool, true, false, cond, leb, ltb, List, [], ◌∷◌, length, drop, get_or, inl, inr, refl, sym, ap, subst, ◌∙◌, arith}
use Rattle.std.specs.Prelude.{Option, None, Some, is_some}
use Rattle.std.specs.List.{All}
use Rattle.std.specs.Ordering.{nat_cmp}
use Rattle.std.specs.Cmp.{nat_cmp_total}
use Rattle.std.proofs.lemmas.List.Elements.{All-append, All-cons, All-nil}
use Rattle.std.proofs.lemmas.Bool.{lt-ltb}
use Rattle.std.proofs.lemmas.Bool.Decides.{nat_tests}
use Rattle.std.specs.FinMap as map
use borrow.Author.Tests.{ltb-true}
use Rattle.slab.specs.Slab.{get}
use Rattle.congee.specs.Heap.{Hung, Nothing, Below, Holds}
use Rattle.congee.specs.forms.Forms.{Becomes, capacity_of, children_of, form_of, next_form, prefix_of}
use Rattle.congee.specs.owned.Arena.{Nodes, hung_in, node_of, heap_of, IsTree}
use Rattle.congee.specs.owned.Full.{AllBranch, AllFilled, HasEnough, NodesFilled, OthersFilled, fewest, lacks, lacks_all, lacking_of, places_for}
use Rattle.congee.specs.owned.Levels.{shape_of, under_byte, under_bytes, with_node, nodes_from, nodes_of}
use Rattle.congee.specs.owned.OwnedSteps.{SameNodes, Sets}
use Rattle.congee.specs.owned.Stats.{Shape}
use Rattle.congee.specs.owned.Wanted.{form_by}
use Rattle.congee.specs.protocol.Events.{places}
use Rattle.congee.specs.protocol.Filled.{least_in, FilledAs}
use Rattle.congee.specs.protocol.Steps.{form_below, shrinks}
use Rattle.congee.specs.declared.forms.base_node.Node.{Node as Form}
use Rattle.congee.specs.declared.forms.base_node.NodeType.{NodeType}
use Rattle.congee.specs.declared.forms.base_node.NodeType.TheVariants.{N4, N16, N48, N256}
use Rattle.congee.specs.declared.forms.child.Child.{Child}
use Rattle.congee.proofs.lemmas.Tree.{same_or_not}
use Rattle.congee.proofs.lemmas.owned.Filled.{has_pair}
use Rattle.congee.proofs.lemmas.owned.Moves.{remove_beside}
use Rattle.congee.proofs.lemmas.owned.Totals.{sum_same}
use Rattle.congee.proofs.lemmas.owned.Ways.{hung_child}

-- a form by its places
by_places : (form : NodeType) → form_by (places form) ≡ form
by_places N4 = refl
by_places N16 = refl
by_places N48 = refl
by_places N256 = refl

by_capacity : (form : NodeType) → form_by (capacity_of form) ≡ form
by_capacity N4 = refl
by_capacity N16 = refl
by_capacity N48 = refl
by_capacity N256 = refl

same_places : (form : NodeType) → places form ≡ capacity_of form
same_places N4 = refl
same_places N16 = refl
same_places N48 = refl
same_places N256 = refl

-- no form has no places
no_places : (form : NodeType) → places form ≡ 0 → ⊥
no_places N4 e = omega (arith, e)
no_places N16 e = omega (arith, e)
no_places N48 e = omega (arith, e)
no_places N256 e = omega (arith, e)

-- a node has enough children, and by its form, if that is asked
pub filled_as : (by_form : Bool) (form : NodeType) (size count : ℕ) → 1 ≤ count → (size < 7 → 2 ≤ count) → (by_form ≡ true → least_in form ≤ count) → FilledAs size count (places_for by_form form)
filled_as true form size count one two least = record {
  some = one;
  branches = two;
  least = λ x e. subst (λ z. least_in z ≤ count) (sym (sym (by_places x) ∙ (ap form_by e ∙ by_capacity form))) (least refl);
}
filled_as false form size count one two least = record { some = one; branches = two; least = λ x e. absurd (no_places x e) }

-- a node with enough children has as many as its form asks for
pub least_of : (by_form : Bool) (form : NodeType) (size count : ℕ) → FilledAs size count (places_for by_form form) → by_form ≡ true → least_in form ≤ count
least_of true form size count f asked = f.least form (same_places form)
least_of false form size count f asked = absurd (cc asked)

-- it has where it lacks none
some_least : (b : Bool) → 1 ≤ cond b 2 1
some_least true = omega arith
some_least false = omega arith

two_least : (size : ℕ) → size < 7 → 2 ≤ cond (ltb size 7) 2 1
two_least size l = rw (lt-ltb size 7 l) (omega arith)

-- a node that lacks no children has enough
has_enough : (form : NodeType) (size count : ℕ) → fewest form size - count ≡ 0 → FilledAs size count (capacity_of form)
has_enough form size count e =
    let one = some_least (ltb size 7) in
    filled_as true form size count (omega (arith, e, one)) (λ l. let two = two_least size l in omega (arith, e, two)) (λ _. omega (arith, e))

-- a node that has enough children lacks none
lacks_none : (form : NodeType) (size count : ℕ) → FilledAs size count (capacity_of form) → fewest form size - count ≡ 0
lacks_none form size count f =
    let least = least_of true form size count f refl in
    let more = of (ltb size 7) refl in
    omega (arith, least, more)
  where
    of : (b : Bool) → ltb size 7 ≡ b → cond b 2 1 ≤ count
    of true e = f.branches (ltb-true size 7 e)
    of false e = f.some

module _ {P : Type 0} where
  none_lacks : (xs : List (Option (Form ℕ P))) → ((j : ℕ) (x : Form ℕ P) → get_or xs j None ≡ Some x → HasEnough true x) → lacks_all xs ≡ 0
  none_lacks [] h = refl
  none_lacks (None ∷ xs) h = let r = none_lacks xs (λ j. h (suc j)) in omega (arith, r)
  none_lacks (Some x ∷ xs) h =
      let r = none_lacks xs (λ j. h (suc j)) in
      let l = lacks_none (form_of x) (length (prefix_of x)) (map.len (children_of x)) (h 0 x refl) in
      omega (arith, r, l)

  each_enough : (xs : List (Option (Form ℕ P))) → lacks_all xs ≡ 0 → (j : ℕ) (x : Form ℕ P) → get_or xs j None ≡ Some x → HasEnough true x
  each_enough [] e j x at = absurd (let z : None ≡ Some x = at in cc)
  each_enough (o ∷ xs) e zero x at =
      let l : lacks (Some x) ≡ 0 = subst (λ z. lacks z ≡ 0) at (omega (arith, e)) in
      has_enough (form_of x) (length (prefix_of x)) (map.len (children_of x)) l
  each_enough (o ∷ xs) e (suc j) x at = each_enough xs (omega (arith, e)) j x at

  lacks_same : (xs ys : List (Option (Form ℕ P))) → ((j : ℕ) → get_or ys j None ≡ get_or xs j None) → lacks_all ys ≡ lacks_all xs
  lacks_same = sum_same lacks lacks_all refl refl (λ x xs. refl)

  beside_root : (xs : List (Option (Form ℕ P))) (j : ℕ) → get_or (drop 1 xs) j None ≡ get_or xs (suc j) None
  beside_root [] j = refl
  beside_root (x ∷ xs) j = refl

  -- all nodes but the root have enough exactly where none lacks a child
  filled_where : (s : Nodes P) → lacking_of s ≡ 0 → NodesFilled true s
  unfolding lacking_of
  filled_where s e zero x ne at = absurd (ne refl)
  filled_where s e (suc n) x ne at = each_enough (drop 1 s.slots) e n x (beside_root s.slots n ∙ at)

  -- nodes of which each but the root has enough children lack none
  pub lacking_none : (s : Nodes P) → NodesFilled true s → lacking_of s ≡ 0
  unfolding lacking_of
  lacking_none s h = none_lacks (drop 1 s.slots) (λ j x e. h (suc j) x (omega arith) (sym (beside_root s.slots j) ∙ e))

  -- nodes that are the same lack as many
  pub same_lacking : (s s' : Nodes P) → SameNodes s s' → lacking_of s' ≡ lacking_of s
  unfolding lacking_of
  same_lacking s s' e = lacks_same (drop 1 s.slots) (drop 1 s'.slots) (λ j. beside_root s'.slots j ∙ (e (suc j) ∙ sym (beside_root s.slots j)))

  -- where the nodes of an arena have enough, they have after what keeps that
  pub still_none : (s s' : Nodes P) → (NodesFilled true s → NodesFilled true s') → lacking_of s ≡ 0 → lacking_of s' ≡ 0
  still_none s s' f e = lacking_none s' (f (filled_where s e))

-- a node of the tree has enough, if it isn't the root
abbrev Full : Bool → Shape → Type 0
Full by_form n = n.level ≢ 0 → FilledAs n.prefix n.children (places_for by_form n.form)

module _ {P : Type 0} (by_form : Bool) where
  all_under : (go : ℕ → List Shape) (children : ℕ → Hung P) (n : ℕ) → ((b c : ℕ) → children b ≡ Below c → All (Full by_form) (go c)) → All (Full by_form) (under_bytes go children n)
  unfolding under_bytes
  all_under go children zero h = All-nil (Full by_form)
  all_under go children (suc b) h = All-append (Full by_form) (under_bytes go children b) (under_byte go (children b)) (all_under go children b h) (of (children b) (λ c e. h b c e))
    where
      of : (x : Hung P) → ((c : ℕ) → x ≡ Below c → All (Full by_form) (go c)) → All (Full by_form) (under_byte go x)
      of Nothing g = All-nil (Full by_form)
      of (Below c) g = g c refl
      of (Holds v) g = All-nil (Full by_form)

  all_with : (go : ℕ → List Shape) (level : ℕ) (o : Option (Form ℕ P)) → ((b c : ℕ) → (node_of o).children b ≡ Below c → All (Full by_form) (go c))
      → ((x : Form ℕ P) → o ≡ Some x → level ≢ 0 → HasEnough by_form x) → All (Full by_form) (with_node go level o)
  all_with go level None below h = All-nil (Full by_form)
  all_with go level (Some x) below h = All-cons (Full by_form) (shape_of level x) _ (λ ne. h x refl ne) (all_under go (λ b. hung_in (map.get (children_of x) b)) 256 below)

module _ {P : Type 0} (s : Nodes P) (t : IsTree s) where
  -- the root hangs nowhere
  not_root : (n b c : ℕ) → (heap_of s n).children b ≡ Below c → c ≢ 0
  not_root n b c e z =
      let i = (hung_child s t n b c e).1 in
      let l : length (heap_of s c).prefix ≡ 0 = ap (λ k. length (heap_of s k).prefix) z ∙ ap length t.tree.empty in
      absurd (omega (arith, i.longer, l))

  all_from : (by_form : Bool) → NodesFilled by_form s → (f level n : ℕ) → (level ≢ 0 → n ≢ 0) → All (Full by_form) (nodes_from (get s) f level n)
  unfolding nodes_from
  all_from by_form h zero level n ne = All-nil (Full by_form)
  all_from by_form h (suc f) level n ne =
      all_with by_form (λ c. nodes_from (get s) f (level + 1) c) level (get s n) (λ b c e. all_from by_form h f (level + 1) c (λ _. not_root n b c e)) (λ x e l. h n x (ne l) e)

  -- each node of the tree but the root has a child, and two where it holds nodes
  pub shapes_branch : NodesFilled false s → AllBranch (nodes_of s)
  unfolding nodes_of
  shapes_branch h = let a = all_from false h 8 0 0 (λ ne. absurd (ne refl)) in λ k d l ne. record { some = (a k d l ne).some; branches = (a k d l ne).branches }

  -- where the nodes of an arena have enough, those of the tree have
  pub shapes_filled : lacking_of s ≡ 0 → AllFilled (nodes_of s)
  unfolding nodes_of
  shapes_filled e = all_from true (filled_where s e) 8 0 0 (λ ne. absurd (ne refl))

-- what a node that isn't small without a child has without it
less_or : (n m : ℕ) → leb n m ≡ false → m < n
less_or n m e = grind (arith, nat_tests)

spared : (form : NodeType) (k : ℕ) → shrinks form (suc k) ≡ false → least_in form ≤ k
spared N4 k e = omega arith
spared N16 k e = omega (arith, less_or (suc k) 4 e)
spared N48 k e = omega (arith, less_or (suc k) 13 e)
spared N256 k e = omega (arith, less_or (suc k) 41 e)

-- a node that loses a child and needn't give place to a lesser one has enough children
pub filled_less : (by_form : Bool) (size k : ℕ) (form : NodeType) → (by_form ≡ true → shrinks form (suc k) ≡ false) → 1 ≤ k → (size < 7 → 2 ≤ k) → FilledAs size k (places_for by_form form)
filled_less by_form size k form e one two = filled_as by_form form size k one two (λ asked. spared form k (e asked))

-- one that had enough with it, without it in the form below
lessened : (form : NodeType) (k : ℕ) → least_in form ≤ suc k → least_in (form_below form) ≤ k
lessened N4 k l = omega arith
lessened N16 k l = omega arith
lessened N48 k l = omega (arith, l)
lessened N256 k l = omega (arith, l)

-- where a node had enough children, one of the form below has enough with one fewer
pub filled_lesser : (by_form : Bool) (size k : ℕ) (form : NodeType) → FilledAs size (suc k) (places_for by_form form) → 1 ≤ k → (size < 7 → 2 ≤ k) → FilledAs size k (places_for by_form (form_below form))
filled_lesser by_form size k form x one two = filled_as by_form (form_below form) size k one two (λ asked. lessened form k (least_of by_form form size (suc k) x asked))

-- a full one with a further child, in the next form
grown : (form : NodeType) (k : ℕ) → k ≡ capacity_of form → least_in (next_form form) ≤ suc k
grown N4 k e = omega (arith, e)
grown N16 k e = omega (arith, e)
grown N48 k e = omega (arith, e)
grown N256 k e = omega (arith, e)

-- where a full node had enough children, one of the next form has enough with one more
pub filled_greater : (by_form : Bool) (size k : ℕ) (form : NodeType) → k ≡ capacity_of form → FilledAs size k (places_for by_form form) → FilledAs size (suc k) (places_for by_form (next_form form))
filled_greater by_form size k form e x = filled_as by_form (next_form form) size (suc k) (omega arith) (λ l. let b = x.branches l in omega (arith, b)) (λ _. grown form k e)

-- one of the least form
pub filled_least : (by_form : Bool) (size k : ℕ) → 1 ≤ k → (size < 7 → 2 ≤ k) → FilledAs size k (places_for by_form N4)
filled_least by_form size k one two = filled_as by_form N4 size k one two (λ _. omega arith)

-- how many pairs a map has after a change at one key
module _ {X : Type 0} where
  len_kept : (m : map.FinMap nat_cmp X) (k : ℕ) (x y : X) → map.get m k ≡ Some y → map.len (map.insert m k x) ≡ map.len m
  len_kept m k x y e = let c : map.contains_key m k ≡ true = ap is_some e in map.len-insert nat_cmp_total m k x ∙ rw c refl

  -- a pair at a new key is one more
  pub len_more : (m : map.FinMap nat_cmp X) (k : ℕ) (x : X) → map.get m k ≡ None → map.len (map.insert m k x) ≡ suc (map.len m)
  len_more m k x e = let c : map.contains_key m k ≡ false = ap is_some e in map.len-insert nat_cmp_total m k x ∙ rw c (omega arith)

  -- a map with pairs at two keys has two at least
  pub len_two : (m : map.FinMap nat_cmp X) (k l : ℕ) (x y : X) → k ≢ l → map.get m k ≡ Some x → map.get m l ≡ Some y → 2 ≤ map.len m
  len_two m k l x y ne e f =
      let c : map.contains_key m k ≡ true = ap is_some e in
      let r : map.len (map.remove m k) ≡ map.len m - 1 = map.len-remove nat_cmp_total m k ∙ rw c refl in
      let g : map.get (map.remove m k) l ≡ Some y = remove_beside m k l (λ q. ne (sym q)) ∙ f in
      let h = has_pair (map.remove m k) l y g in
      omega (arith, r, h)

module _ {P : Type 0} where
  -- a name under which this node stands
  pub holds_of_same : (s : Nodes P) (Q : Form ℕ P → Type 0) (n at : ℕ) (x y : Form ℕ P) → n ≡ at → get s n ≡ Some x → get s at ≡ Some y → Q y → Q x
  holds_of_same s Q n at x y q e is h =
      let i : Some y ≡ Some x = sym is ∙ (ap (λ k. get s k) (sym q) ∙ e) in
      let j : y ≡ x = cc in
      subst Q j h

module _ {P : Type 0} (by_form : Bool) where
  -- a node of the same form, and a prefix as long, with no fewer children
  pub enough_more : (x y : Form ℕ P) → form_of y ≡ form_of x → prefix_of y ≡ prefix_of x → map.len (children_of x) ≤ map.len (children_of y) → HasEnough by_form x → HasEnough by_form y
  enough_more x y form prefix more f =
      let size : length (prefix_of y) ≡ length (prefix_of x) = ap length prefix in
      let least = least_of by_form (form_of x) (length (prefix_of x)) (map.len (children_of x)) f in
      let same : least_in (form_of y) ≡ least_in (form_of x) = ap least_in form in
      filled_as by_form (form_of y) (length (prefix_of y)) (map.len (children_of y))
      (let one = f.some in omega (arith, one, more))
      (λ l. let two = f.branches (omega (arith, l, size)) in omega (arith, two, more))
      (λ asked. let l = least asked in omega (arith, l, same, more))

  -- each node stood before, under a name of a node that isn't the root, or has enough
  pub filled_then : (s s' : Nodes P) → NodesFilled by_form s → ((n : ℕ) (x : Form ℕ P) → n ≢ 0 → get s' n ≡ Some x → ((m : ℕ) × (m ≢ 0) × (get s m ≡ Some x)) ⊎ HasEnough by_form x) → NodesFilled by_form s'
  filled_then s s' h each n x ne e = elim (each n x ne e) [
    | inl was ↦ h was.0 x was.1 was.2
    | inr full ↦ full
  ]

  -- one node is another one, which has enough, and the others are as before
  pub filled_but : (s s' : Nodes P) (at : ℕ) (y : Form ℕ P) → OthersFilled by_form s at → (at ≢ 0 → HasEnough by_form y) → get s' at ≡ Some y → ((m : ℕ) → m ≢ at → get s' m ≡ get s m) → NodesFilled by_form s'
  filled_but s s' at y h full is others n x ne e = elim (same_or_not n at) [
    | inl q ↦ holds_of_same s' (HasEnough by_form) n at x y q e is (full (λ z. ne (q ∙ z)))
    | inr apart ↦ h n x ne apart (sym (others n apart) ∙ e)
  ]

  -- where all nodes have enough children, all but one have
  pub others_filled : (s : Nodes P) (at : ℕ) → NodesFilled by_form s → OthersFilled by_form s at
  others_filled s at h n x ne apart e = h n x ne e

  -- nodes that are the same have enough if they had
  pub same_filled : (s s' : Nodes P) → SameNodes s s' → NodesFilled by_form s → NodesFilled by_form s'
  same_filled s s' e h n x ne at = h n x ne (sym (e n) ∙ at)

  -- a node with another child in the place of one
  pub changed_enough : (x y : Form ℕ P) (byte : ℕ) (c d : Child ℕ P) → map.get (children_of x) byte ≡ Some d → Becomes x y (map.insert (children_of x) byte c) → HasEnough by_form x → HasEnough by_form y
  changed_enough x y byte c d there b f =
      let n : map.len (children_of y) ≡ map.len (children_of x) = ap map.len b.children ∙ len_kept (children_of x) byte c d there in
      enough_more x y b.form b.prefix (omega (arith, n)) f

  -- another child in the place of one leaves the nodes enough children if they had
  pub set_filled : (s s' : Nodes P) (at : ℕ) (x : Form ℕ P) (byte : ℕ) (c d : Child ℕ P) → get s at ≡ Some x → map.get (children_of x) byte ≡ Some d → Sets s s' at x (map.insert (children_of x) byte c) → NodesFilled by_form s → NodesFilled by_form s'
  set_filled s s' at x byte c d e there k h =
      filled_but s s' at k.node (others_filled s at h) (λ ne. changed_enough x k.node byte c d there k.becomes (h at x ne e)) k.updates.changed k.updates.others

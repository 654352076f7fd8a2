-- Changes of single nodes of a plain list.
use Rattle.std.proofs.Common.{◌≡◌, ◌≢◌, ℕ, subst, zero, suc, ◌<◌, ◌≤◌, ◌==◌, Bool, true, false, List, [], ◌∷◌, ◌++◌, length, get_or, set, take, drop, refl, sym, ◌∙◌, ap, arith, inl, inr}
use Rattle.std.specs.Prelude.{None, Some, slice_index}
use Rattle.std.proofs.Math.Seq.{take-append_seam}
use Rattle.std.proofs.lemmas.Bool.{cases_lt}
use Rattle.std.proofs.lemmas.List.{length-set, length-take-le, get_or-take}
use Rattle.congee.specs.declared.forms.child.Child.{Child}
use Rattle.congee.specs.declared.forms.child.Child.TheVariants as hanging
use Rattle.congee.specs.declared.protocol.plain_node.PlainNode.{PlainNode}
use Rattle.congee.specs.Heap.{Node, Nothing, Below, is_taken}
use Rattle.congee.specs.declared.forms.base_node.NodeType.{NodeType}
use Rattle.congee.specs.declared.forms.base_node.NodeType.TheVariants.{N4}
use Rattle.congee.specs.declared.protocol.store.Seen.{Seen}
use Rattle.congee.specs.declared.protocol.store.Upgrade.TheVariants.{Locked, Failed}
use Rattle.congee.specs.forms.Forms.{capacity_of}
use Rattle.congee.specs.protocol.Events.{hung, places, ChangeGives, HoldsValues, HoldsNodes, IsOther, TakeOverGives, NewNode, UpgradeGives, SeenTruly}
use Rattle.congee.specs.protocol.Bounds.{Within}
use Rattle.congee.specs.protocol.Plain.{count_of, child_at}
use Rattle.congee.specs.protocol.PlainHeap.{plain_node_of, plain_heap, IsFresh, IsTruly, SameWord, MovesTo}
use Rattle.congee.proofs.lemmas.protocol.PlainLemmas.{child_set, child_beside, count_set, none_beside_one, pair_alone, one_left, past, lacking, none_left, all_left}
use Rattle.congee.proofs.lemmas.protocol.Leftovers.{kept_node, kept_value}
use Rattle.congee.proofs.lemmas.owned.Joins.{front_fits}
use Rattle.congee.proofs.lemmas.Graft.{on_test}
use Rattle.congee.proofs.lemmas.Fits.{equal_of_test}

-- a node that was made is one of the list
made_within : (nodes : List PlainNode) (i : ℕ) → (plain_heap nodes i).made ≡ true → i < length nodes
made_within [] i m = absurd (let z : false ≡ true = m in cc)
made_within (x ∷ nodes) zero m = omega arith
made_within (x ∷ nodes) (suc i) m = omega (arith, made_within nodes i m)

-- a node that was made is the one in its place, whatever is read past the end
heap_is : (nodes : List PlainNode) (i : ℕ) (z : PlainNode) → (plain_heap nodes i).made ≡ true → plain_heap nodes i ≡ plain_node_of (Some (get_or nodes i z))
heap_is [] i z m = absurd (let q : false ≡ true = m in cc)
heap_is (x ∷ nodes) zero z m = refl
heap_is (x ∷ nodes) (suc i) z m = heap_is nodes i z m

-- a node that was made is the one that was read in its place
pub heap_at : (nodes : List PlainNode) (i : ℕ) (x : PlainNode) → (plain_heap nodes i).made ≡ true → x ≡ get_or nodes i x → plain_heap nodes i ≡ plain_node_of (Some x)
heap_at nodes i x m e = heap_is nodes i x m ∙ ap (λ y. plain_node_of (Some y)) (sym e)

-- a node that was set stands under its number
heap_set : (nodes : List PlainNode) (i : ℕ) (y : PlainNode) → i < length nodes → plain_heap (set nodes i y) i ≡ plain_node_of (Some y)
heap_set [] i y l = absurd (omega arith)
heap_set (x ∷ nodes) zero y l = refl
heap_set (x ∷ nodes) (suc i) y l = heap_set nodes i y (omega arith)

-- every other node is as it was where one is set
heap_beside : (nodes : List PlainNode) (i : ℕ) (y : PlainNode) (m : ℕ) → m ≢ i → plain_heap (set nodes i y) m ≡ plain_heap nodes m
heap_beside [] i y m ne = refl
heap_beside (x ∷ nodes) zero y zero ne = absurd (ne refl)
heap_beside (x ∷ nodes) zero y (suc m) ne = refl
heap_beside (x ∷ nodes) (suc i) y zero ne = refl
heap_beside (x ∷ nodes) (suc i) y (suc m) ne = heap_beside nodes i y m (λ e. ne (ap suc e))

-- a node that comes last stands under the next number
heap_push : (nodes : List PlainNode) (y : PlainNode) → plain_heap (nodes ++ y ∷ []) (length nodes) ≡ plain_node_of (Some y)
heap_push [] y = refl
heap_push (x ∷ nodes) y = heap_push nodes y

-- under the next number no node was made
heap_past : (nodes : List PlainNode) → plain_heap nodes (length nodes) ≡ plain_node_of None
heap_past [] = refl
heap_past (x ∷ nodes) = heap_past nodes

-- every other node is as it was where one comes last
heap_before : (nodes : List PlainNode) (y : PlainNode) (m : ℕ) → m ≢ length nodes → plain_heap (nodes ++ y ∷ []) m ≡ plain_heap nodes m
heap_before [] y zero ne = absurd (ne refl)
heap_before [] y (suc m) ne = refl
heap_before (x ∷ nodes) y zero ne = refl
heap_before (x ∷ nodes) y (suc m) ne = heap_before nodes y m (λ e. ne (ap suc e))

-- one child is put in, replaced or taken out
pub changed : (nodes : List PlainNode) (i b : ℕ) (child : Child ℕ ℕ) (x y : PlainNode) → (plain_heap nodes i).made ≡ true → x ≡ get_or nodes i x
    → SameWord x y → y.children.items ≡ set x.children.items b child → b < length x.children.items
    → ChangeGives (plain_heap nodes) i b (hung (λ n. n) child) (plain_heap (set nodes i y))
changed nodes i b child x y m at s e l =
    let before : plain_heap nodes i ≡ plain_node_of (Some x) = heap_at nodes i x m at in
    let after : plain_heap (set nodes i y) i ≡ plain_node_of (Some y) = heap_set nodes i y (made_within nodes i m) in
    record {
      prefix = rw (before, after) s.prefix_is;
      capacity = rw (before, after, s.form_is) refl;
      version = rw (before, after) s.version_is;
      locked = rw (before, after) s.locked_is;
      obsolete = rw (before, after) s.obsolete_is;
      made = rw (before, after) refl;
      destroyed = rw (before, after) s.destroyed_is;
      retired = rw (before, after) s.retired_is;
      child = rw (after, e) (child_set x.children.items b child l);
      beside = λ c ne. rw (before, after, e) (child_beside x.children.items b child c ne);
      count = rw (before, after, e) (count_set x.children.items b child l);
      others = heap_beside nodes i y;
    }

set_front : (xs : List PlainNode) (n : ℕ) (b : PlainNode) → n < length xs → take n xs ++ set (drop n xs) 0 b ≡ set xs n b
set_front [] n b l = absurd (omega arith)
set_front (x ∷ xs) zero b l = refl
set_front (x ∷ xs) (suc n) b l = ap (λ ys. x ∷ ys) (set_front xs n b (omega arith))

set_parts : (xs : List PlainNode) (i n : ℕ) (a b : PlainNode) → i < n → n < length xs → set (take n xs) i a ++ set (drop n xs) 0 b ≡ set (set xs i a) n b
set_parts [] i n a b l w = absurd (omega arith)
set_parts (x ∷ xs) i zero a b l w = absurd (omega arith)
set_parts (x ∷ xs) zero (suc n) a b l w = ap (λ ys. a ∷ ys) (set_front xs n b (omega arith))
set_parts (x ∷ xs) (suc i) (suc n) a b l w = ap (λ ys. x ∷ ys) (set_parts xs i n a b (omega arith) (omega arith))

-- two nodes of a list that was cut between them
written_back : (xs f k : List PlainNode) (size i n : ℕ) (a b : PlainNode) → size ≡ length xs → f ≡ take n xs → k ≡ drop n xs → i < n → n < length xs
    → take size (set f i a ++ set k 0 b ++ drop (length (set f i a ++ set k 0 b)) xs) ≡ set (set xs i a) n b
written_back xs f k size i n a b s ef ek l w =
    let e : set f i a ++ set k 0 b ≡ set (set xs i a) n b = rw (ef, ek) (set_parts xs i n a b l w) in
    let long : size ≡ length (set f i a ++ set k 0 b) = s ∙ sym (ap length e ∙ (length-set (set xs i a) n b ∙ length-set xs i a)) in
    let t : take size (set f i a ++ set k 0 b ++ drop (length (set f i a ++ set k 0 b)) xs) ≡ set f i a ++ set k 0 b = rw long (take-append_seam (set f i a ++ set k 0 b) _) in
    t ∙ e

get_or_drop : (xs : List PlainNode) (n : ℕ) (d : PlainNode) → get_or (drop n xs) 0 d ≡ get_or xs n d
get_or_drop [] zero d = refl
get_or_drop [] (suc n) d = refl
get_or_drop (x ∷ xs) zero d = refl
get_or_drop (x ∷ xs) (suc n) d = get_or_drop xs n d

-- the children of one node go over into another
taken_over : (nodes : List PlainNode) (i n : ℕ) (x y x' y' : PlainNode) → plain_heap nodes i ≡ plain_node_of (Some x) → plain_heap nodes n ≡ plain_node_of (Some y)
    → MovesTo x y x' y' → (h' : ℕ → Node ℕ) → h' i ≡ plain_node_of (Some x') → h' n ≡ plain_node_of (Some y') → ((m : ℕ) → m ≢ n → m ≢ i → h' m ≡ plain_heap nodes m)
    → TakeOverGives (plain_heap nodes) i n h'
taken_over nodes i n x y x' y' from to hands h' ei en others = record {
  children = λ b. rw (en, from, hands.moved) refl;
  count = rw (en, from, hands.moved) refl;
  prefix = rw (en, to) hands.new.prefix_is;
  capacity = rw (en, to, hands.new.form_is) refl;
  version = rw (en, to) hands.new.version_is;
  made = rw (en, to) refl;
  destroyed = rw (en, to) hands.new.destroyed_is;
  locked = rw (en, to) hands.new.locked_is;
  obsolete = rw (en, to) hands.new.obsolete_is;
  retired = rw (en, to) hands.new.retired_is;
  left = λ b. rw (ei, from) (hands.stay b);
  none_left = λ v. let P : Node ℕ → Type 0 = λ z. HoldsValues z in rw ei (none_left x'.children.items (λ b. hands.stay b ∙ kept_value (child_at x.children.items b) ((subst P from v) b)));
  all_left = λ v. let P : Node ℕ → Type 0 = λ z. HoldsNodes z in rw (ei, from) (all_left x.children.items x'.children.items hands.long (λ b. hands.stay b ∙ kept_node (child_at x.children.items b) ((subst P from v) b)));
  capacity_old = rw (ei, from, hands.old.form_is) refl;
  prefix_old = rw (ei, from) hands.old.prefix_is;
  version_old = rw (ei, from) hands.old.version_is;
  locked_old = rw (ei, from) hands.old.locked_is;
  obsolete_old = rw (ei, from) hands.old.obsolete_is;
  made_old = rw (ei, from) refl;
  destroyed_old = rw (ei, from) hands.old.destroyed_is;
  retired_old = rw (ei, from) hands.old.retired_is;
  others = others;
}

-- the list after two changes
two_set : (nodes : List PlainNode) (i n : ℕ) (x y : PlainNode) → i ≢ n → i < length nodes → n < length nodes
    → (plain_heap (set (set nodes i x) n y) i ≡ plain_node_of (Some x)) × (plain_heap (set (set nodes i x) n y) n ≡ plain_node_of (Some y))
    × ((m : ℕ) → m ≢ n → m ≢ i → plain_heap (set (set nodes i x) n y) m ≡ plain_heap nodes m)
two_set nodes i n x y ne li ln = (
  heap_beside (set nodes i x) n y i ne ∙ heap_set nodes i x li,
  heap_set (set nodes i x) n y (rw (length-set nodes i x) ln),
  λ m en ei. heap_beside (set nodes i x) n y m en ∙ heap_beside nodes i x m ei,
)

-- children go over to a node further back in the list, which was cut before that one
pub handed_on : (nodes f k : List PlainNode) (size i n : ℕ) (z w x' y' : PlainNode) → size ≡ length nodes → f ≡ take n nodes → k ≡ drop n nodes → i < n
    → (plain_heap nodes i).made ≡ true → (plain_heap nodes n).made ≡ true → MovesTo (get_or f i z) (get_or k 0 w) x' y'
    → TakeOverGives (plain_heap nodes) i n (plain_heap (take size (set f i x' ++ set k 0 y' ++ drop (length (set f i x' ++ set k 0 y')) nodes)))
handed_on nodes f k size i n z w x' y' s ef ek l mi mn hands =
    let ne : i ≢ n = λ e. absurd (omega (arith, e, l)) in
    let ln : n < length nodes = made_within nodes n mn in
    let at_i : get_or nodes i z ≡ get_or f i z = rw ef (sym (get_or-take n nodes i z l)) in
    let at_n : get_or nodes n w ≡ get_or k 0 w = rw ek (sym (get_or_drop nodes n w)) in
    let from = heap_is nodes i z mi ∙ ap (λ q. plain_node_of (Some q)) at_i in
    let to = heap_is nodes n w mn ∙ ap (λ q. plain_node_of (Some q)) at_n in
    let set_two = two_set nodes i n x' y' ne (made_within nodes i mi) ln in
    rw (written_back nodes f k size i n x' y' s ef ek l ln) (taken_over nodes i n _ _ x' y' from to hands _ set_two.0 set_two.1 set_two.2)

-- children go over to a node further in front in the list, which was cut before the one that gives them
pub handed_back : (nodes f k : List PlainNode) (size i n : ℕ) (z w x' y' : PlainNode) → size ≡ length nodes → f ≡ take i nodes → k ≡ drop i nodes → n < i
    → (plain_heap nodes i).made ≡ true → (plain_heap nodes n).made ≡ true → MovesTo (get_or k 0 z) (get_or f n w) x' y'
    → TakeOverGives (plain_heap nodes) i n (plain_heap (take size (set f n y' ++ set k 0 x' ++ drop (length (set f n y' ++ set k 0 x')) nodes)))
handed_back nodes f k size i n z w x' y' s ef ek l mi mn hands =
    let ne : i ≢ n = λ e. absurd (omega (arith, e, l)) in
    let li : i < length nodes = made_within nodes i mi in
    let at_i : get_or nodes i z ≡ get_or k 0 z = rw ek (sym (get_or_drop nodes i z)) in
    let at_n : get_or nodes n w ≡ get_or f n w = rw ef (sym (get_or-take i nodes n w l)) in
    let from = heap_is nodes i z mi ∙ ap (λ q. plain_node_of (Some q)) at_i in
    let to = heap_is nodes n w mn ∙ ap (λ q. plain_node_of (Some q)) at_n in
    let set_two = two_set nodes n i y' x' (λ e. ne (sym e)) (made_within nodes n mn) li in
    rw (written_back nodes f k size n i y' x' s ef ek l li) (taken_over nodes i n _ _ x' y' from to hands _ set_two.1 set_two.0 (λ m en ei. set_two.2 m ei en))

-- a form has room for as many children as it has places
pub places_of : (form : NodeType) → capacity_of form ≡ places form
places_of N4 = refl
places_of _ = refl

-- a fresh node that comes last is a new one under the next number
pub new_node : (nodes nodes' : List PlainNode) (name : ℕ) (y : PlainNode) (form : NodeType) (key : List ℕ) (size : ℕ) → name ≡ length nodes → nodes' ≡ nodes ++ y ∷ []
    → size ≤ length key → IsFresh y form (take size key) → NewNode (plain_heap nodes) name form key size (plain_heap nodes')
new_node nodes nodes' name y form key size en es l f =
    let past : plain_heap nodes name ≡ plain_node_of None = rw en (heap_past nodes) in
    let here : plain_heap nodes' name ≡ plain_node_of (Some y) = rw (en, es) (heap_push nodes y) in
    record {
      unmade = rw past refl;
      unlocked = rw past refl;
      fitted = rw (here, f.prefix_is) (front_fits size key l);
      long = rw (here, f.prefix_is) (length-take-le size key l);
      blank = λ b. rw here (f.blank b);
      empty = rw here f.empty;
      capacity = rw (here, f.form_is) (places_of form);
      version = rw here f.version_is;
      free = rw here f.unlocked;
      live = rw here f.live;
      made = rw here refl;
      kept = rw here f.kept;
      unretired = rw here f.unretired;
      others = λ m ne. rw es (heap_before nodes y m (λ e. ne (e ∙ sym en)));
    }

-- a store with one new node is within any limit
pub fresh_within : (x : PlainNode) (form : NodeType) (prefix : List ℕ) (most : ℕ) → IsFresh x form prefix → Within most (plain_heap (x ∷ []))
fresh_within x form prefix most f zero s = record {
  low = let e : x.version ≡ 0 = f.version_is in omega (arith, e);
  locked = λ l. let y : x.locked ≡ true = l in let z : true ≡ false = sym y ∙ f.unlocked in absurd cc;
}
fresh_within x form prefix most f (suc n) s = absurd (let z : false ≡ true = s.made in cc)

differ : (a b : ℕ) → a ≢ b → (a == b) ≡ false
differ a b ne = on_test (a == b) (λ t. absurd (ne (equal_of_test a b t))) (λ f. f)

-- a lock word that isn't the one taken
pub not_locked : (nodes : List PlainNode) (i v most : ℕ) (x : PlainNode) (fail : Bool) → v ≢ most → (plain_heap nodes i).made ≡ true → x ≡ get_or nodes i x
    → is_taken (plain_node_of (Some x)) v ≡ false → UpgradeGives most (plain_heap nodes) i v fail Failed (plain_heap nodes)
not_locked nodes i v most x fail ne m e taken = record {
  answer = rw (differ v most ne, heap_at nodes i x m e, taken) refl;
  step = refl;
}

-- a node whose lock word is the one taken is locked, below the greatest version and where no exchange is to fail
pub now_locked : (nodes : List PlainNode) (i v most : ℕ) (x z y : PlainNode) (fail : Bool) → fail ≡ false → v ≢ most → (plain_heap nodes i).made ≡ true → x ≡ get_or nodes i x → z ≡ get_or nodes i z
    → is_taken (plain_node_of (Some x)) v ≡ true → plain_node_of (Some y) ≡ record (plain_node_of (Some z)) { locked = true } → UpgradeGives most (plain_heap nodes) i v fail Locked (plain_heap (set nodes i y))
now_locked nodes i v most x z y fail ef ne m e ez taken same = record {
  answer = rw (differ v most ne, heap_at nodes i x m e, taken, ef) refl;
  step = record {
    after = rw (heap_at nodes i z m ez) (heap_set nodes i y (made_within nodes i m) ∙ same);
    others = heap_beside nodes i y;
  };
}

-- what a look at an unchanged node finds
pub seen_truly : (n : PlainNode) (key : List ℕ) (b depth : ℕ) (s : Seen ℕ ℕ) → depth ≡ length n.prefix → b ≡ slice_index key depth → b < 256 → IsTruly n b s → SeenTruly (λ c. c) (plain_node_of (Some n)) key s
seen_truly n key b depth s ed e l t =
    let at : b ≡ slice_index key (length n.prefix) = e ∙ ap (λ d. slice_index key d) ed in
    let child : hung (λ c. c) s.child ≡ child_at n.children.items (slice_index key (length n.prefix)) = t.child_is ∙ ap (λ y. child_at n.children.items y) at in
    let within : slice_index key (length n.prefix) < length n.children.items = omega (arith, l, at, n.wide) in
    record {
      child = child;
      count = t.count_is;
      full = λ _. t.full_is ∙ ap (λ y. y == capacity_of n.form) t.count_is;
      alone = λ one ne. none_beside_one n.children.items (slice_index key (length n.prefix)) one (λ q. ne (child ∙ q));
      room = λ q. (let w : count_of n.children.items < length n.children.items = lacking n.children.items (slice_index key (length n.prefix)) within (sym child ∙ q) in omega (arith, w, n.wide));
    }

-- a node that hangs beside the one at the byte, where there are two
pub other_of : (n : PlainNode) (b at c : ℕ) (y : Child ℕ ℕ) → count_of n.children.items ≡ 2 → child_at n.children.items b ≢ Nothing → at ≢ b → at < 256
    → y ≡ hanging.Node c → hung (λ m. m) y ≡ child_at n.children.items at → IsOther (plain_node_of (Some n)) b c
other_of n b at c y two there apart fits e child =
    let below : child_at n.children.items at ≡ Below c = sym child ∙ ap (λ z. hung (λ m. m) z) e in
    record {
      at = at;
      fits = fits;
      apart = apart;
      child = below;
      alone = λ x nb na. pair_alone n.children.items b at two (λ q. apart (sym q)) there (λ q. absurd (let z : Below c ≡ Nothing = sym below ∙ q in cc)) x nb na;
    }

-- a node with two children has one beside that at the byte, in one of its 256 places
pub none_other : (n : PlainNode) (b place : ℕ) → count_of n.children.items ≡ 2 → 256 ≤ place → ((q : ℕ) → q ≢ b → q < place → child_at n.children.items q ≡ Nothing) → ⊥
none_other n b place two far before =
    let all : (q : ℕ) → q ≢ b → child_at n.children.items q ≡ Nothing = (λ q ne. elim (cases_lt q place) [
      | inl lt ↦ before q ne lt
      | inr ge ↦ past n.children.items q (omega (arith, n.wide, far, ge))
    ]) in
    omega (arith, two, one_left n.children.items b all)

-- A step of a walk that goes back.
use Rattle.std.proofs.Common.{◌≡◌, ℕ, ◌<◌, ◌≤◌, ◌+◌, ◌-◌, ◌^◌, true, List, [], ◌∷◌, ◌++◌, length, length-append, get_or, inl, inr, refl, sym, subst, arith}
use Rattle.std.specs.Prelude.{Some, None}
use Rattle.std.proofs.lemmas.Bool.{cases_lt}
use Rattle.std.specs.Ordering.{nat_cmp}
use Rattle.std.specs.FinMap as map
use Rattle.slab.specs.Slab.{get, ContainsKey}
use Rattle.congee.specs.Heap.{Nothing, fits}
use Rattle.congee.specs.Keys.{key_bytes}
use Rattle.congee.specs.forms.Bytes.{IsFirst, IsLast}
use Rattle.congee.specs.forms.Forms.{children_of}
use Rattle.congee.specs.owned.Arena.{Nodes, IsTree, hung_in, heap_of}
use Rattle.congee.specs.owned.Cursor.{IsCursor, IsAt}
use Rattle.congee.specs.owned.Nearest.{IsGreatestPair}
use Rattle.congee.specs.owned.Stores.{StandsWith}
use Rattle.congee.specs.owned.Table.{pairs_of}
use Rattle.congee.specs.declared.forms.base_node.Node.{Node as Form}
use Rattle.congee.specs.declared.forms.child.Child.{Child}
use Rattle.congee.specs.declared.forms.child.Child.TheVariants.{Blank, Node as Sub, Value}
use Rattle.congee.specs.declared.owned.scan.Branch.{Branch}
use Rattle.congee.proofs.lemmas.owned.BackWalks.{back_entered, back_left, back_popped, entered_back, found_back, hangs, inline_back, none_behind, popped_back}
use Rattle.congee.proofs.lemmas.owned.Cursors.{SameAhead, branch_at, child_there, cursor_moved, few_before, few_below, last_of, nothing_blank, nothing_there}
use Rattle.congee.proofs.lemmas.owned.Standing.{Standing, standing_at}

-- it goes to another step, with the same pairs ahead
pub record MovesBack {P : Type 0} (s : Nodes P) (before xs ys : List Branch) (from n to : ℕ) : Type 0 where
  pub way : IsCursor s (ys ++ branch_at n to ∷ [])
  pub same : SameAhead s before (ys ++ branch_at n to ∷ [])
  pub fewer : back_left ys to < back_left xs from
  pub stands : ContainsKey s n
  pub few : length ys < 8

-- it stops before a pair, the last of those behind
pub record StopsBack {P : Type 0} (s : Nodes P) (before steps : List Branch) (key : ℕ) (v : P) : Type 0 where
  pub way : IsCursor s steps
  pub last : (end : ℕ) → IsAt s before end → IsGreatestPair (pairs_of s) end key v × IsAt s steps key

-- the child of the greatest byte below an end
record LastWith {X : Type 0} (m : map.FinMap nat_cmp X) (end b : ℕ) (c : X) : Type 0 where
  below : b < end
  here : map.get m b ≡ Some c
  after : (q : ℕ) → b < q → q < end → map.get m q ≡ None

-- the first child from the greatest byte on is its own
last_with : {X : Type 0} (m : map.FinMap nat_cmp X) (end l b : ℕ) (c : X) → IsLast m end l → IsFirst m l b c → LastWith m end b c
last_with m end l b c i f =
    let same : l ≡ b = elim (cases_lt l b) [
      | inl less ↦ (let some = i.here in let none = f.before l (omega arith) less in absurd (cc (some, none)))
      | inr more ↦ omega (arith, f.past, more)
    ] in
    record {
      below = omega (arith, i.below, same);
      here = f.here;
      after = λ q lo hi. i.after q (omega (arith, lo, same)) hi;
    }

-- from the greatest byte on there is a child
pub not_none : {X : Type 0} (m : map.FinMap nat_cmp X) (end l : ℕ) → IsLast m end l → ((b : ℕ) → l ≤ b → map.get m b ≡ None) → ⊥
not_none m end l i none = let some = i.here in let e = none l (omega arith) in absurd (cc (some, e))

module _ {P : Type 0} (s : Nodes P) (t : IsTree s) (xs : List Branch) (n from : ℕ) (way : IsCursor s (xs ++ branch_at n from ∷ [])) where
  -- a walk's step has passed 256 bytes at most
  pub bound_there : from ≤ 256
  bound_there = (last_of s t xs (branch_at n from) way).bound

  -- the node there
  node_there : Standing s n
  node_there = standing_at s n (last_of s t xs (branch_at n from) way).stands

  module _ (before : List Branch) (same : SameAhead s before (xs ++ branch_at n from ∷ [])) where
    -- nothing hangs before the step
    abbrev pub NoneBefore : Type 0
    NoneBefore = (x : Form ℕ P) → get s n ≡ Some x → (b : ℕ) → b < from → map.get (children_of x) b ≡ None

    free : NoneBefore → (b : ℕ) → b < from → (heap_of s n).children b ≡ Nothing
    free none b l = nothing_there s n 0 from node_there.node node_there.is (λ q lo hi. none node_there.node node_there.is q hi) b (omega arith) l

    -- it goes up
    pub goes_up_back : NoneBefore → (ys : List Branch) (m f : ℕ) → xs ≡ ys ++ branch_at m f ∷ [] → MovesBack s before xs ys from m (f - 1)
    goes_up_back none ys m f e =
        let h : IsCursor s ((ys ++ branch_at m f ∷ []) ++ branch_at n from ∷ []) = subst (λ zs. IsCursor s (zs ++ branch_at n from ∷ [])) e way in
        let w : SameAhead s before ((ys ++ branch_at m f ∷ []) ++ branch_at n from ∷ []) = subst (λ zs. SameAhead s before (zs ++ branch_at n from ∷ [])) e same in
        let both = popped_back s t before ys m f n from h (free none) w in
        let few = few_before s t (ys ++ branch_at m f ∷ []) (branch_at n from) h in
        let less : length ys < 7 = omega (arith, few, length-append ys (branch_at m f ∷ [])) in
        record {
          way = both.0;
          same = both.1;
          fewer = subst (λ zs. back_left ys (f - 1) < back_left zs from) (sym e) (back_popped ys m f from less);
          stands = (last_of s t ys (branch_at m (f - 1)) both.0).stands;
          few = omega (arith, less);
        }

    -- the step above has passed a byte
    pub passed_one : (ys : List Branch) (m f : ℕ) → xs ≡ ys ++ branch_at m f ∷ [] → 1 ≤ f
    passed_one ys m f e =
        let h : IsCursor s ((ys ++ branch_at m f ∷ []) ++ branch_at n from ∷ []) = subst (λ zs. IsCursor s (zs ++ branch_at n from ∷ [])) e way in
        omega (arith, (hangs s ys (branch_at m f) (branch_at n from) h).passed)

    -- at the root nothing is left
    pub nothing_back : NoneBefore → xs ≡ [] → (end : ℕ) → IsAt s before end → (q : ℕ) → q < end → map.get (pairs_of s) q ≡ None
    nothing_back none e end at =
        let h : IsCursor s (branch_at n from ∷ []) = subst (λ zs. IsCursor s (zs ++ branch_at n from ∷ [])) e way in
        let w : SameAhead s before (branch_at n from ∷ []) = subst (λ zs. SameAhead s before (zs ++ branch_at n from ∷ [])) e same in
        none_behind s t before n from end h (free none) w at

    module _ (l b : ℕ) (low : b < 256) where
      -- what hangs under the greatest byte before the step that has something
      abbrev pub HangsLast : Child ℕ P → Type 0
      HangsLast c = (x : Form ℕ P) → get s n ≡ Some x → IsLast (children_of x) from l × IsFirst (children_of x) l b c

      here : (c : Child ℕ P) → HangsLast c → LastWith (children_of node_there.node) from b c
      here c h = let both = h node_there.node node_there.is in last_with (children_of node_there.node) from l b c both.0 both.1

      child : (c : Child ℕ P) → HangsLast c → (heap_of s n).children b ≡ hung_in (Some c)
      child c h = child_there s n b node_there.node c c node_there.is (here c h).here refl

      none_after : (c : Child ℕ P) → HangsLast c → (q : ℕ) → b < q → q < from → (heap_of s n).children q ≡ Nothing
      none_after c h q lo hi = nothing_there s n (b + 1) from node_there.node node_there.is (λ k a z. (here c h).after k (omega (arith, a)) z) q (omega (arith, lo)) hi

      one_more : b + 1 ≤ 256
      one_more = omega (arith, low)

      under : (c : Child ℕ P) → HangsLast c → b < from
      under c h = (here c h).below

      moved : (c : Child ℕ P) → HangsLast c → IsCursor s (xs ++ branch_at n b ∷ [])
      moved c h = cursor_moved s xs n from b (omega (arith, low)) way

      -- no blank
      pub no_blank_back : HangsLast Blank → ⊥
      no_blank_back h = nothing_blank s t n b (last_of s t xs (branch_at n from) way).stands (child Blank h)

      -- a value
      pub stops_at_value : (key : ℕ) (v : P) → key < 2 ^ 64 → HangsLast (Value v)
          → (fits (heap_of s n).prefix (key_bytes key) ≡ true) × (get_or (key_bytes key) (length (heap_of s n).prefix) 0 ≡ b)
          → StopsBack s before (xs ++ branch_at n b ∷ []) key v
      stops_at_value key v large h has = record {
        way = moved (Value v) h;
        last = λ end at. found_back s t before xs n from b key end v way (under (Value v) h) large (none_after (Value v) h) (child (Value v) h) has.0 has.1 same at;
      }

      -- a leaf that lies in its place
      pub stops_at_leaf : (key below : ℕ) (v : P) → key < 2 ^ 64 → HangsLast (Sub below) → StandsWith s below key v → StopsBack s before (xs ++ branch_at n b ∷ []) key v
      stops_at_leaf key below v large h leaf = record {
        way = moved (Sub below) h;
        last = λ end at. inline_back s t before xs n from b below key end v way (under (Sub below) h) one_more large (none_after (Sub below) h) (child (Sub below) h) leaf same at;
      }

      -- a node with a slot of its own
      pub goes_down_back : (below : ℕ) → HangsLast (Sub below) → MovesBack s before xs (xs ++ branch_at n (b + 1) ∷ []) from below 256
      goes_down_back below h =
          let both = entered_back s t before xs n from b below way (under (Sub below) h) one_more (none_after (Sub below) h) (child (Sub below) h) same in
          record {
            way = both.0;
            same = both.1;
            fewer = back_entered xs n b from (few_below s t xs n from b below way (child (Sub below) h)) (under (Sub below) h);
            stands = (last_of s t (xs ++ branch_at n (b + 1) ∷ []) (branch_at below 256) both.0).stands;
            few = few_before s t (xs ++ branch_at n (b + 1) ∷ []) (branch_at below 256) both.0;
          }

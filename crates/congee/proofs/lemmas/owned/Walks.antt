-- How a walk goes on from the node that it is in.
use Rattle.std.proofs.Common.{◌≡◌, ℕ, ◌<◌, ◌≤◌, ◌+◌, ◌^◌, true, List, [], ◌∷◌, ◌++◌, length, get_or, refl, arith}
use Rattle.std.specs.Prelude.{Some, None}
use Rattle.std.specs.FinMap as map
use Rattle.slab.specs.Slab.{get, ContainsKey}
use Rattle.congee.specs.Heap.{Nothing, fits}
use Rattle.congee.specs.Keys.{key_bytes}
use Rattle.congee.specs.forms.Bytes.{IsFirst}
use Rattle.congee.specs.forms.Forms.{children_of}
use Rattle.congee.specs.owned.Arena.{Nodes, IsTree, hung_in, heap_of}
use Rattle.congee.specs.owned.Cursor.{IsCursor, IsAt, steps_left}
use Rattle.congee.specs.owned.Nearest.{IsLeastPair}
use Rattle.congee.specs.owned.Stores.{StandsWith}
use Rattle.congee.specs.owned.Table.{pairs_of}
use Rattle.congee.specs.declared.forms.base_node.Node.{Node as Form}
use Rattle.congee.specs.declared.forms.child.Child.{Child}
use Rattle.congee.specs.declared.forms.child.Child.TheVariants.{Blank, Node as Sub, Value}
use Rattle.congee.specs.declared.owned.scan.Branch.{Branch}
use Rattle.congee.proofs.lemmas.owned.Cursors.{SameAhead, branch_at, left_popped, left_passed, left_entered, nothing_there, nothing_more, child_there, cursor_cut, cursor_moved, cursor_down, few_below, few_before, last_of, nothing_blank, popped, entered, found, found_inline}
use Rattle.congee.proofs.lemmas.owned.Standing.{Standing, standing_at}

-- it goes on to other steps, with the same pairs ahead
pub record GoesOn {P : Type 0} (s : Nodes P) (before old new : List Branch) : Type 0 where
  pub way : IsCursor s new
  pub same : SameAhead s before new
  pub fewer : steps_left 8 new < steps_left 8 old

-- it passes a pair, the first of those ahead
pub record Passes {P : Type 0} (s : Nodes P) (before old new : List Branch) (key : ℕ) (v : P) : Type 0 where
  pub way : IsCursor s new
  pub fewer : steps_left 8 new < steps_left 8 old
  pub first : (from : ℕ) → IsAt s before from → IsLeastPair (pairs_of s) from key v × IsAt s new (key + 1)

-- it goes down
pub record GoesDown {P : Type 0} (s : Nodes P) (before old above : List Branch) (below : ℕ) : Type 0 where
  pub few : length above < 8
  pub stands : ContainsKey s below
  pub on : GoesOn s before old (above ++ branch_at below 0 ∷ [])

module _ {P : Type 0} (s : Nodes P) (t : IsTree s) (xs : List Branch) (n from : ℕ) (way : IsCursor s (xs ++ branch_at n from ∷ [])) where
  -- the node of a walk's last step stands
  pub stands_there : ContainsKey s n
  stands_there = (last_of s t xs (branch_at n from) way).stands

  -- above a walk's last step there are fewer than eight
  pub room_there : length xs < 8
  room_there = few_before s t xs (branch_at n from) way

  -- the node there
  there : Standing s n
  there = standing_at s n stands_there

  module _ (before : List Branch) (same : SameAhead s before (xs ++ branch_at n from ∷ [])) where
    -- the node has nothing left
    pub goes_up : ((x : Form ℕ P) → get s n ≡ Some x → (b : ℕ) → from ≤ b → map.get (children_of x) b ≡ None) → GoesOn s before (xs ++ branch_at n from ∷ []) xs
    goes_up none = record {
      way = cursor_cut s xs (branch_at n from) way;
      same = popped s t before xs n from way (nothing_more s n from there.node there.is (none there.node there.is)) same;
      fewer = left_popped xs n from room_there (last_of s t xs (branch_at n from) way).bound;
    }

    module _ (b : ℕ) (low : b < 256) where
      byte_low : b + 1 ≤ 256
      byte_low = omega (arith, low)

      -- what hangs under its next byte that has something
      abbrev pub HangsNext : Child ℕ P → Type 0
      HangsNext c = (x : Form ℕ P) → get s n ≡ Some x → IsFirst (children_of x) from b c

      here : (c : Child ℕ P) → HangsNext c → IsFirst (children_of there.node) from b c
      here c next = next there.node there.is

      child : (c : Child ℕ P) → HangsNext c → (heap_of s n).children b ≡ hung_in (Some c)
      child c next = child_there s n b there.node c c there.is (here c next).here refl

      none_before : (c : Child ℕ P) → HangsNext c → (q : ℕ) → from ≤ q → q < b → (heap_of s n).children q ≡ Nothing
      none_before c next = nothing_there s n from b there.node there.is (here c next).before

      -- no blank
      pub no_blank_there : HangsNext Blank → ⊥
      no_blank_there next = nothing_blank s t n b stands_there (child Blank next)

      -- a value
      pub passes_value : (key : ℕ) (v : P) → key < 2 ^ 64 → HangsNext (Value v)
          → (fits (heap_of s n).prefix (key_bytes key) ≡ true) × (get_or (key_bytes key) (length (heap_of s n).prefix) 0 ≡ b)
          → Passes s before (xs ++ branch_at n from ∷ []) (xs ++ branch_at n (b + 1) ∷ []) key v
      passes_value key v large next has = record {
        way = cursor_moved s xs n from (b + 1) byte_low way;
        fewer = left_passed xs n from (b + 1) room_there (omega (arith, (here (Value v) next).past)) byte_low;
        first = λ f at. found s t before xs n from b key f v way (here (Value v) next).past large (none_before (Value v) next) (child (Value v) next) has.0 has.1 same at;
      }

      -- a leaf that lies in its place
      pub passes_leaf : (key below : ℕ) (v : P) → key < 2 ^ 64 → HangsNext (Sub below) → StandsWith s below key v
          → Passes s before (xs ++ branch_at n from ∷ []) (xs ++ branch_at n (b + 1) ∷ []) key v
      passes_leaf key below v large next leaf = record {
        way = cursor_moved s xs n from (b + 1) byte_low way;
        fewer = left_passed xs n from (b + 1) room_there (omega (arith, (here (Sub below) next).past)) byte_low;
        first = λ f at. found_inline s t before xs n from b below key f v way (here (Sub below) next).past byte_low large (none_before (Sub below) next) (child (Sub below) next) leaf same at;
      }

      -- a node with a slot of its own
      pub goes_down : (below : ℕ) → HangsNext (Sub below) → GoesDown s before (xs ++ branch_at n from ∷ []) (xs ++ branch_at n (b + 1) ∷ []) below
      goes_down below next =
          let down = cursor_down s xs n from b below byte_low (child (Sub below) next) way in
          let few = few_below s t xs n from b below way (child (Sub below) next) in
          record {
            few = few_before s t (xs ++ branch_at n (b + 1) ∷ []) (branch_at below 0) down;
            stands = (last_of s t (xs ++ branch_at n (b + 1) ∷ []) (branch_at below 0) down).stands;
            on = record {
              way = down;
              same = entered s t before xs n from b below way (here (Sub below) next).past (none_before (Sub below) next) (child (Sub below) next) same;
              fewer = left_entered xs n from (b + 1) below few (omega (arith, (here (Sub below) next).past)) byte_low;
            };
          }

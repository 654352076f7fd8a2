-- A node that comes in another's place, and a node whose only child goes up: what their words, and those of the node above, have become.
use Rattle.std.specs.Prelude.{◌≡◌, ◌≢◌, ℕ, ◌<◌, true, false, List, Option, None, Some}
use Rattle.optimistic.specs.Layout.{room, width, byte_at, child_of, node_of, where_of}
use Rattle.optimistic.specs.declared.words.rule.Block.{Block}
use Rattle.optimistic.specs.declared.words.rule.Note.{Note}
use Rattle.optimistic.specs.declared.words.rule.View.{View}
use Rattle.optimistic.specs.words.Calls.{entry_of}
use Rattle.optimistic.specs.words.Kept.{calm_at, has}
use Rattle.optimistic.specs.words.Told.{HasForm}
use Rattle.optimistic.specs.Moves.{words_of}
use Rattle.optimistic.specs.forms.Children.{is_inner, IsForm, Becomes}
use Rattle.optimistic.specs.tree.Levels.{form_of, depth, stands, goes_on, pair_value, SameAt}
use Rattle.optimistic.specs.tree.Trees.{where_at, first_in, second_in, first_at, second_at}

-- Node a has a child on the way to the key: node n, of this form and depth
pub record IsOver (B : List Block) (a n key f d : ℕ) : Type 0 where
  pub inner : is_inner (form_of (where_at B a)) ≡ true
  pub covers : stands (where_at B a) key ≡ true
  pub on : goes_on (first_at B a key) (second_at B a key) key ≡ true
  pub names : node_of (first_at B a key) ≡ n
  pub where_below : where_at B n ≡ where_of f d key
  pub form_some : 0 < f
  pub form_low : f < 9
  pub depth_low : d < 8
  pub apart : a ≢ n

-- Node a's child there has these words from now on, and no other of its children changed
pub record IsLinked (B C : List Block) (a key c u : ℕ) : Type 0 where
  pub where_stays : where_at C a ≡ where_at B a
  pub becomes : Becomes (form_of (where_at B a)) (calm_at B a) (calm_at C a) (byte_at key (depth (where_at B a))) (λ k. c) u

-- Node m, which covered nothing, has come in place of node n, below node a, with the same children but for the key's, which has this value there
pub record Replaces (B C : List Block) (a n m key f g d : ℕ) (value : Option ℕ) : Type 0 where
  pub over : IsOver B a n key f d
  pub linked : IsLinked B C a key (child_of g d m) (where_of g d key)
  pub others : (p : ℕ) → p ≢ a → p ≢ n → p ≢ m → (j : ℕ) → calm_at C p j ≡ calm_at B p j
  pub am : a ≢ m
  pub nm : n ≢ m
  pub gone : where_at C n ≡ 0
  pub blank : where_at B m ≡ 0
  pub where_new : where_at C m ≡ where_of g d key
  pub new_some : 0 < g
  pub new_low : g < 9
  pub form_new : IsForm g (calm_at C m)
  pub below : (k : ℕ) → stands (where_of f d key) k ≡ true → k ≢ key → SameAt k (first_at B n k) (second_at B n k) (first_at C m k) (second_at C m k)
  pub off : goes_on (first_at B n key) (second_at B n key) key ≡ false
  pub ended : goes_on (first_at C m key) (second_at C m key) key ≡ false
  pub says : pair_value (first_at C m key) (second_at C m key) key ≡ value

-- Node n's child at this byte, of the words c and x, has gone up to node a, and node n covers nothing any more. Whatever else it had was the key's
pub record Lifts (B C : List Block) (a n key f d byte c x : ℕ) : Type 0 where
  pub over : IsOver B a n key f d
  pub linked : IsLinked B C a key c x
  pub others : (p : ℕ) → p ≢ a → p ≢ n → (j : ℕ) → calm_at C p j ≡ calm_at B p j
  pub gone : where_at C n ≡ 0
  pub only : (k : ℕ) → stands (where_of f d key) k ≡ true → k ≢ key → byte_at k d ≢ byte → (goes_on (first_at B n k) (second_at B n k) k ≡ false) × (pair_value (first_at B n k) (second_at B n k) k ≡ None)
  pub child : (k : ℕ) → stands (where_of f d key) k ≡ true → byte_at k d ≡ byte → (first_at B n k ≡ c) × (second_at B n k ≡ x)
  pub beyond : (k : ℕ) → stands (where_at B a) k ≡ true → byte_at k (depth (where_at B a)) ≡ byte_at key (depth (where_at B a)) → (stands (where_of f d key) k ≡ true → byte_at k d ≢ byte)
      → (goes_on c x k ≡ false) × (pair_value c x k ≡ None)
  pub off : goes_on (first_at B n key) (second_at B n key) key ≡ false
  pub other_byte : byte_at key d ≢ byte

-- what the hand says as it lets node a go: that nodes n and m are settled with it, and that this decides the write
abbrev pub rebuilt_note : ℕ → ℕ → ℕ → Option ℕ → Note
rebuilt_note n m key value = record { first = Some n; second = Some m; third = None; entry = Some (entry_of 0 key value); form = 0 }

-- Where a hand that had node a and its child n on the way to the key as they were settled, at the view u, and a node m that covers nothing, has
-- rebuilt the child in m, at the view y: a's child there is m, n covers nothing, and m has the children that n had, but for the key's
pub record IsRebuilt (a n m h f g key d : ℕ) (value : Option ℕ) (u y : View) : Type 0 where
  pub has_above : has y.mine a ≡ true
  pub has_old : has y.mine n ≡ true
  pub has_new : has y.mine m ≡ true
  pub above_form : HasForm a h y
  pub old_form : HasForm n f y
  pub new_form : HasForm m g y
  pub above_wide : 1 < width h
  pub old_wide : 1 < width f
  pub new_wide : 1 < width g
  pub above_room : 0 < room h
  pub new_room : 0 < room g
  pub above_settled : (j : ℕ) → 0 < j → j < width h → calm_at y.seen.calm a j ≡ words_of u a j
  pub old_settled : (j : ℕ) → 0 < j → j < width f → calm_at y.seen.calm n j ≡ words_of u n j
  pub blank : calm_at y.seen.calm m 1 ≡ 0
  pub above_is : form_of (words_of u a 1) ≡ h
  pub old_is : form_of (words_of u n 1) ≡ f
  pub new_is : form_of (words_of y m 1) ≡ g
  pub inner : is_inner h ≡ true
  pub covers : stands (words_of u a 1) key ≡ true
  pub on : goes_on (first_in (words_of u a) key) (second_in (words_of u a) key) key ≡ true
  pub names : node_of (first_in (words_of u a) key) ≡ n
  pub where_stays : words_of y a 1 ≡ words_of u a 1
  pub becomes : Becomes h (words_of u a) (words_of y a) (byte_at key (depth (words_of u a 1))) (λ k. child_of g d m) (where_of g d key)
  pub where_old : words_of u n 1 ≡ where_of f d key
  pub gone : words_of y n 1 ≡ 0
  pub where_new : words_of y m 1 ≡ where_of g d key
  pub form_new : IsForm g (words_of y m)
  pub form_some : 0 < f
  pub form_low : f < 9
  pub new_some : 0 < g
  pub new_low : g < 9
  pub depth_low : d < 8
  pub an : a ≢ n
  pub am : a ≢ m
  pub nm : n ≢ m
  pub below : (k : ℕ) → stands (where_of f d key) k ≡ true → k ≢ key → SameAt k (first_in (words_of u n) k) (second_in (words_of u n) k) (first_in (words_of y m) k) (second_in (words_of y m) k)
  pub off : goes_on (first_in (words_of u n) key) (second_in (words_of u n) key) key ≡ false
  pub ended : goes_on (first_in (words_of y m) key) (second_in (words_of y m) key) key ≡ false
  pub says : pair_value (first_in (words_of y m) key) (second_in (words_of y m) key) key ≡ value

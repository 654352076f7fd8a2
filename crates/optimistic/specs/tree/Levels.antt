-- What nodes mean, at any depth. The second word of a node says which keys it covers, its where: a depth, the first bytes of these keys, as
-- many as the depth, and the node's form. At a key's byte there a node has a child, of two words: none, a lone leaf with its value, or a
-- child word that names a node, and that node's where.
use Rattle.std.specs.Prelude.{◌≡◌, ◌≢◌, ℕ, ◌/◌, ◌%◌, ◌<◌, ◌==◌, ◌&&◌, ltb, Bool, true, false, List, if◌then◌else◌, Option, None, Some}
use Rattle.optimistic.specs.Layout.{tag_of, level_of, node_of, leaf_of, where_of}
use Rattle.optimistic.specs.declared.words.rule.Entry.{Entry}
use Rattle.optimistic.specs.words.Kept.{value_of}

-- the form and the depth that a where says
abbrev pub form_of : ℕ → ℕ
form_of w = w / 8 % 32

abbrev pub depth : ℕ → ℕ
depth w = w % 8

-- whether a node of this where covers a key
unfoldable pub stands : ℕ → ℕ → Bool
stands w key = ltb 0 (form_of w) && (w == where_of (form_of w) (depth w) key)

-- whether a child's two words fit each other: a child word of a form, and the where of a node of that form and depth
abbrev pub fits : ℕ → ℕ → Bool
fits first second = (ltb 0 (tag_of first) && ltb (tag_of first) 9) && ((form_of second == tag_of first) && (depth second == level_of first))

-- whether a child is a node that covers a key
unfoldable pub goes_on : ℕ → ℕ → ℕ → Bool
goes_on first second key = fits first second && stands second key

-- what a child that is no such node says of a key
unfoldable pub pair_value : ℕ → ℕ → ℕ → Option ℕ
pair_value first second key = if first == leaf_of key then Some second else None

-- Of nodes with these wheres, and with these children's words at each key: node n is the last on the way to a key
module _ (W : ℕ → ℕ) (F S : ℕ → ℕ → ℕ) where
  abbrev pub Ends : ℕ → ℕ → Type 0
  Ends n key = (stands (W n) key ≡ true) × (goes_on (F n key) (S n key) key ≡ false)

  -- node n is on the way to a key, and not the last
  abbrev pub Passes : ℕ → ℕ → Type 0
  Passes n key = (stands (W n) key ≡ true) × (goes_on (F n key) (S n key) key ≡ true)

  -- the node that is next on the way to a key has the where that the child's second word says, and is deeper
  abbrev pub Links : ℕ → ℕ → Type 0
  Links n key = (W (node_of (F n key)) ≡ S n key) × (depth (W n) < depth (S n key))

  -- A key has no two last nodes, and what it has there is what the log says; no two nodes have one child on the way to a key; and a child
  -- that is a node tells its where
  pub record Means (log : List Entry) : Type 0 where
    pub one : (n m key : ℕ) → Ends n key → Ends m key → n ≡ m
    pub means : (n key : ℕ) → Ends n key → pair_value (F n key) (S n key) key ≡ value_of key log
    pub alone : (n m key : ℕ) → Passes n key → Passes m key → node_of (F n key) ≡ node_of (F m key) → n ≡ m
    pub linked : (n key : ℕ) → Passes n key → Links n key

-- a child's two words say of a key what others did
pub record SameAt (key first second first' second' : ℕ) : Type 0 where
  pub goes : goes_on first' second' key ≡ goes_on first second key
  pub node : goes_on first second key ≡ true → (first' ≡ first) × (second' ≡ second)
  pub value : pair_value first' second' key ≡ pair_value first second key

-- How nodes change, with the wheres W and the children F, S before, and W', F', S' after: the node m, which covered no key, has come between
-- node n and its child f, x, with the where u, and node n's child is now c, which names m. The key, which f, x didn't go on to, has this value
-- at m
pub record IsSplit (W W' : ℕ → ℕ) (F S F' S' : ℕ → ℕ → ℕ) (n m u c f x key : ℕ) (value : Option ℕ) : Type 0 where
  pub blank : (k : ℕ) → stands (W m) k ≡ false
  pub others : (p : ℕ) → p ≢ m → W' p ≡ W p
  pub new : W' m ≡ u
  pub apart : n ≢ m
  pub names : node_of c ≡ m
  pub on : (k : ℕ) → stands u k ≡ true → goes_on c u k ≡ true
  pub elsewhere : (p k : ℕ) → p ≢ n → p ≢ m → (F' p k ≡ F p k) × (S' p k ≡ S p k)
  pub above : (k : ℕ) → stands u k ≡ true → (stands (W n) k ≡ true) × (F n k ≡ f) × (S n k ≡ x) × (F' n k ≡ c) × (S' n k ≡ u)
  pub beside : (k : ℕ) → stands (W n) k ≡ true → stands u k ≡ false → SameAt k (F n k) (S n k) (F' n k) (S' n k)
  pub below : (k : ℕ) → stands u k ≡ true → k ≢ key → SameAt k f x (F' m k) (S' m k)
  pub here : stands u key ≡ true
  pub off : goes_on f x key ≡ false
  pub ended : goes_on (F' m key) (S' m key) key ≡ false
  pub says : pair_value (F' m key) (S' m key) key ≡ value
  pub deep : depth (W n) < depth u
  pub deeper : (k : ℕ) → goes_on f x k ≡ true → depth u < depth x

-- the node m, which covered no key, has come in place of node n, below node a. Node n covers no key. The key, whose last node n was, has this
-- value at m
pub record IsReplaced (W W' : ℕ → ℕ) (F S F' S' : ℕ → ℕ → ℕ) (a n m key : ℕ) (value : Option ℕ) : Type 0 where
  pub blank : (k : ℕ) → stands (W m) k ≡ false
  pub gone : (k : ℕ) → stands (W' n) k ≡ false
  pub cover : (k : ℕ) → stands (W' m) k ≡ stands (W n) k
  pub deep : depth (W' m) ≡ depth (W n)
  pub others : (p : ℕ) → p ≢ n → p ≢ m → W' p ≡ W p
  pub an : a ≢ n
  pub am : a ≢ m
  pub nm : n ≢ m
  pub elsewhere : (p k : ℕ) → p ≢ a → p ≢ n → p ≢ m → (F' p k ≡ F p k) × (S' p k ≡ S p k)
  pub above : (k : ℕ) → stands (W n) k ≡ true → Passes W F S a k × (node_of (F a k) ≡ n) × (goes_on (F' a k) (S' a k) k ≡ true) × (node_of (F' a k) ≡ m) × (S' a k ≡ W' m)
  pub beside : (k : ℕ) → stands (W a) k ≡ true → stands (W n) k ≡ false → SameAt k (F a k) (S a k) (F' a k) (S' a k)
  pub below : (k : ℕ) → stands (W n) k ≡ true → k ≢ key → SameAt k (F n k) (S n k) (F' m k) (S' m k)
  pub here : Ends W F S n key
  pub ended : goes_on (F' m key) (S' m key) key ≡ false
  pub says : pair_value (F' m key) (S' m key) key ≡ value

-- node n, below node a, covers no key any more, and its only child has gone up to a. The key, whose last node n was, has this value at a
pub record IsLifted (W W' : ℕ → ℕ) (F S F' S' : ℕ → ℕ → ℕ) (a n key : ℕ) (value : Option ℕ) : Type 0 where
  pub gone : (k : ℕ) → stands (W' n) k ≡ false
  pub others : (p : ℕ) → p ≢ n → W' p ≡ W p
  pub an : a ≢ n
  pub elsewhere : (p k : ℕ) → p ≢ a → p ≢ n → (F' p k ≡ F p k) × (S' p k ≡ S p k)
  pub above : (k : ℕ) → stands (W n) k ≡ true → Passes W F S a k × (node_of (F a k) ≡ n)
  pub beside : (k : ℕ) → stands (W a) k ≡ true → stands (W n) k ≡ false → SameAt k (F a k) (S a k) (F' a k) (S' a k)
  pub below : (k : ℕ) → stands (W n) k ≡ true → k ≢ key → SameAt k (F n k) (S n k) (F' a k) (S' a k)
  pub here : Ends W F S n key
  pub ended : goes_on (F' a key) (S' a key) key ≡ false
  pub says : pair_value (F' a key) (S' a key) key ≡ value

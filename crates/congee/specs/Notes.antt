-- What is true of the tree and stands in no node: which nodes are in the tree, below which node each hangs,
-- who made it and who holds its lock.
use Rattle.std.specs.Prelude.{◌≡◌, ◌≢◌, ℕ, ◌==◌, cond, ◌<◌, ◌≤◌, Bool, true, false, List, [], length, slice_index, Option, None}
use Rattle.congee.specs.Heap.{Node, Nothing, Below, Holds, Stands, fits, child_for, is_free}
use Rattle.congee.specs.Keys.{key_bytes}
use Rattle.congee.specs.declared.forms.prefix.TheConstants.{MAX_PREFIX_LEN}

-- not made yet; held by call i, never in reach; in the tree; taken out of it; given back unused; destroyed
pub data Status : Type 0 where
  Unmade : Status
  Held : ℕ → Status
  Linked : Status
  Gone : Status
  Back : Status
  Destroyed : Status

-- a node's place in its life, the call that holds its lock, and the node above it
pub record Note : Type 0 where
  pub status : Status
  pub owner : Option ℕ
  pub parent : ℕ

-- whether the node is or was in reach, and stands
abbrev pub is_published : Status → Bool
is_published Unmade = false
is_published (Held i) = false
is_published Linked = true
is_published Gone = true
is_published Back = false
is_published Destroyed = false

-- whether the node's place was given back for good
abbrev pub is_spent : Status → Bool
is_spent Unmade = false
is_spent (Held i) = false
is_spent Linked = false
is_spent Gone = false
is_spent Back = true
is_spent Destroyed = true

-- c hangs at byte b of n: it is in the tree, and its prefix goes on from that of n by b
pub record IsChild {V : Type 0} (a : ℕ → Note) (h : ℕ → Node V) (n b c : ℕ) : Type 0 where
  pub linked : (a c).status ≡ Linked
  pub parent : (a c).parent ≡ n
  pub fitted : fits (h n).prefix (h c).prefix ≡ true
  pub longer : length (h n).prefix < length (h c).prefix
  pub byte : slice_index (h c).prefix (length (h n).prefix) ≡ b

-- the node that the notes name as its parent is in the tree and holds it
pub record HasParent {V : Type 0} (a : ℕ → Note) (h : ℕ → Node V) (n : ℕ) : Type 0 where
  pub linked : (a (a n).parent).status ≡ Linked
  pub byte : ℕ
  pub holds : (h (a n).parent).children byte ≡ Below n

-- the tree: the root has an empty prefix, no prefix is longer than seven bytes, values stand in the nodes with a
-- prefix of seven alone, what hangs in the tree is in it, and each node but the root hangs in one place
pub record Tree {V : Type 0} (a : ℕ → Note) (h : ℕ → Node V) : Type 0 where
  pub root : (a 0).status ≡ Linked
  pub empty : (h 0).prefix ≡ []
  pub short : (n : ℕ) → (a n).status ≡ Linked → length (h n).prefix ≤ MAX_PREFIX_LEN
  pub leaves : (n b : ℕ) (v : V) → (a n).status ≡ Linked → (h n).children b ≡ Holds v → length (h n).prefix ≡ MAX_PREFIX_LEN
  pub down : (n b c : ℕ) → (a n).status ≡ Linked → (h n).children b ≡ Below c → IsChild a h n b c
  pub up : (n : ℕ) → (a n).status ≡ Linked → n ≢ 0 → HasParent a h n

-- the bytes are the first of a key
unfoldable pub BeginsKey : List ℕ → Type 0
BeginsKey p = (k : ℕ) × (fits p (key_bytes k) ≡ true)

-- a node's lock word and life: one that isn't locked has no owner, one that was taken out is locked or obsolete, a
-- name that no node had is no node's, what is or was in reach stands, and what is in the tree is neither marked nor
-- handed over, and is on the way of a key
pub record WordAt {V : Type 0} (x : Note) (n : Node V) : Type 0 where
  pub free : n.locked ≡ false → x.owner ≡ None
  pub gone : x.status ≡ Gone → is_free n ≡ false
  pub unmade : n.made ≡ false → x.status ≡ Unmade
  pub stands : is_published x.status ≡ true → Stands n
  pub unretired : x.status ≡ Linked → n.retired ≡ false
  pub live : x.status ≡ Linked → n.obsolete ≡ false
  pub keyed : x.status ≡ Linked → BeginsKey n.prefix

-- of every node; and the root has 256 places
pub record LockWords {V : Type 0} (a : ℕ → Note) (h : ℕ → Node V) : Type 0 where
  pub each : (n : ℕ) → WordAt (a n) (h n)
  pub wide : (h 0).capacity ≡ 256

-- node m hangs at byte b of node n and has one child, o at byte q; o comes in its place, and m leaves the tree
pub record Lifts {V : Type 0} (a : ℕ → Note) (h : ℕ → Node V) (a' : ℕ → Note) (h' : ℕ → Node V) (n b m q o : ℕ) : Type 0 where
  pub linked : (a n).status ≡ Linked
  pub hung : (h n).children b ≡ Below m
  pub only : (h m).children q ≡ Below o
  pub alone : (c : ℕ) → c ≢ q → (h m).children c ≡ Nothing
  pub prefix : (h' n).prefix ≡ (h n).prefix
  pub prefix_low : (h' m).prefix ≡ (h m).prefix
  pub child : (h' n).children b ≡ Below o
  pub beside : (c : ℕ) → c ≢ b → (h' n).children c ≡ (h n).children c
  pub left : (a' m).status ≢ Linked
  pub stays : (x : ℕ) → x ≢ m → (a' x).status ≡ (a x).status
  pub parent : (a' o).parent ≡ n
  pub parents : (x : ℕ) → (a x).status ≡ Linked → x ≢ m → x ≢ o → (a' x).parent ≡ (a x).parent
  pub nodes : (x : ℕ) → x ≢ n → x ≢ m → h' x ≡ h x

-- leaf n with the key's value alone hangs in node p, which has one other child, o at byte q; p hangs at byte c of node g; o
-- comes in its place
pub record Collapses {V : Type 0} (a : ℕ → Note) (h : ℕ → Node V) (a' : ℕ → Note) (h' : ℕ → Node V) (g c p n q o : ℕ) (key : List ℕ) (v : V) : Type 0 where
  pub linked : (a g).status ≡ Linked
  pub hung : (h g).children c ≡ Below p
  pub fitted : fits (h p).prefix key ≡ true
  pub low : child_for (h p) key ≡ Below n
  pub fitted_leaf : fits (h n).prefix key ≡ true
  pub seven : length (h n).prefix ≡ MAX_PREFIX_LEN
  pub value : child_for (h n) key ≡ Holds v
  pub empty : (x : ℕ) → x ≢ slice_index key (length (h n).prefix) → (h n).children x ≡ Nothing
  pub other : (h p).children q ≡ Below o
  pub apart : q ≢ slice_index key (length (h p).prefix)
  pub alone : (x : ℕ) → x ≢ slice_index key (length (h p).prefix) → x ≢ q → (h p).children x ≡ Nothing
  pub prefix : (h' g).prefix ≡ (h g).prefix
  pub prefix_low : (h' p).prefix ≡ (h p).prefix
  pub child : (h' g).children c ≡ Below o
  pub beside : (x : ℕ) → x ≢ c → (h' g).children x ≡ (h g).children x
  pub left : (a' p).status ≢ Linked
  pub left_low : (a' n).status ≡ Gone
  pub stays : (x : ℕ) → x ≢ p → x ≢ n → (a' x).status ≡ (a x).status
  pub parent : (a' o).parent ≡ g
  pub parents : (x : ℕ) → (a x).status ≡ Linked → x ≢ p → x ≢ n → x ≢ o → (a' x).parent ≡ (a x).parent
  pub nodes : (x : ℕ) → x ≢ g → x ≢ p → h' x ≡ h x

-- the node x in the place of p
abbrev pub in_place_of : ℕ → ℕ → ℕ → ℕ
in_place_of p d x = cond (x == p) d x

-- leaf n with the key's value alone hangs in node p, which hangs at byte c of node g; node d with the other children of p comes
-- in its place
pub record Lessens {V : Type 0} (a : ℕ → Note) (h : ℕ → Node V) (a' : ℕ → Note) (h' : ℕ → Node V) (g c p n d : ℕ) (key : List ℕ) (v : V) : Type 0 where
  pub linked : (a g).status ≡ Linked
  pub hung : (h g).children c ≡ Below p
  pub fitted : fits (h p).prefix key ≡ true
  pub low : child_for (h p) key ≡ Below n
  pub fitted_leaf : fits (h n).prefix key ≡ true
  pub seven : length (h n).prefix ≡ MAX_PREFIX_LEN
  pub value : child_for (h n) key ≡ Holds v
  pub empty : (x : ℕ) → x ≢ slice_index key (length (h n).prefix) → (h n).children x ≡ Nothing
  pub unlinked : (a d).status ≢ Linked
  pub prefix : (h' g).prefix ≡ (h g).prefix
  pub child : (h' g).children c ≡ Below d
  pub beside : (x : ℕ) → x ≢ c → (h' g).children x ≡ (h g).children x
  pub same_prefix : (h' d).prefix ≡ (h p).prefix
  pub gap : (h' d).children (slice_index key (length (h p).prefix)) ≡ Nothing
  pub copied : (x : ℕ) → x ≢ slice_index key (length (h p).prefix) → (h' d).children x ≡ (h p).children x
  pub joined : (a' d).status ≡ Linked
  pub left : (a' p).status ≢ Linked
  pub left_low : (a' n).status ≡ Gone
  pub stays : (x : ℕ) → x ≢ p → x ≢ n → x ≢ d → (a' x).status ≡ (a x).status
  pub parent : (a' d).parent ≡ g
  pub parents : (x : ℕ) → (a x).status ≡ Linked → x ≢ p → x ≢ n → (a' x).parent ≡ in_place_of p d (a x).parent
  pub nodes : (x : ℕ) → x ≢ g → x ≢ p → x ≢ d → h' x ≡ h x

-- leaf n with the key's value hangs at byte c of node p; leaf d with its other values comes in its place
pub record Shrinks {V : Type 0} (a : ℕ → Note) (h : ℕ → Node V) (a' : ℕ → Note) (h' : ℕ → Node V) (p c n d : ℕ) (key : List ℕ) (v : V) : Type 0 where
  pub linked : (a p).status ≡ Linked
  pub hung : (h p).children c ≡ Below n
  pub fitted : fits (h n).prefix key ≡ true
  pub seven : length (h n).prefix ≡ MAX_PREFIX_LEN
  pub value : child_for (h n) key ≡ Holds v
  pub unlinked : (a d).status ≢ Linked
  pub prefix : (h' p).prefix ≡ (h p).prefix
  pub child : (h' p).children c ≡ Below d
  pub beside : (x : ℕ) → x ≢ c → (h' p).children x ≡ (h p).children x
  pub same_prefix : (h' d).prefix ≡ (h n).prefix
  pub gap : (h' d).children (slice_index key (length (h n).prefix)) ≡ Nothing
  pub copied : (x : ℕ) → x ≢ slice_index key (length (h n).prefix) → (h' d).children x ≡ (h n).children x
  pub joined : (a' d).status ≡ Linked
  pub left : (a' n).status ≢ Linked
  pub stays : (x : ℕ) → x ≢ n → x ≢ d → (a' x).status ≡ (a x).status
  pub parent : (a' d).parent ≡ p
  pub parents : (x : ℕ) → (a x).status ≡ Linked → x ≢ n → (a' x).parent ≡ in_place_of n d (a x).parent
  pub nodes : (x : ℕ) → x ≢ p → x ≢ n → x ≢ d → h' x ≡ h x

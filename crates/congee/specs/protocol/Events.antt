-- What each of the store's calls does to the nodes.
use Rattle.std.specs.Prelude.{◌≡◌, ◌≢◌, ℕ, ◌+◌, ◌==◌, ◌&&◌, ◌<◌, ◌≤◌, ◌⊎◌, not, Bool, true, false, List, length, slice_index, Result, Ok, Err, cond}
use Rattle.congee.specs.declared.forms.child.Child.{Child}
use Rattle.congee.specs.declared.forms.child.Child.TheVariants as child
use Rattle.congee.specs.declared.protocol.store.Reading.{Reading}
use Rattle.congee.specs.declared.protocol.store.Reading.TheVariants.{Differs, Fits, Uncopied}
use Rattle.congee.specs.declared.protocol.store.Seen.{Seen}
use Rattle.congee.specs.declared.protocol.store.Upgrade.{Upgrade}
use Rattle.congee.specs.declared.protocol.store.Upgrade.TheVariants.{Locked, Failed, Exhausted}
use Rattle.congee.specs.declared.forms.base_node.NodeType.{NodeType}
use Rattle.congee.specs.declared.forms.base_node.NodeType.TheVariants.{N4, N16, N48, N256}
use Rattle.congee.specs.declared.protocol.store.Refusal.{Refusal}
use Rattle.congee.specs.Heap.{Node, Hung, Nothing, Below, Holds, fits, child_for, is_taken}
use Rattle.congee.specs.declared.forms.prefix.TheConstants.{MAX_PREFIX_LEN}

-- what hangs at a byte, with nodes by their numbers
abbrev pub hung : {C V : Type 0} → (C → ℕ) → Child C V → Hung V
hung number child.Blank = Nothing
hung number (child.Node c) = Below (number c)
hung number (child.Value v) = Holds v

-- a prefix and a key that are alike in the first bytes and differ in the next
pub record Parts (p key : List ℕ) (common : ℕ) : Type 0 where
  pub short : common < length p
  pub seventh : common < MAX_PREFIX_LEN
  pub alike : (i : ℕ) → i < common → slice_index p i ≡ slice_index key i
  pub apart : slice_index p common ≢ slice_index key common

-- what a read finds of the children of a node whose lock word is the one taken: a node with one child has
-- nothing else, and one that lacks a byte has fewer than 256
pub record SeenTruly {C V : Type 0} (number : C → ℕ) (n : Node V) (key : List ℕ) (s : Seen C V) : Type 0 where
  pub child : hung number s.child ≡ child_for n key
  pub count : s.count ≡ n.count
  pub full : hung number s.child ≡ Nothing → s.full ≡ (n.count == n.capacity)
  pub alone : n.count ≡ 1 → hung number s.child ≢ Nothing → (b : ℕ) → b ≢ slice_index key (length n.prefix) → n.children b ≡ Nothing
  pub room : hung number s.child ≡ Nothing → n.count < 256

-- the places of a form
abbrev pub places : NodeType → ℕ
places N4 = 4
places N16 = 16
places N48 = 48
places N256 = 256

-- what a read of a node gives for a key: where its prefix differs, or what it finds if the lock word is the one taken
abbrev pub ReadGives : {C V : Type 0} → (C → ℕ) → Bool → Node V → ℕ → List ℕ → Reading C V → Type 0
ReadGives number always n v key (Differs common byte) = Parts n.prefix key common × (byte ≡ slice_index n.prefix common)
ReadGives number always n v key (Fits depth form s) = (fits n.prefix key ≡ true) × (depth ≡ length n.prefix) × (depth ≤ MAX_PREFIX_LEN) × (places form ≡ n.capacity) × (s.byte ≡ slice_index key depth)
    × (is_taken n v ≡ true → SeenTruly number n key s)
ReadGives {C} {V} number always n v key Uncopied = (fits n.prefix key ≡ true) × (always ≡ false) × (is_taken n v ≡ true → (x : V) × (child_for n key ≡ Holds x))

-- the nodes with one of them changed
pub record SameBut {V : Type 0} (h : ℕ → Node V) (n : ℕ) (x : Node V) (h' : ℕ → Node V) : Type 0 where
  pub after : h' n ≡ x
  pub others : (m : ℕ) → m ≢ n → h' m ≡ h m

-- an exchange of the lock word: none at the greatest version, none from another word or where it is to fail
abbrev pub upgrade_gives : {V : Type 0} → ℕ → Node V → ℕ → Bool → Upgrade
upgrade_gives most n v fail = cond (v == most) Exhausted (cond (is_taken n v && not fail) Locked Failed)

-- the node is locked where the exchange succeeds; else nothing changes
abbrev pub Locks : {V : Type 0} → (ℕ → Node V) → ℕ → Upgrade → (ℕ → Node V) → Type 0
Locks h n Locked h' = SameBut h n (record (h n) { locked = true }) h'
Locks h n Failed h' = h' ≡ h
Locks h n Exhausted h' = h' ≡ h

-- the exchange answers so, and leaves the nodes so
pub record UpgradeGives {V : Type 0} (most : ℕ) (h : ℕ → Node V) (n v : ℕ) (fail : Bool) (r : Upgrade) (h' : ℕ → Node V) : Type 0 where
  pub answer : r ≡ upgrade_gives most (h n) v fail
  pub step : Locks h n r h'

-- a new node: free, empty, of the form, on the key's way, under a name that no node had
pub record NewNode {V : Type 0} (h : ℕ → Node V) (n : ℕ) (form : NodeType) (key : List ℕ) (size : ℕ) (h' : ℕ → Node V) : Type 0 where
  pub unmade : (h n).made ≡ false
  pub unlocked : (h n).locked ≡ false
  pub fitted : fits (h' n).prefix key ≡ true
  pub long : length (h' n).prefix ≡ size
  pub blank : (b : ℕ) → (h' n).children b ≡ Nothing
  pub empty : (h' n).count ≡ 0
  pub capacity : (h' n).capacity ≡ places form
  pub version : (h' n).version ≡ 0
  pub free : (h' n).locked ≡ false
  pub live : (h' n).obsolete ≡ false
  pub made : (h' n).made ≡ true
  pub kept : (h' n).destroyed ≡ false
  pub unretired : (h' n).retired ≡ false
  pub others : (m : ℕ) → m ≢ n → h' m ≡ h m

-- a node is made, or nothing changes
abbrev pub MakeGives : {C V : Type 0} → (C → ℕ) → (ℕ → Node V) → NodeType → List ℕ → ℕ → Result C Refusal → (ℕ → Node V) → Type 0
MakeGives number h form key size (Ok c) h' = NewNode h (number c) form key size h'
MakeGives number h form key size (Err e) h' = h' ≡ h

-- a child comes only into a node with a place for it, and only a child that is there is taken out
abbrev pub MayChange : {V : Type 0} → Node V → ℕ → Hung V → Type 0
MayChange n b Nothing = n.children b ≢ Nothing
MayChange n b _ = n.children b ≡ Nothing → (n.count == n.capacity) ≡ false

-- how many children hang there
abbrev pub weight : {V : Type 0} → Hung V → ℕ
weight Nothing = 0
weight (Below c) = 1
weight (Holds v) = 1

-- one node's children change at one byte, and nothing else changes
pub record ChangeGives {V : Type 0} (h : ℕ → Node V) (n b : ℕ) (x : Hung V) (h' : ℕ → Node V) : Type 0 where
  pub prefix : (h' n).prefix ≡ (h n).prefix
  pub capacity : (h' n).capacity ≡ (h n).capacity
  pub version : (h' n).version ≡ (h n).version
  pub locked : (h' n).locked ≡ (h n).locked
  pub obsolete : (h' n).obsolete ≡ (h n).obsolete
  pub made : (h' n).made ≡ (h n).made
  pub destroyed : (h' n).destroyed ≡ (h n).destroyed
  pub retired : (h' n).retired ≡ (h n).retired
  pub child : (h' n).children b ≡ x
  pub beside : (c : ℕ) → c ≢ b → (h' n).children c ≡ (h n).children c
  pub count : (h' n).count + weight ((h n).children b) ≡ (h n).count + weight x
  pub others : (m : ℕ) → m ≢ n → h' m ≡ h m

-- a node holds values alone: at no byte a node
abbrev pub HoldsValues : {V : Type 0} → Node V → Type 0
HoldsValues n = (b c : ℕ) → n.children b ≢ Below c

-- a node holds nodes alone: at no byte a value
abbrev pub HoldsNodes : {V : Type 0} → Node V → Type 0
HoldsNodes {V} n = (b : ℕ) (v : V) → n.children b ≢ Holds v

-- it holds the one or the other
abbrev pub HoldsAlike : {V : Type 0} → Node V → Type 0
HoldsAlike n = HoldsValues n ⊎ HoldsNodes n

-- the only child beside the one at a byte
pub record IsOther {V : Type 0} (n : Node V) (b c : ℕ) : Type 0 where
  pub at : ℕ
  pub fits : at < 256
  pub apart : at ≢ b
  pub child : n.children at ≡ Below c
  pub alone : (x : ℕ) → x ≢ b → x ≢ at → n.children x ≡ Nothing

-- an empty node with a place for each child of the old one, which are alike
pub record TakesOver {V : Type 0} (old node : Node V) : Type 0 where
  pub empty : node.count ≡ 0
  pub room : old.count ≤ node.capacity
  pub alike : HoldsAlike old

-- what is left of a child that went over into another node: the name of a node
abbrev pub kept : {V : Type 0} → Hung V → Hung V
kept Nothing = Nothing
kept (Below c) = Below c
kept (Holds v) = Nothing

-- the children of node m go over into node c: its values are moved, its nodes stay in m too
pub record TakeOverGives {V : Type 0} (h : ℕ → Node V) (m c : ℕ) (h' : ℕ → Node V) : Type 0 where
  pub children : (b : ℕ) → (h' c).children b ≡ (h m).children b
  pub count : (h' c).count ≡ (h m).count
  pub prefix : (h' c).prefix ≡ (h c).prefix
  pub capacity : (h' c).capacity ≡ (h c).capacity
  pub version : (h' c).version ≡ (h c).version
  pub made : (h' c).made ≡ (h c).made
  pub destroyed : (h' c).destroyed ≡ (h c).destroyed
  pub locked : (h' c).locked ≡ (h c).locked
  pub obsolete : (h' c).obsolete ≡ (h c).obsolete
  pub retired : (h' c).retired ≡ (h c).retired
  pub left : (b : ℕ) → (h' m).children b ≡ kept ((h m).children b)
  pub none_left : HoldsValues (h m) → (h' m).count ≡ 0
  pub all_left : HoldsNodes (h m) → (h' m).count ≡ (h m).count
  pub prefix_old : (h' m).prefix ≡ (h m).prefix
  pub capacity_old : (h' m).capacity ≡ (h m).capacity
  pub version_old : (h' m).version ≡ (h m).version
  pub locked_old : (h' m).locked ≡ (h m).locked
  pub obsolete_old : (h' m).obsolete ≡ (h m).obsolete
  pub made_old : (h' m).made ≡ (h m).made
  pub destroyed_old : (h' m).destroyed ≡ (h m).destroyed
  pub retired_old : (h' m).retired ≡ (h m).retired
  pub others : (x : ℕ) → x ≢ c → x ≢ m → h' x ≡ h x

-- a node goes back, and its name names no other
pub record BackGives {V : Type 0} (h : ℕ → Node V) (n : ℕ) (h' : ℕ → Node V) : Type 0 where
  pub gone : (h' n).destroyed ≡ true
  pub made : (h' n).made ≡ true
  pub unlocked : (h' n).locked ≡ false
  pub others : (m : ℕ) → m ≢ n → h' m ≡ h m

-- a node is marked, and nothing else changes
abbrev pub ObsoleteGives : {V : Type 0} → (ℕ → Node V) → ℕ → (ℕ → Node V) → Type 0
ObsoleteGives h n h' = SameBut h n (record (h n) { obsolete = true }) h'

-- a node is handed over, and nothing else changes
abbrev pub RetireGives : {V : Type 0} → (ℕ → Node V) → ℕ → (ℕ → Node V) → Type 0
RetireGives h n h' = SameBut h n (record (h n) { retired = true }) h'

-- a node is unlocked with the next version, and nothing else changes
abbrev pub UnlockGives : {V : Type 0} → (ℕ → Node V) → ℕ → (ℕ → Node V) → Type 0
UnlockGives h n h' = SameBut h n (record (h n) { version = (h n).version + 1; locked = false }) h'

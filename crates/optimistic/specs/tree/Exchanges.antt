-- A node comes in another's place, or its only child goes up: what a hand knows meanwhile of the nodes that it has.
use Rattle.std.specs.Prelude.{◌≡◌, ◌≢◌, ℕ, ◌+◌, ◌*◌, ◌/◌, ◌^◌, ◌<◌, ◌⊎◌, true, false, ◌∷◌, Option}
use Rattle.optimistic.specs.Layout.{width, byte_at, child_of, tag_of, node_of, where_of}
use Rattle.optimistic.specs.declared.tree.locked.Both.{Both}
use Rattle.optimistic.specs.declared.tree.locked.Both.TheVariants.{Had, Busy, Exhausted}
use Rattle.optimistic.specs.declared.tree.locked.Locked.{Locked}
use Rattle.optimistic.specs.declared.tree.place.Place.{Place}
use Rattle.optimistic.specs.declared.tree.replace.Exchange.{Exchange}
use Rattle.optimistic.specs.declared.words.rule.Moment.{Moment}
use Rattle.optimistic.specs.declared.words.rule.View.{View}
use Rattle.optimistic.specs.words.Calls.{Later, Keeps}
use Rattle.optimistic.specs.words.Kept.{version_at, calm_at, has, value_of, Calm, Since, SameWords, Held, Sound}
use Rattle.optimistic.specs.words.Told.{tenure}
use Rattle.optimistic.specs.Moves.{words_of}
use Rattle.optimistic.specs.forms.Children.{is_inner, first_of, second_of, Becomes, Same}
use Rattle.optimistic.specs.forms.Copies.{own_first, own_second}
use Rattle.optimistic.specs.tree.Levels.{depth, goes_on}
use Rattle.optimistic.specs.tree.Locks.{HasEnded}
use Rattle.optimistic.specs.tree.Reads.{IsPlace}
use Rattle.optimistic.specs.tree.Sets.{HasNoMore}
use Rattle.optimistic.specs.tree.Trees.{IsTree}

-- a node that a hand has, at this version, which can grow
pub record IsHeld (l : Locked) (v : View) : Type 0 where
  pub place : IsPlace l.at v
  pub mine : has v.mine l.at.node ≡ true
  pub version : version_at v.seen.words l.at.node ≡ l.version
  pub bounded : l.version + 1 < 2 ^ 64

-- and that is as it was settled
pub record IsLocked (l : Locked) (v : View) : Type 0 where
  pub held : IsHeld l v
  pub settled : (j : ℕ) → 0 < j → j < width l.at.form → words_of v l.at.node j ≡ calm_at v.seen.calm l.at.node j

-- node n is the child of node a on the way to the key
pub record Hangs (a n : Place) (key : ℕ) (v : View) : Type 0 where
  pub inner : is_inner a.form ≡ true
  pub covers : words_of v a.node 1 ≡ where_of a.form a.level key
  pub below : words_of v n.node 1 ≡ where_of n.form n.level key
  pub on : goes_on (first_of a.form (words_of v a.node) key (byte_at key a.level)) (second_of a.form (words_of v a.node) key (byte_at key a.level)) key ≡ true
  pub names : node_of (first_of a.form (words_of v a.node) key (byte_at key a.level)) ≡ n.node

-- node n has of the key no child, or its leaf with this value
pub record Owns (n : Place) (key : ℕ) (x : Option ℕ) (v : View) : Type 0 where
  pub leaves : (is_inner n.form ≡ true) ⊎ (n.level ≡ 7)
  pub first : first_of n.form (words_of v n.node) key (byte_at key n.level) ≡ own_first x key
  pub second : own_first x key ≢ 0 → second_of n.form (words_of v n.node) key (byte_at key n.level) ≡ own_second x

-- whatever the moment is, the key has this value
abbrev pub HasValue : ℕ → Option ℕ → View → Type 0
HasValue key x v = (b : Moment) → Since v.seen b → Held v.mine v.seen b → Sound IsTree b → x ≡ value_of key b.log

-- three nodes that a hand has as they were settled, of which the new one covers nothing
pub record IsReady (e : Exchange) (v : View) : Type 0 where
  pub above : IsLocked e.above v
  pub old : IsLocked e.old v
  pub new : IsLocked e.new v
  pub an : e.above.at.node ≢ e.old.at.node
  pub am : e.above.at.node ≢ e.new.at.node
  pub nm : e.old.at.node ≢ e.new.at.node
  pub kind : is_inner e.new.at.form ≡ is_inner e.old.at.form
  pub level : e.new.at.level ≡ e.old.at.level
  pub blank : calm_at v.seen.calm e.new.at.node 1 ≡ 0

-- nodes are let go, in this order
abbrev pub LetsTwoGo : ℕ → ℕ → View → View → Type 0
LetsTwoGo a n v w = w.mine ≡ tenure n false ∷ (tenure a false ∷ v.mine)

abbrev pub LetsThreeGo : Exchange → View → View → Type 0
LetsThreeGo e v w = w.mine ≡ tenure e.new.at.node false ∷ (tenure e.old.at.node false ∷ (tenure e.above.at.node false ∷ v.mine))

-- a hand has no node more than before, and not these two
abbrev pub LetsPairGo : ℕ → ℕ → View → View → Type 0
LetsPairGo a n v w = (p : ℕ) → has w.mine p ≡ true → (p ≢ a) × (p ≢ n) × (has v.mine p ≡ true)

-- a hand that had the node above has that below it too, or has let the one above go
pub record HasPair (x : Locked) (y : Locked) (v w : View) : Type 0 where
  pub above : IsLocked x w
  pub old : IsLocked y w
  pub apart : x.at.node ≢ y.at.node
  pub keeps : Keeps v w
  pub since : Since v.seen w.seen

abbrev pub HasLower : Locked → Place → Both → View → View → Type 0
HasLower l n (Had x y) v w = (x ≡ l) × (y.at ≡ n) × HasPair x y v w × (w.mine ≡ tenure n.node true ∷ v.mine)
HasLower l n Busy v w = Keeps v w × Since v.seen w.seen × (w.mine ≡ tenure l.at.node false ∷ v.mine)
HasLower l n Exhausted v w = ⊥

-- a hand has two nodes more, or none
abbrev pub IsBoth : Place → Place → Both → View → View → Type 0
IsBoth a n (Had x y) v w = (x.at ≡ a) × (y.at ≡ n) × HasPair x y v w × (w.mine ≡ tenure n.node true ∷ (tenure a.node true ∷ v.mine))
IsBoth a n Busy v w = Keeps v w × Since v.seen w.seen × HasNoMore v w
IsBoth a n Exhausted v w = Keeps v w × Since v.seen w.seen × HasNoMore v w × HasEnded w.seen

-- the hand went on, has the nodes that it had, and these are settled as they were
pub record GoesOn (v w : View) : Type 0 where
  pub later : Later v w
  pub since : Since v.seen w.seen
  pub mine : w.mine ≡ v.mine
  pub calm : (p : ℕ) → has v.mine p ≡ true → Calm p v.seen w.seen

-- node a has this child on the way to the key from now on, and node n covers nothing
pub record IsHung (a n : Place) (key c u : ℕ) (v w : View) : Type 0 where
  pub goes : GoesOn v w
  pub becomes : Becomes a.form (words_of v a.node) (words_of w a.node) (byte_at key a.level) (λ k. c) u
  pub stays : words_of w a.node 1 ≡ words_of v a.node 1
  pub gone : words_of w n.node 1 ≡ 0
  pub others : (p : ℕ) → has v.mine p ≡ true → p ≢ a.node → p ≢ n.node → SameWords p v.seen w.seen

-- the new node is the child of the node above from now on, and covers what the old one did, which covers nothing
pub record IsExchanged (e : Exchange) (v w : View) : Type 0 where
  pub goes : GoesOn v w
  pub becomes : Becomes e.above.at.form (words_of v e.above.at.node) (words_of w e.above.at.node) (byte_at e.write.key e.above.at.level) (λ k. child_of e.new.at.form e.new.at.level e.new.at.node) (where_of e.new.at.form e.new.at.level e.write.key)
  pub stays : words_of w e.above.at.node 1 ≡ words_of v e.above.at.node 1
  pub gone : words_of w e.old.at.node 1 ≡ 0
  pub covers : words_of w e.new.at.node 1 ≡ where_of e.new.at.form e.new.at.level e.write.key
  pub filled : Same e.new.at.form (words_of w e.new.at.node) (words_of v e.new.at.node)

-- a key goes to this byte of a node that covers another key
abbrev pub GoesTo : Place → ℕ → ℕ → ℕ → Type 0
GoesTo n key byte k = (where_of n.form n.level k ≡ where_of n.form n.level key) × (byte_at k n.level ≡ byte)

-- the lone leaf or node of these words has only keys that go there
abbrev pub IsBelow : Place → ℕ → ℕ → ℕ → ℕ → Type 0
IsBelow n key byte c x = ((tag_of c ≡ 9) × GoesTo n key byte (key / 72057594037927936 * 72057594037927936 + c / 256))
    ⊎ ((0 < tag_of c) × (tag_of c < 9) × (n.level < depth x) × GoesTo n key byte x)

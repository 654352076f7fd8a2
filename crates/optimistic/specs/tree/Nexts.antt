-- The pairs that a log makes, in ascending order of keys, as the words of a tree that is closed tell them.
use Rattle.std.specs.Prelude.{◌≡◌, ℕ, ◌+◌, ◌%◌, ◌^◌, ◌<◌, ◌≤◌, true, false, List, Option, None, Some}
use Rattle.optimistic.specs.Layout.{prefix_of, where_of, node_of, tag_of, level_of}
use Rattle.optimistic.specs.declared.drain.nexts.Next.{Next}
use Rattle.optimistic.specs.declared.drain.nexts.Next.TheVariants.{Here, Down, After}
use Rattle.optimistic.specs.declared.drain.nexts.Pair.{Pair}
use Rattle.optimistic.specs.declared.tree.place.Place.{Place}
use Rattle.optimistic.specs.declared.words.rule.Block.{Block}
use Rattle.optimistic.specs.declared.words.rule.Entry.{Entry}
use Rattle.optimistic.specs.declared.words.rule.Plot.{Plot}
use Rattle.optimistic.specs.words.Kept.{version_at, form_at, size, value_of, moment, Sound}
use Rattle.optimistic.specs.tree.Levels.{goes_on, pair_value}
use Rattle.optimistic.specs.tree.Trees.{IsTree, where_at}

-- a child says nothing of a key: it isn't a node that covers the key, and has no value of it
abbrev pub IsSilent : ℕ → ℕ → ℕ → Type 0
IsSilent first second key = (goes_on first second key ≡ false) × (pair_value first second key ≡ None)

-- from a key up to `last`, which isn't before it, this holds
abbrev pub UpTo : ℕ → ℕ → (ℕ → Type 0) → Type 0
UpTo from last P = (from ≤ last) × ((k : ℕ) → from ≤ k → k ≤ last → P k)

-- two keys have as many first bytes in common
abbrev pub IsNear : ℕ → ℕ → ℕ → Type 0
IsNear level from k = prefix_of k level ≡ prefix_of from level

-- What the children F, S of keys that have as many first bytes in common with a key tell of the next pair from the key on
abbrev pub IsNext : ℕ → (F S : ℕ → ℕ) → ℕ → Next → Type 0
IsNext level F S from (Here x) = (goes_on (F from) (S from) from ≡ false) × (pair_value (F from) (S from) from ≡ Some x)
IsNext level F S from (Down p) = (goes_on (F from) (S from) from ≡ true) × (p.node ≡ node_of (F from)) × (p.form ≡ tag_of (F from)) × (p.level ≡ level_of (F from))
IsNext level F S from (After last) = UpTo from last (λ k. IsNear level from k × IsSilent (F k) (S k) k)

-- a place to go down to has a form and a level, and a key that is told isn't before the one that was asked for
abbrev pub IsPlaced : ℕ → Next → Type 0
IsPlaced from (Here x) = Unit {0}
IsPlaced from (Down p) = (0 < p.form) × (p.form < 9) × (p.level < 8)
IsPlaced from (After last) = from ≤ last

-- the same of what goes no further down
abbrev pub IsAnswer : ℕ → Next → Type 0
IsAnswer from (Here x) = Unit {0}
IsAnswer from (Down p) = ⊥
IsAnswer from (After last) = from ≤ last

-- a node of the place's form is there, and was last settled as one that covers the key
pub record Leads (plots : List Plot) (calm : List Block) (p : Place) (key : ℕ) : Type 0 where
  pub is : form_at plots p.node ≡ p.form
  pub covers : where_at calm p.node ≡ where_of p.form p.level key

-- what a node on the way to a key tells of the next pair from the key on
abbrev pub IsNextAt : List Plot → List Block → List Entry → Place → ℕ → Next → Type 0
IsNextAt plots calm log at from (Here x) = value_of from log ≡ Some x
IsNextAt plots calm log at from (Down p) = (at.level < p.level) × Leads plots calm p from
IsNextAt plots calm log at from (After last) = UpTo from last (λ k. value_of k log ≡ None)

-- the same of what goes no further down
abbrev pub IsTold : List Entry → ℕ → Next → Type 0
IsTold log from (Here x) = value_of from log ≡ Some x
IsTold log from (Down p) = ⊥
IsTold log from (After last) = UpTo from last (λ k. value_of k log ≡ None)

-- The words are those of a tree that the log makes, of which the root covers each key
pub record IsEnd (words : List ℕ) (plots : List Plot) (calm : List Block) (log : List Entry) : Type 0 where
  pub sound : Sound IsTree (moment words plots calm log)
  pub covers : where_at calm 16 ≡ 32

-- some node is locked
pub record HasLocked (words : List ℕ) (plots : List Plot) : Type 0 where
  pub node : ℕ
  pub some : 0 < size plots node
  pub odd : version_at words node % 2 ≡ 1

-- no key from one on and below another has a value
abbrev pub HasNone : List Entry → ℕ → ℕ → Type 0
HasNone log from to = (k : ℕ) → from ≤ k → k < to → value_of k log ≡ None

-- the first pair from a key on, and the key behind it
abbrev pub behind : Option Pair → ℕ
behind None = 2 ^ 64
behind (Some p) = p.key + 1

abbrev pub IsFirst : List Entry → ℕ → Option Pair → Type 0
IsFirst log from None = HasNone log from (2 ^ 64)
IsFirst log from (Some p) = (from ≤ p.key) × (value_of p.key log ≡ Some p.value) × HasNone log from p.key

-- the last pair below a key
abbrev pub IsLast : List Entry → ℕ → Option Pair → Type 0
IsLast log to None = HasNone log 0 to
IsLast log to (Some p) = (p.key < to) × (value_of p.key log ≡ Some p.value) × HasNone log (p.key + 1) to

-- the first pair from a key on and below another, and the last one
abbrev pub IsFirstIn : List Entry → (from to : ℕ) → Option Pair → Type 0
IsFirstIn log from to None = HasNone log from to
IsFirstIn log from to (Some p) = IsFirst log from (Some p) × (p.key < to)

abbrev pub IsLastIn : List Entry → (from to : ℕ) → Option Pair → Type 0
IsLastIn log from to None = HasNone log from to
IsLastIn log from to (Some p) = IsLast log to (Some p) × (from ≤ p.key)

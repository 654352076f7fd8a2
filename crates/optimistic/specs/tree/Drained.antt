-- The pairs of a tree that is closed.
use Rattle.std.specs.Prelude.{◌≡◌, ◌≢◌, ◌⊎◌, ℕ, ◌-◌, ◌^◌, ◌<◌, ◌≤◌, min, List, length, Some, unwrap_or}
use Rattle.std.specs.List.{AllPairs, Contains, FoldsTo}
use Rattle.optimistic.specs.declared.drain.nexts.Pair.{Pair}
use Rattle.optimistic.specs.declared.drain.pairs.Pairs.{Pairs}
use Rattle.optimistic.specs.declared.drain.pairs.Undrained.{Undrained}
use Rattle.optimistic.specs.declared.drain.pairs.Undrained.TheVariants.{Locked, Memory}
use Rattle.optimistic.specs.declared.words.rule.Block.{Block}
use Rattle.optimistic.specs.declared.words.rule.Entry.{Entry}
use Rattle.optimistic.specs.declared.words.rule.Moment.{Moment}
use Rattle.optimistic.specs.declared.words.rule.Plot.{Plot}
use Rattle.optimistic.specs.words.Kept.{value_of, calls_by, StartsWith, Sound}
use Rattle.optimistic.specs.words.Last.{words_in}
use Rattle.optimistic.specs.tree.Trees.{IsTree, where_at}
use Rattle.optimistic.specs.tree.Nexts.{IsEnd, HasLocked}

-- the key from which on the pairs are still to come
abbrev pub rest : Pairs → ℕ
rest p = unwrap_or p.from (2 ^ 64)

-- the pairs are those of a log of decided calls
abbrev pub HasLog : Pairs → List Entry → Type 0
HasLog p log = (plots : List Plot) × (calm : List Block) × IsEnd (words_in p.words) plots calm log

abbrev pub pair_of : ℕ → ℕ → Pair
pair_of key value = record { key = key; value = value }

-- the pairs that a log makes of the keys from one on and below another, in ascending order
pub record IsDrained (log : List Entry) (from to : ℕ) (pairs : List Pair) : Type 0 where
  pub ascending : AllPairs (λ p q. p.key < q.key) pairs
  pub told : (p : Pair) → Contains pairs p → (from ≤ p.key) × (p.key < to) × (value_of p.key log ≡ Some p.value)
  pub all : (key value : ℕ) → from ≤ key → key < to → value_of key log ≡ Some value → Contains pairs (pair_of key value)

-- some node is locked, whatever the log is
abbrev pub IsLocked : Pairs → Type 0
IsLocked p = (plots : List Plot) (calm : List Block) (log : List Entry) → IsEnd (words_in p.words) plots calm log → HasLocked (words_in p.words) plots

-- why not all were told
abbrev pub IsCause : Pairs → Undrained → Type 0
IsCause p Locked = IsLocked p
IsCause p Memory = Unit {0}

-- a log begins with these calls, and has of a thread its own calls and no others
abbrev pub Comes : List Entry → (seen made : List Entry) → ℕ → Type 0
Comes log seen made by = StartsWith log seen × (calls_by by log ≡ made)

-- All pairs are still to come, and are those of one log that comes after what a thread has seen, and after its calls
pub record IsClosed (seen made : List Entry) (by : ℕ) (p : Pairs) : Type 0 where
  pub log : List Entry
  pub all : rest p ≡ 0
  pub has : HasLog p log
  pub comes : Comes log seen made by

-- these are all pairs, of one log that comes after what a thread has seen, and after its calls
pub record IsAll (seen made : List Entry) (by : ℕ) (pairs : List Pair) : Type 0 where
  pub log : List Entry
  pub told : IsDrained log 0 (2 ^ 64) pairs
  pub comes : Comes log seen made by

-- so many pairs of which this holds, or more than 64 bits can count
abbrev pub IsNumber : (List Pair → Type 0) → ℕ → Type 0
IsNumber P n = (pairs : List Pair) × P pairs × (n ≡ min (length pairs) (2 ^ 64 - 1))

-- a closure was given these pairs, one after the other
abbrev pub Given : {F : Type 0} → (F → ℕ → ℕ → F → Type 0) → F → List Pair → F → Type 0
Given step f pairs g = FoldsTo (λ d p e. step d p.key p.value e) f pairs g

-- a closure was given the pairs of the keys from the one on that was next, and below another
pub record Gave {F : Type 0} (step : F → ℕ → ℕ → F → Type 0) (p : Pairs) (to : ℕ) (f g : F) : Type 0 where
  pub pairs : List Pair
  pub given : Given step f pairs g
  pub told : (log : List Entry) → HasLog p log → IsDrained log (rest p) to pairs

-- a closure was given all pairs, of one log that comes after what a thread has seen, and after its calls
abbrev pub GaveAll : {F : Type 0} → (F → ℕ → ℕ → F → Type 0) → (seen made : List Entry) → ℕ → F → F → Type 0
GaveAll step seen made by f g = (pairs : List Pair) × Given step f pairs g × IsAll seen made by pairs

-- at the end, which comes after what a thread has seen, the root is locked, or doesn't cover each key
pub record HasNoRoot (seen made : List Entry) (by : ℕ) : Type 0 where
  pub end : Moment
  pub sound : Sound IsTree end
  pub comes : Comes end.log seen made by
  pub cause : HasLocked end.words end.plots ⊎ (where_at end.calm 16 ≢ 32)

-- What scans tell: pairs that stood at moments within the call. A moment is a log of decided calls that begins with all that the worker had
-- seen when it called, and with which all begins that it has seen in the end.
use Rattle.std.specs.Prelude.{◌≡◌, ◌≢◌, ◌⊎◌, ℕ, ◌+◌, ◌-◌, ◌^◌, ◌<◌, ◌≤◌, min, List, [], ◌∷◌, length, map, Bool, MatchBool, Option, None, Some, IfSome}
use Rattle.std.specs.List.{AllPairs, Contains}
use Rattle.optimistic.specs.declared.drain.nexts.Pair.{Pair}
use Rattle.optimistic.specs.declared.words.rule.Entry.{Entry}
use Rattle.optimistic.specs.words.Kept.{value_of, StartsWith}
use Rattle.optimistic.specs.tree.Drained.{IsDrained, pair_of}
use Rattle.optimistic.specs.declared.tree.run.Run.{Run}
use Rattle.optimistic.specs.declared.tree.whole.Reached.{Reached}
use Rattle.optimistic.specs.tree.Nexts.{IsFirst, IsLast, IsFirstIn, IsLastIn, HasNone}
use Rattle.optimistic.specs.tree.Runs.{behind}
use Rattle.optimistic.specs.tree.Wholes.{IsRange}
use Rattle.optimistic.specs.face.Calls.{Known, Saw, Looked}

-- at one moment of the call this holds of the log
pub record Once (P : List Entry → Type 0) (v w : Known) : Type 0 where
  pub log : List Entry
  pub after : StartsWith log v.seen
  pub before : StartsWith w.seen log
  pub holds : P log

-- at one moment this was the first pair from a key on, or there was none
abbrev pub FirstFrom : ℕ → Option Pair → Known → Known → Type 0
FirstFrom from r v w = Looked v w × Once (λ log. IsFirst log from r) v w

-- at one moment these were the pairs of the keys from one on and below the next that is to be told, which is a later one, and of one node
pub record IsRunOf (r : Run) (from last places : ℕ) (pairs : List Pair) (v w : Known) : Type 0 where
  pub looked : Looked v w
  pub few : r.count ≤ places
  pub later : from < behind last r.next
  pub inside : IfSome r.next (λ k. k ≤ last)
  pub once : Once (λ log. IsDrained log from (behind last r.next) pairs) v w

-- at one moment this was the last pair below a key, or there was none
abbrev pub LastBelow : ℕ → Option Pair → Known → Known → Type 0
LastBelow to r v w = Looked v w × Once (λ log. IsLast log to r) v w

-- at one moment this was the first pair from a key on and below another, or the last one, or there was none
abbrev pub FirstIn : (from to : ℕ) → Option Pair → Known → Known → Type 0
FirstIn from to r v w = Looked v w × Once (λ log. IsFirstIn log from to r) v w

abbrev pub LastIn : (from to : ℕ) → Option Pair → Known → Known → Type 0
LastIn from to r v w = Looked v w × Once (λ log. IsLastIn log from to r) v w

-- at one moment no key had a value, or some key had one
abbrev pub Emptiness : Bool → Known → Known → Type 0
Emptiness empty v w = Looked v w × Once (λ log. MatchBool empty (HasNone log 0 (2 ^ 64)) ((key : ℕ) × (value_of key log ≢ None))) v w

-- each pair stood at a moment, and these moments rise, from one log up to another
abbrev pub Rise : List Entry → List Pair → List Entry → Type 0
Rise seen [] end = StartsWith end seen
Rise seen (p ∷ ps) end = (log : List Entry) × StartsWith log seen × (value_of p.key log ≡ Some p.value) × Rise log ps end

-- at one moment these were the pairs of the keys from one on and below another, or as many as there are places, the lowest
abbrev pub RangeAtOnce : (from to places : ℕ) → List Pair → Known → Known → Type 0
RangeAtOnce from to places pairs v w = Once (λ log. IsRange log from to places pairs) v w

-- a key had a value at each moment of the call
abbrev pub StoodThroughout : ℕ → Known → Known → Type 0
StoodThroughout key v w = (log : List Entry) → StartsWith log v.seen → StartsWith w.seen log → value_of key log ≢ None

abbrev pub HasKey : List Pair → ℕ → Type 0
HasKey pairs key = (value : ℕ) × Contains pairs (pair_of key value)

-- a key had no value at one moment
abbrev pub Lacked : ℕ → Known → Known → Type 0
Lacked key v w = Once (λ log. value_of key log ≡ None) v w

-- the keys from one on and below the next that is to be asked for
pub record IsSoFar (from next : ℕ) (v w : Known) (pairs : List Pair) : Type 0 where
  pub saw : Saw v w
  pub order : from ≤ next
  pub ascending : AllPairs (λ p q. p.key < q.key) pairs
  pub inside : (p : Pair) → Contains pairs p → (from ≤ p.key) × (p.key < next)
  pub stood : Rise v.seen pairs w.seen
  pub passed : (key : ℕ) → from ≤ key → key < next → HasKey pairs key ⊎ Lacked key v w

-- what some nodes told, one behind the other: the pairs of the keys from one on and below the next that is to be told, which is a later one
pub record IsFilled (r : Reached) (from last places : ℕ) (pairs : List Pair) (v w : Known) : Type 0 where
  pub few : r.count ≤ places
  pub later : from < behind last r.next
  pub inside : IfSome r.next (λ k. k ≤ last)
  pub far : IsSoFar from (behind last r.next) v w pairs

-- What a scan of the keys from one on and below another finds, for so many places: pairs in ascending order of keys, each of which stood at a
-- moment, and these moments rise. A key that stood throughout is there, unless the places are filled with lower ones
pub record IsScan (from to places : ℕ) (v w : Known) (pairs : List Pair) : Type 0 where
  pub few : length pairs ≤ places
  pub ascending : AllPairs (λ p q. p.key < q.key) pairs
  pub inside : (p : Pair) → Contains pairs p → (from ≤ p.key) × (p.key < to)
  pub stood : Rise v.seen pairs w.seen
  pub all : (key : ℕ) → from ≤ key → key < to → StoodThroughout key v w → HasKey pairs key ⊎ ((length pairs ≡ places) × ((p : Pair) → Contains pairs p → p.key < key))

-- a scan of the keys from one on and below another, with places for more than there are, finds so many pairs, or more than 64 bits can count
abbrev pub Counts : (from to : ℕ) → ℕ → Known → Known → Type 0
Counts from to n v w = (pairs : List Pair) × IsScan from to (length pairs + 1) v w pairs × (n ≡ min (length pairs) (2 ^ 64 - 1))

-- these are the keys of what a scan finds
abbrev pub keys_of : List Pair → List ℕ
keys_of pairs = map (λ (p : Pair). p.key) pairs

abbrev pub AreKeys : (from to places : ℕ) → Known → Known → List ℕ → Type 0
AreKeys from to places v w keys = (pairs : List Pair) × IsScan from to places v w pairs × (keys ≡ keys_of pairs)

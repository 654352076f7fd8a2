-- What backward scans tell: pairs that stood at moments within the call, from the greatest key down.
use Rattle.std.specs.Prelude.{◌≡◌, ◌⊎◌, ℕ, ◌+◌, ◌<◌, ◌≤◌, List, length, IfSome}
use Rattle.std.specs.List.{AllPairs, Contains}
use Rattle.optimistic.specs.declared.drain.nexts.Pair.{Pair}
use Rattle.optimistic.specs.declared.tree.run.Run.{Run}
use Rattle.optimistic.specs.tree.RunsBack.{lowest, IsDrainedBack}
use Rattle.optimistic.specs.tree.WholesBack.{IsRangeBack}
use Rattle.optimistic.specs.face.Calls.{Known, Looked}
use Rattle.optimistic.specs.face.Scans.{Once, Rise, StoodThroughout, HasKey}

-- at one moment these were the pairs of the keys up to one and above the next that is to be told, which is an earlier one, and of one node
pub record IsRunBackOf (r : Run) (from first places : ℕ) (pairs : List Pair) (v w : Known) : Type 0 where
  pub looked : Looked v w
  pub few : r.count ≤ places
  pub later : lowest first r.next ≤ from
  pub inside : IfSome r.next (λ k. first ≤ k)
  pub once : Once (λ log. IsDrainedBack log (lowest first r.next) (from + 1) pairs) v w

-- What a backward scan of the keys from one on and below another finds, for so many places: pairs in descending order of keys, each of which
-- stood at a moment, and these moments rise. A key that stood throughout is there, unless the places are filled with higher ones
pub record IsScanBack (from to places : ℕ) (v w : Known) (pairs : List Pair) : Type 0 where
  pub few : length pairs ≤ places
  pub descending : AllPairs (λ p q. q.key < p.key) pairs
  pub inside : (p : Pair) → Contains pairs p → (from ≤ p.key) × (p.key < to)
  pub stood : Rise v.seen pairs w.seen
  pub all : (key : ℕ) → from ≤ key → key < to → StoodThroughout key v w → HasKey pairs key ⊎ ((length pairs ≡ places) × ((p : Pair) → Contains pairs p → key < p.key))

-- at one moment these were the pairs of the keys from one on and below another, from the greatest down, or as many as there are places
abbrev pub RangeBackAtOnce : (from to places : ℕ) → List Pair → Known → Known → Type 0
RangeBackAtOnce from to places pairs v w = Once (λ log. IsRangeBack log from to places pairs) v w

-- Nodes of 256 places.
use Rattle.std.specs.Prelude.{◌≡◌, ℕ, ◌+◌, ◌*◌, ◌/◌, ◌%◌, ◌<◌, ◌≤◌, cond, eqb, List, get_or}
use Rattle.std.specs.Int.{bit_at}
use Rattle.std.specs.Ordering.{nat_cmp}
use Rattle.std.specs.FinMap as map
use Rattle.optimistic.specs.declared.forms.scan.Rest.{Rest}
use Rattle.optimistic.specs.forms.Held.{held}

-- each byte is its own place
abbrev pub here : ℕ → ℕ
here i = i

-- a child word that isn't 0 is a child
abbrev pub is_child : (ℕ → ℕ) → ℕ → ℕ
is_child word i = cond (eqb (word i) 0) 0 1

-- the map of 256 child words
unfoldable pub children : (ℕ → ℕ) → map.FinMap nat_cmp ℕ
children word = held here (is_child word) word 256

-- bit i of a list of words
abbrev pub bit_in : List ℕ → ℕ → ℕ
bit_in masks i = bit_at (get_or masks (i / 64) 0) (i % 64)

-- p is the first from `from` on whose bit is set, below n
abbrev pub IsNext : (ℕ → ℕ) → ℕ → ℕ → ℕ → Type 0
IsNext taken n from p = (from ≤ p) × (p < n) × (taken p ≡ 1) × ((k : ℕ) → from ≤ k → k < p → taken k ≡ 0)

-- No bit from one on is set before the rest's, which are those of its word, and none behind that word
pub record IsRest (masks : List ℕ) (from : ℕ) (r : Rest) : Type 0 where
  pub word : r.word < 4
  pub order : from ≤ r.at
  pub end : r.at ≤ (r.word + 1) * 64
  pub none : (k : ℕ) → from ≤ k → k < r.at → bit_in masks k ≡ 0
  pub bits : (k : ℕ) → r.at + k < (r.word + 1) * 64 → bit_at r.bits k ≡ bit_in masks (r.at + k)
  pub within : (k : ℕ) → (r.word + 1) * 64 ≤ r.at + k → bit_at r.bits k ≡ 0

-- a taken place has the byte
pub record HasPlace (key taken : ℕ → ℕ) (b : ℕ) : Type 0 where
  pub place : ℕ
  pub taken_there : taken place ≡ 1
  pub byte : key place ≡ b

-- of each byte whose bit is set, a taken place that has it
abbrev pub HasPlaces : (key taken : ℕ → ℕ) → (masks places : List ℕ) → Type 0
HasPlaces key taken masks places = (b : ℕ) → b < 256 → bit_in masks b ≡ 1 → (taken (get_or places b 0) ≡ 1) × (key (get_or places b 0) ≡ b)

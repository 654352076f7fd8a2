-- Pairs within a range of keys, as they are written to a slice.
use Rattle.std.specs.Prelude.{◌≡◌, ℕ, ◌<◌, ◌≤◌, ◌+◌, ◌-◌, true, false, List, [], ◌∷◌, ◌++◌, length, take, drop, set}
use Rattle.std.specs.FinMap as map
use Rattle.congee.specs.owned.Arena.{Nodes}
use Rattle.congee.specs.owned.Cursor.{IsCursor, IsAt}
use Rattle.congee.specs.owned.Ranges.{entries_by, in_range}
use Rattle.congee.specs.owned.Table.{pairs_of}
use Rattle.congee.specs.declared.owned.scan.Branch.{Branch}
use Rattle.congee.specs.declared.owned.writing.Written.{Written}

module _ {E : Type 0} where
  -- more places are written, and those past them are as before
  pub record WritesMore (count : ℕ) (old new : List E) (w : Written) : Type 0 where
    pub more : count ≤ w.count
    pub within : w.count ≤ length new
    pub long : length new ≡ length old
    pub past : drop w.count new ≡ drop w.count old

  -- one more entry is written
  pub record PutsOne (count : ℕ) (entry : E) (old new : List E) (w : Written) : Type 0 where
    pub room : count < length old
    pub count_is : w.count ≡ count + 1
    pub set_is : new ≡ set old count entry

  -- or nothing is
  pub record PutsNothing (count : ℕ) (old new : List E) (w : Written) : Type 0 where
    pub count_is : w.count ≡ count
    pub same : new ≡ old

module _ {P E : Type 0} (s : Nodes P) (entry : ℕ → P → E) (last : ℕ) where
  -- the pairs from a number on, up to the last one, after the first `count` places of a slice, as many as it has room for
  abbrev pub with_pairs : List E → ℕ → ℕ → List E
  with_pairs out count from = take count out ++ take (length out - count) (entries_by entry (in_range from (last + 1) (map.entries (pairs_of s))))

  -- more pairs come: those ahead of the steps are the ones from a number on, and they make the slice what it was to be
  pub record Continues (above : List Branch) (out : List E) (count : ℕ) (all : List E) : Type 0 where
    pub from : ℕ
    pub at : IsAt s above from
    pub pairs : with_pairs out count from ≡ all

  -- the slice is what it was to be, or the pairs ahead of the steps make it so
  pub record Remains (above : List Branch) (out : List E) (w : Written) (all : List E) : Type 0 where
    pub over : w.over ≡ true → take w.count out ≡ all
    pub next : w.over ≡ false → Continues above out w.count all

  -- the pairs of a node from a byte on are written. Where those ahead of its step and of the steps above are the pairs from a
  -- number on, those ahead of the steps above are left for the rest of the slice
  abbrev pub WritesNode : ℕ → ℕ → ℕ → List E → List E → Written → Type 0
  WritesNode at byte count old new w = (above : List Branch) (from : ℕ) → IsCursor s (above ++ record { node = at; from = byte } ∷ [])
      → IsAt s (above ++ record { node = at; from = byte } ∷ []) from → Remains above new w (with_pairs old count from)

  -- the pairs under a node's byte are written, the first that has some from another byte on. The step is past it then
  abbrev pub WritesByte : ℕ → ℕ → ℕ → ℕ → List E → List E → Written → Type 0
  WritesByte at from byte count old new w = (above : List Branch) (first : ℕ) → IsCursor s (above ++ record { node = at; from = from } ∷ [])
      → IsAt s (above ++ record { node = at; from = from } ∷ []) first
      → IsCursor s (above ++ record { node = at; from = byte + 1 } ∷ []) × Remains (above ++ record { node = at; from = byte + 1 } ∷ []) new w (with_pairs old count first)

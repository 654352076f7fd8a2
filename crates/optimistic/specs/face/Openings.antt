-- An index that was opened with pairs.
use Rattle.std.specs.Prelude.{◌≡◌, ℕ, [], List, ◌<◌, length}
use Rattle.optimistic.specs.declared.drain.nexts.Pair.{Pair}
use Rattle.optimistic.specs.declared.face.open.Filled.{Filled}
use Rattle.optimistic.specs.declared.face.refusal.Unfilled.{Unfilled}
use Rattle.optimistic.specs.declared.face.refusal.Unfilled.TheVariants.{Unopened, Uninserted}
use Rattle.optimistic.specs.declared.words.rule.Entry.{Entry}
use Rattle.optimistic.specs.words.Kept.{calls_by}
use Rattle.optimistic.specs.face.Calls.{Known}
use Rattle.optimistic.specs.face.Many.{PutAll}
use Rattle.optimistic.specs.face.Refusals.{IsUnopened}
use Rattle.optimistic.specs.tree.Drained.{IsAll}

-- an index of so many words, where a worker that had made no call put each pair's value at its key, one after the other
pub record IsOpenedWith (words : ℕ) (pairs : List Pair) (f : Filled) : Type 0 where
  pub size : f.index.tree.nodes.table.shared.table_id.words ≡ words
  pub own : f.last.index ≡ f.index.tree.nodes.table.shared.table_id
  pub first : Known
  pub new : (first.made ≡ []) × (calls_by first.by first.seen ≡ [])
  pub put : PutAll pairs first f.last

-- the same, of all pairs of one log that comes after what a thread has seen, and after its calls
abbrev pub IsReopened : (seen made : List Entry) → ℕ → ℕ → Filled → Type 0
IsReopened seen made by words f = (pairs : List Pair) × IsAll seen made by pairs × IsOpenedWith words pairs f

-- there is no such index, or a pair was refused
abbrev pub IsUnfilled : ℕ → List Pair → Unfilled → Type 0
IsUnfilled words pairs (Unopened e) = IsUnopened words e
IsUnfilled words pairs (Uninserted e) = e.place < length pairs

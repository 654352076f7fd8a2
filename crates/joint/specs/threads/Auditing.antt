-- What a journal has of the entries that its workers keep for themselves.
use Rattle.std.specs.Prelude.{◌≡◌, ◌==◌, ◌<◌, ℕ, All, List, Some, Vec, filter, length, slice_get}
use Rattle.judge.specs.declared.journal.Entry.{Entry}

-- the entries of one worker, in the journal's order
abbrev pub of_worker : {V : Type 0} → ℕ → List (Entry V) → List (Entry V)
of_worker worker journal = filter (λ e. e.worker == worker) journal

-- each list is the journal's entries of its worker
abbrev pub AreOwn : {V A : Type 0} → List (Entry V) → List (Vec (Entry V) A) → Type 0
AreOwn {V} {A} journal own = (i : ℕ) (list : Vec (Entry V) A) → slice_get own i ≡ Some list → list.items ≡ of_worker i journal

-- and every entry's worker has a list
pub record IsAudited {V A : Type 0} (journal : List (Entry V)) (own : List (Vec (Entry V) A)) : Type 0 where
  pub lists : AreOwn journal own
  pub named : All (λ e. e.worker < length own) journal

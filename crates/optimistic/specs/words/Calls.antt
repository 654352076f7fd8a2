-- What a call of a structure does to what its hand has seen.
use Rattle.std.specs.Prelude.{◌≡◌, ℕ, List, [], ◌∷◌, ◌++◌, Option}
use Rattle.optimistic.specs.declared.words.rule.Entry.{Entry}
use Rattle.optimistic.specs.declared.words.rule.View.{View}
use Rattle.optimistic.specs.words.Kept.{calls_by, StartsWith}

-- a hand has seen no less than before, and has made no call more
abbrev pub Later : View → View → Type 0
Later v w = StartsWith w.seen.log v.seen.log × (w.made ≡ v.made) × (w.by ≡ v.by)

-- the same, and its calls are all that the log has of it
abbrev pub Keeps : View → View → Type 0
Keeps v w = Later v w × (calls_by w.by w.seen.log ≡ w.made)

abbrev pub entry_of : ℕ → ℕ → Option ℕ → Entry
entry_of by key value = record { by = by; key = key; value = value }

-- A write was made. What was seen afterwards begins with what was seen before, and has the write behind it, which is one more of the
-- hand's calls. These are all that the log has of it
abbrev pub Puts : ℕ → Option ℕ → View → View → Type 0
Puts key value v w =
    (between after : List Entry) × (w.seen.log ≡ ((v.seen.log ++ between) ++ entry_of v.by key value ∷ []) ++ after)
    × (w.made ≡ v.made ++ entry_of v.by key value ∷ []) × (w.by ≡ v.by) × (calls_by w.by w.seen.log ≡ w.made)

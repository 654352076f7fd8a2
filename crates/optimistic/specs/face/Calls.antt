-- What a worker knows, and what its calls do to that.
use Rattle.std.specs.Prelude.{◌≡◌, ℕ, List, [], ◌∷◌, ◌++◌, Option}
use Rattle.std.specs.List.{Contains}
use Rattle.atomic_table.specs.Seated.{TableId}
use Rattle.optimistic.specs.declared.words.rule.Entry.{Entry}
use Rattle.optimistic.specs.declared.words.rule.Moment.{Moment}
use Rattle.optimistic.specs.words.Calls.{entry_of}
use Rattle.optimistic.specs.words.Kept.{calls_by, value_of, StartsWith}

-- its index, the words and nodes as it last saw them, the log as far as it has seen it, its own calls, and its number in the log
pub record Known : Type 0 where
  pub index : TableId
  pub moment : Moment
  pub seen : List Entry
  pub made : List Entry
  pub by : ℕ

-- it has seen no less, and has made no call more
abbrev pub Saw : Known → Known → Type 0
Saw v w = (w.index ≡ v.index) × (w.by ≡ v.by) × (w.made ≡ v.made) × StartsWith w.seen v.seen

-- the same, and its own calls are all that the log has of it
abbrev pub Looked : Known → Known → Type 0
Looked v w = Saw v w × (calls_by w.by w.seen ≡ w.made)

-- A key was written. What it has seen begins with what it had seen before, and goes on with calls of others, its own call, and calls of
-- others; right before its own one the key had this
abbrev pub Wrote : ℕ → Option ℕ → Option ℕ → Known → Known → Type 0
Wrote key value old v w =
    (w.index ≡ v.index) × (w.by ≡ v.by) × (w.made ≡ v.made ++ entry_of v.by key value ∷ []) × (calls_by w.by w.seen ≡ w.made)
    × ((between after : List Entry) × (w.seen ≡ ((v.seen ++ between) ++ entry_of v.by key value ∷ []) ++ after) × (old ≡ value_of key (v.seen ++ between)))

-- a look-up: the key has this, after all that was seen
abbrev pub Found : ℕ → Option ℕ → Known → Known → Type 0
Found key x v w = Looked v w × (x ≡ value_of key w.seen)

-- a log has a call that gave a key this
pub record HasCall (key : ℕ) (x : Option ℕ) (log : List Entry) : Type 0 where
  pub call : Entry
  pub there : Contains log call
  pub its_key : call.key ≡ key
  pub its_value : call.value ≡ x

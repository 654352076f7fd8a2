-- A store whose rows have versions: what a reader is told of them.
use Rattle.std.specs.Prelude.{◌≡◌, ℕ, ◌+◌, ◌-◌, ◌≤◌, ◌<◌, ◌^◌, ◌%◌, ◌==◌, ◌&&◌, nat_le, cond, ◌⊎◌, List, [], ◌∷◌, Option, None, Some, IsSome}
use Rattle.std.specs.FinMap as map
use Rattle.judge.specs.Answer.{Pairs}
use Rattle.judge.specs.Words.{joined}
use Rattle.congee.specs.owned.Nearest.{IsGreatestIn}

-- what a version's word says: the value that was written, or none where the row was deleted
abbrev pub value_in : ℕ → Option ℕ
value_in word = cond (word == 0) None (Some ((word - 1) % 2 ^ 32))

-- the word of a value, and that of a deletion
abbrev pub word_in : Option ℕ → ℕ
word_in None = 0
word_in (Some value) = value + 1

-- what a version says that was found, if one was
abbrev pub said : Option (ℕ × ℕ) → Option ℕ
said None = None
said (Some version) = value_in version.1

-- what a row shows at a stamp: what its last version says of those up to it. A deletion and a row without one show nothing
pub record Reads (m : Pairs ℕ) (row stamp : ℕ) (value : Option ℕ) : Type 0 where
  pub version : Option (ℕ × ℕ)
  pub last : IsGreatestIn m (joined row 0) (joined row stamp + 1) version
  pub says : value ≡ said version

-- a write: its row, its stamp, and the value that it left, or none where it deleted the row
pub record Write : Type 0 where
  pub row : ℕ
  pub stamp : ℕ
  pub value : Option ℕ

-- what the last write to a row left there, of those up to a stamp. The newest write stands first
abbrev pub last_of : List Write → ℕ → ℕ → Option ℕ
last_of [] row stamp = None
last_of (w ∷ earlier) row stamp = cond (w.row == row && nat_le w.stamp stamp) w.value (last_of earlier row stamp)

-- somebody may read at a stamp: a live snapshot, or one that begins now or later
abbrev pub MayRead : Pairs ℕ → ℕ → ℕ → Type 0
MayRead live now stamp = IsSome (map.get live stamp) ⊎ (now ≤ stamp)

-- whoever may read is told what the last of these writes left, of those up to his stamp
pub record Tells (m live : Pairs ℕ) (now : ℕ) (log : List Write) : Type 0 where
  pub reads : (row stamp : ℕ) → stamp < 2 ^ 32 → MayRead live now stamp → Reads m row stamp (last_of log row stamp)

-- readers from a stamp on are told the same, and no version came
pub record Keeps (oldest : ℕ) (m n : Pairs ℕ) : Type 0 where
  pub reads : (row stamp : ℕ) (value : Option ℕ) → oldest ≤ stamp → stamp < 2 ^ 32 → Reads m row stamp value → Reads n row stamp value
  pub fewer : (key : ℕ) → map.get m key ≡ None → map.get n key ≡ None

-- from one row on to another these show these values at a stamp, ascending, and no other shows any
abbrev pub Lists : Pairs ℕ → ℕ → ℕ → ℕ → List (ℕ × ℕ) → Type 0
Lists m stamp start end [] = (row : ℕ) → start ≤ row → row < end → Reads m row stamp None
Lists m stamp start end (pair ∷ rest) =
    (start ≤ pair.0) × (pair.0 < end) × Reads m pair.0 stamp (Some pair.1)
    × ((row : ℕ) → start ≤ row → row < pair.0 → Reads m row stamp None)
    × Lists m stamp (pair.0 + 1) end rest

-- how many are counted where a count may be missing, and one fewer of them
abbrev pub count_in : Option ℕ → ℕ
count_in None = 0
count_in (Some n) = n

abbrev pub fewer_by_one : Option ℕ → Option ℕ
fewer_by_one None = None
fewer_by_one (Some n) = cond (nat_le n 1) None (Some (n - 1))

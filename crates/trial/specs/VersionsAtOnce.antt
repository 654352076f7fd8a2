-- Versions of rows that threads share: what a row shows at a stamp, by the log of the calls, and which calls leave it.
use Rattle.std.specs.Prelude.{◌≡◌, ◌≢◌, ◌⊎◌, ◌==◌, cond, ℕ, ◌<◌, ◌≤◌, List, [], ◌∷◌, ◌++◌, Option, None, Some}
use Rattle.judge.specs.Words.{joined}
use Rattle.optimistic.specs.declared.words.rule.Entry.{Entry}
use Rattle.optimistic.specs.words.Kept.{value_of}
use Rattle.trial.specs.Versions.{said}
use Rattle.trial.specs.declared.examples.versions.keys.Version.{Version}
use Rattle.trial.specs.declared.examples.versions.keys.Written.{Written}

-- the last pair of the keys from one on to another, itself included, if there is one
abbrev pub IsLatest : List Entry → ℕ → ℕ → Option (ℕ × ℕ) → Type 0
IsLatest log first last None = (key : ℕ) → first ≤ key → key ≤ last → value_of key log ≡ None
IsLatest log first last (Some p) =
    (first ≤ p.0) × (p.0 ≤ last) × (value_of p.0 log ≡ Some p.1) × ((key : ℕ) → p.0 < key → key ≤ last → value_of key log ≡ None)

-- what a row shows at a stamp after these calls: what its last version up to it says
pub record Shows (log : List Entry) (row stamp : ℕ) (value : Option ℕ) : Type 0 where
  pub version : Option (ℕ × ℕ)
  pub last : IsLatest log (joined row 0) (joined row stamp) version
  pub says : value ≡ said version

-- a call spares a row at a stamp: it is of another row or of a later stamp, or takes out a version behind which the row has one up to it
abbrev pub IsSparing : ℕ → ℕ → List Entry → Entry → Type 0
IsSparing row stamp log e =
    (e.key < joined row 0) ⊎ (joined row stamp < e.key)
    ⊎ ((e.value ≡ None) × ((newer : ℕ) × (e.key < newer) × (newer ≤ joined row stamp) × (value_of newer log ≢ None)))

-- each of these calls does, as it comes
abbrev pub Spare : ℕ → ℕ → List Entry → List Entry → Type 0
Spare row stamp log [] = Unit {0}
Spare row stamp log (e ∷ rest) = IsSparing row stamp log e × Spare row stamp (log ++ e ∷ []) rest

-- what a version says that was found, if it is one of the row
abbrev pub shown_by : ℕ → Option (Version × Written) → Option ℕ
shown_by row None = None
shown_by row (Some found) = cond (found.0.row == row) found.1.value None

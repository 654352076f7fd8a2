-- What a thread does to nodes that it has.
use Rattle.std.specs.Prelude.{◌≡◌, ◌≢◌, ℕ, ◌<◌, true, Option, None, Some}
use Rattle.optimistic.specs.Layout.{width, is_link}
use Rattle.optimistic.specs.declared.words.rule.Note.{Note}
use Rattle.optimistic.specs.declared.words.rule.View.{View}
use Rattle.optimistic.specs.words.Calls.{Later, entry_of}
use Rattle.optimistic.specs.words.Kept.{word_at, version_at, has, Calm, Since, SameWords}
use Rattle.optimistic.specs.words.Told.{Tells}
use Rattle.optimistic.specs.forms.Children.{Becomes, put_first}

-- a hand has what it had, as it was, but that words of node n may have changed, not its version
pub record KeepsBut (n : ℕ) (v w : View) : Type 0 where
  pub later : Later v w
  pub since : Since v.seen w.seen
  pub version : version_at w.seen.words n ≡ version_at v.seen.words n
  pub mine : w.mine ≡ v.mine
  pub has_it : (m : ℕ) → has v.mine m ≡ true → has w.mine m ≡ true
  pub words : (m : ℕ) → has v.mine m ≡ true → m ≢ n → SameWords m v.seen w.seen
  pub calm : (m : ℕ) → has v.mine m ≡ true → Calm m v.seen w.seen

-- the words of node n are those of f, as far as it goes
abbrev pub IsWritten : ℕ → ℕ → (ℕ → ℕ) → View → Type 0
IsWritten n form f w = (j : ℕ) → j < width form → word_at w.seen.words n j ≡ f j

-- a word that may be written there
abbrev pub MayStore : ℕ → ℕ → ℕ → View → Type 0
MayStore form j x v = is_link form j ≡ true → Tells x v

-- node n of this form has these two words as its child at a byte, and its other children as before
pub record HasPut (n form byte x y : ℕ) (v w : View) : Type 0 where
  pub keeps : KeepsBut n v w
  pub put : Becomes form (word_at v.seen.words n) (word_at w.seen.words n) byte (put_first form x) y
  pub covers : word_at w.seen.words n 1 ≡ word_at v.seen.words n 1

-- what a hand says as it lets a node go: that this decides a write
abbrev pub write_note : ℕ → Option ℕ → Note
write_note key value = record { first = None; second = None; third = None; entry = Some (entry_of 0 key value); form = 0 }

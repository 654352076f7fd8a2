-- What a thread does that takes a child out of a node that it has.
use Rattle.std.specs.Prelude.{◌≡◌, ◌≢◌, ℕ, Option, None, Some}
use Rattle.optimistic.specs.declared.words.rule.View.{View}
use Rattle.optimistic.specs.words.Kept.{word_at}
use Rattle.optimistic.specs.forms.Children.{first_of, Becomes}
use Rattle.optimistic.specs.tree.Writes.{KeepsBut, HasPut}

-- some key has a child at this byte
abbrev pub HasChild : ℕ → (ℕ → ℕ) → ℕ → Type 0
HasChild form w byte = (key : ℕ) × (first_of form w key byte ≢ 0)

-- node n of this form has no child at a byte, and its other children as before
pub record HasTaken (n form byte : ℕ) (v w : View) : Type 0 where
  pub keeps : KeepsBut n v w
  pub took : Becomes form (word_at v.seen.words n) (word_at w.seen.words n) byte (λ key. 0) 0
  pub covers : word_at w.seen.words n 1 ≡ word_at v.seen.words n 1

-- node n of this form has the lone leaf of this word and value as its child at a byte, or none, and its other children as before
abbrev pub HasWritten : ℕ → ℕ → ℕ → ℕ → Option ℕ → View → View → Type 0
HasWritten n form byte leaf (Some x) v w = HasPut n form byte leaf x v w
HasWritten n form byte leaf None v w = HasTaken n form byte v w

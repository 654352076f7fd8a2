-- What a call does by whether its key is present.
use Rattle.std.specs.Prelude.{◌≡◌, ℕ, Option, None, Some, Ok, Result, MatchResult, nat_eq}
use Rattle.congee.specs.owned.Content.{Content, Inserts, Modifies, Refuses}
use Rattle.congee.specs.declared.allocator.OOMError.{OOMError}
use Rattle.judge.specs.declared.journal.Call.TheVariants as call
use Rattle.judge.specs.declared.journal.Reply.TheVariants as reply

module _ {V A D : Type 0} (word : V → ℕ) (of_word : ℕ → V) (charged limit : A → ℕ) (old new : Content ℕ A D) (key : ℕ) where
  -- an answer to the value that was found takes its place; without one all is as it was
  abbrev pub Updates : (V → V → Type 0) → Option ℕ → Type 0
  Updates answers None = new ≡ old
  Updates answers (Some before) = (after : V) × answers (of_word before) after
      × Modifies nat_eq charged limit old new None (call.ComputePresent key (Some (word after))) (reply.ComputePresent (Some (before, Some (word after))))

  -- the value that was found, and all is as it was; without one such a value is put in, if there is room
  abbrev pub Fills : (V → Type 0) → Result V OOMError → Option ℕ → Type 0
  Fills gives result (Some before) = (result ≡ Ok (of_word before)) × (new ≡ old)
  Fills gives result None = MatchResult result
      (λ v. gives v × Inserts nat_eq charged limit old new key (call.Insert key (word v)) (reply.Insert None))
      (Refuses charged limit old new key)

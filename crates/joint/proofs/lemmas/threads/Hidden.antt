-- A round of which a lock hides what stands between its calls.
use Rattle.std.proofs.Common.{◌≡◌, ℕ, ◌∙◌, subst}
use Rattle.std.specs.Prelude.{Result, Ok, Err}
use Rattle.joint.specs.declared.refusal.Refusal.{Refusal}
use Rattle.joint.specs.declared.steps.Op.{Op}
use Rattle.joint.specs.declared.steps.Op.TheVariants as op
use Rattle.joint.specs.declared.steps.Report.{Report}
use Rattle.joint.specs.declared.steps.Step.{Step}
use Rattle.joint.specs.threads.Threads.{Answers, IsRound, IsRoundFrom, Rounds, RoundsFrom, told}

module _ {V S : Type 0} (hold : ℕ → Op V → Step V → Report V → Type 0) (number : S → ℕ) where
  abbrev Calls : S → Op V → Result (Unit {0}) Refusal → S → Type 0
  Calls s o r s' = Answers {V = V} hold (number s) o told r × (number s' ≡ number s)

  round_from : (who : ℕ) (begun result : Result (Unit {0}) Refusal) (s s' : S) → number s ≡ who → RoundsFrom {V = V} Calls begun s result s' → IsRoundFrom {V = V} hold who begun result
  round_from who (Err e) result s s' n x = x.0
  round_from who (Ok t) result s s' n x = (
    x.0,
    x.2,
    subst (λ w. Answers {V = V} hold w op.Flush told x.0) n x.3.0,
    subst (λ w. Answers {V = V} hold w op.Unpin told x.2) (x.3.1 ∙ n) x.4.0,
    x.5,
  )

  -- a round whose calls each lead on from what the one before left is one with that hidden
  pub rounds : (who : ℕ) (s : S) (result : Result (Unit {0}) Refusal) (s' : S) → number s ≡ who → Rounds {V = V} Calls s result s' → IsRound {V = V} hold who result
  rounds who s result s' n x = (x.0, subst (λ w. Answers {V = V} hold w op.Pin told x.0) n x.2.0, round_from who x.0 result x.1 s' (x.2.1 ∙ n) x.3)

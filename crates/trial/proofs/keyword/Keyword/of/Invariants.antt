use Rattle.std.proofs.Common.{◌≡◌, ℕ, ◌<◌, get_or}
use Rattle.trial.specs.declared.keyword.Keyword.TheVariants.{New}
use Rattle.trial.specs.Words.{text_of}
use Rattle.trial.proofs.keyword.Keyword.of.Given as goal

-- no keyword so far spells the word
abbrev pub invariant-loop-key : goal.invariant-loop-key
invariant-loop-key l = (i : ℕ) → i < l.key-index → l.word ≡ text_of (get_or l.key-items i New) → ⊥

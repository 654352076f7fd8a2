-- What stands for the word of a version is that version again.
use Rattle.std.proofs.Common.{◌≡◌, ℕ, ◌<◌, ◌^◌, Option, None, Some, refl, arith}
use Rattle.std.specs.Prelude.{IfSome}
use Rattle.std.proofs.lemmas.Bool.Decides.{nat_tests}
use Rattle.trial.specs.Versions.{value_in, word_in}

pub value_back : (value : Option ℕ) → IfSome value (λ n. n < 2 ^ 32) → value_in (word_in value) ≡ value
value_back None few = refl
value_back (Some n) few = grind (arith, nat_tests)

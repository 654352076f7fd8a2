use Rattle.std.proofs.Common.{rules, ◌≡◌, ℕ, ◌<◌, length, get_or, inl, inr, arith}
use Rattle.std.proofs.lemmas.Bool.{cases_lt}
use Rattle.std.proofs.lemmas.List.{get_or_past}
use Rattle.std.proofs.lemmas.Nat.{be_bytes_8}
use Rattle.congee.proofs.keys.key_of_bytes.Goals as goal

pub returns : goal.returns
returns c =
    let long : length c.args.bytes.now ≡ 8 = search rules in
    let low : (j : ℕ) → get_or c.args.bytes.now j 0 < 256 = λ j. elim (cases_lt j 8) [
      | inl lt ↦ search rules
      | inr ge ↦ omega (arith, get_or_past c.args.bytes.now j 0 (omega (arith, ge, long)))
    ] in
    be_bytes_8 c.args.bytes.now c.from_be_bytes.result long low c.from_be_bytes.ensures

use Rattle.std.proofs.Common.{◌≡◌, ◌∙◌, ◌<◌, ◌^◌, ℕ, List, Option, Some, None, IfSome, IfNone, ap, sym, rules, arith, decimal}
use Rattle.std.specs.Result.{result_ok}
use Rattle.std.proofs.lemmas.Fmt.{parse-decimal}
use Rattle.trial.proofs.Decimals.{IsPlain, IsUnsigned, plain_decimal, from_plain, decimal_is_text}
use Rattle.trial.proofs.Splitting.{equal_from_true}
use Rattle.trial.proofs.word.number.Goals as goal
use Rattle.trial.proofs.word.number.Goals.{then-is_empty-via-then-is_empty, then-is_empty-via-else-is_empty+then-not-is_ascii_digit, else-word-gt1-via-then-word-gt1+else-word-eq48, else-word-gt1-via-else-word-gt1}

pub returns-then-is_empty-clause-none : goal.returns-then-is_empty-clause-none
returns-then-is_empty-clause-none c = λ n h e.
    let plain = plain_decimal _ n h e in
    elim c.then-is_empty.branch [
      | then-is_empty-via-then-is_empty w ↦ omega (arith, plain.0, equal_from_true _ 0 (sym c.is_empty.ensures ∙ w.if-is_empty.true))
      | then-is_empty-via-else-is_empty+then-not-is_ascii_digit w ↦ grind (arith, plain.1.digit, w.if-not-is_ascii_digit.ensures.cases)
    ]

pub returns-then-word-eq48-clause-none : goal.returns-then-word-eq48-clause-none
returns-then-word-eq48-clause-none c = λ n h e. omega (arith, (plain_decimal _ n h e).1.alone c.if-word-eq48.true, c.if-word-gt1.true)

-- an unsigned number of a plain word is its decimal
decimal_of : (bs : List ℕ) (r : Option ℕ) → IsPlain bs → IfSome r (IsUnsigned bs) → IfSome r (λ n. bs ≡ decimal n)
decimal_of bs None p u = u
decimal_of bs (Some n) p u = from_plain bs n p u

pub returns-in-Ok-clause-found : goal.returns-in-Ok-clause-found
returns-in-Ok-clause-found c =
    let unsigned : IfSome c.ok.result (IsUnsigned c.args.word.now) = search rules in
    decimal_of _ _ (record {
      digit = c.if-not-is_ascii_digit.ensures.cases;
      alone = λ z. elim c.else-word-gt1.branch [
        | else-word-gt1-via-then-word-gt1+else-word-eq48 w ↦ absurd (w.if-word-eq48.false z)
        | else-word-gt1-via-else-word-gt1 w ↦ omega (arith, w.if-word-gt1.false)
      ];
    }) unsigned

-- one that every decimal is read as is none of no decimal alone
none_of : (bs : List ℕ) (r : Option ℕ) → ((n : ℕ) → n < 2 ^ 64 → bs ≡ decimal n → r ≡ Some n) → IfNone r ((n : ℕ) → n < 2 ^ 64 → bs ≡ decimal n → ⊥)
none_of bs None f = λ n h e. let is = f n h e in cc
none_of bs (Some m) f = tt

pub returns-in-Ok-clause-none : goal.returns-in-Ok-clause-none
returns-in-Ok-clause-none c = none_of _ _ (λ n h e.
    let read = parse-decimal 64 n _ _ h h (c.in-Ok.ensures.cases.0 ∙ e) c.parse.ensures.value.0 in
    c.ok.ensures.value ∙ ap result_ok read)

pub returns-in-Err-clause-none : goal.returns-in-Err-clause-none
returns-in-Err-clause-none c = λ n h e. absurd (c.in-Err.ensures.cases.0 (decimal_is_text n _ h e))

use Rattle.std.proofs.Common.{◌<◌, ◌/◌, get_or, inl, inr, arith}
use Rattle.std.proofs.lemmas.Bool.{cases_lt}
use Rattle.congee.proofs.lemmas.forms.BitLemmas.{lowest, rest_is_zero}
use Rattle.congee.proofs.forms.masked.Mask.first_from.Goals as goal

pub overflow_cast-result-then-rest-ne0 : goal.overflow_cast-result-then-rest-ne0
overflow_cast-result-then-rest-ne0 c =
    let small : get_or c.args.self.now.bytes (c.loop-byte.byte / 8) 0 < 256 = omega arith in
    let low = lowest c.args.self.now.bytes c.loop-byte.byte small c.if-rest-ne0.true in
    omega (arith, low.within, c.loop-byte-test.true)

pub returns-then-rest-ne0 : goal.returns-then-rest-ne0
returns-then-rest-ne0 c =
    let small : get_or c.args.self.now.bytes (c.loop-byte.byte / 8) 0 < 256 = omega arith in
    let low = lowest c.args.self.now.bytes c.loop-byte.byte small c.if-rest-ne0.true in
    (omega (arith, c.loop-byte.invariant.0), low.here, λ b h l. elim (cases_lt b c.loop-byte.byte) [ inl m ↦ c.loop-byte.invariant.1 b h m | inr m ↦ low.before b m l ])

pub loop-byte-preserved : goal.loop-byte-preserved
loop-byte-preserved c = (
  omega (arith, c.loop-byte.invariant.0),
  λ b h l. elim (cases_lt b c.loop-byte.byte) [
    | inl m ↦ c.loop-byte.invariant.1 b h m
    | inr m ↦ rest_is_zero c.args.self.now.bytes c.loop-byte.byte c.if-rest-ne0.false b m l
  ],
)

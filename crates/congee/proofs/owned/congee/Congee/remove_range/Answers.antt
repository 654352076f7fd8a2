use Rattle.std.proofs.Common.{◌<◌, refl, ◌∙◌, arith}
use Rattle.congee.proofs.lemmas.owned.Several.{cuts_first, cuts_next, cuts_last, lightens_same, lightens_then}
use Rattle.congee.proofs.owned.congee.Congee.remove_range.Goals as goal

pub loop-key-init : goal.loop-key-init
loop-key-init g c = (rw (← c.to_word-from.ensures.number) (cuts_first _ _ _), lightens_same _ _ _, refl)

pub overflow_add-count : goal.overflow_add-count
overflow_add-count g c =
    let low = c.loop-key.invariant.0.low in
    let past = (c.in-Some.ensures.least c.loop-key.from refl).past in
    omega (arith, low, past)

pub loop-key-preserved : goal.loop-key-preserved
loop-key-preserved g c =
    let least = c.in-Some.ensures.least c.loop-key.from refl in
    let small : c.in-Some.key < g.K.Word64.word c.args.end.now = omega (arith, c.if-key-end.false, c.to_word-end.ensures.number) in (
      rw c.remove_number.ensures.pairs (cuts_next _ _ _ _ _ _ c.loop-key.invariant.0 c.in-Some.key c.in-Some.field-0-1 least small),
      lightens_then _ _ _ _ _ c.loop-key.invariant.1 c.remove_number.ensures.lightens,
      c.remove_number.ensures.base ∙ c.loop-key.invariant.2,
    )

pub returns-then-key-end-clause-removed : goal.returns-then-key-end-clause-removed
returns-then-key-end-clause-removed g c =
    let least = c.in-Some.ensures.least c.loop-key.from refl in
    (cuts_last _ _ _ _ _ _ c.loop-key.invariant.0 (λ q a b. least.before q a (omega (arith, b, c.if-key-end.true, c.to_word-end.ensures.number)))).0

pub returns-then-key-end-clause-count : goal.returns-then-key-end-clause-count
returns-then-key-end-clause-count g c =
    let least = c.in-Some.ensures.least c.loop-key.from refl in
    (cuts_last _ _ _ _ _ _ c.loop-key.invariant.0 (λ q a b. least.before q a (omega (arith, b, c.if-key-end.true, c.to_word-end.ensures.number)))).1

pub returns-in_default-clause-removed : goal.returns-in_default-clause-removed
returns-in_default-clause-removed g c =
    let none = c.in_default.ensures.least c.loop-key.from refl in
    (cuts_last _ _ _ _ _ _ c.loop-key.invariant.0 (λ q a b. none q a)).0

pub returns-in_default-clause-count : goal.returns-in_default-clause-count
returns-in_default-clause-count g c =
    let none = c.in_default.ensures.least c.loop-key.from refl in
    (cuts_last _ _ _ _ _ _ c.loop-key.invariant.0 (λ q a b. none q a)).1

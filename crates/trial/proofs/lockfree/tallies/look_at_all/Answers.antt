use Rattle.std.proofs.Common.{◌≡◌, ◌++◌, ℕ, ap, arith, rules, sym, ◌∙◌}
use Rattle.trial.specs.Lockfree.{looks, own_keys, valued}
use Rattle.trial.proofs.Tallying.{keys_are}
use Rattle.trial.proofs.lockfree.tallies.look_at_all.Goals as goal

pub returns-clause-looks : goal.returns-clause-looks
returns-clause-looks c = λ log drained.
    let past = c.loop-number-test.false in
    let all : c.loop-number.number ≡ 97 = search rules in
    c.loop-number.invariant.looks log drained ∙ ap (λ (n : ℕ). c.args.own.now.items ++ looks log c.args.worker n) (all ∙ sym keys_are)

pub returns-clause-found : goal.returns-clause-found
returns-clause-found c = λ log drained.
    let past = c.loop-number-test.false in
    let all : c.loop-number.number ≡ 97 = search rules in
    c.loop-number.invariant.found log drained ∙ ap (λ (n : ℕ). valued log c.args.worker n) (all ∙ sym keys_are)

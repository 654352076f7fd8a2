use Rattle.std.proofs.Common.{◌≡◌, ◌≤◌, ◌+◌, ◌*◌, ℕ, List, Some, ap, arith, drop, length, refl, rules, subst, sym, ◌∙◌}
use Rattle.std.specs.Prelude.{slice_get}
use Rattle.std.proofs.lemmas.List.{length_push}
use Rattle.optimistic.specs.declared.words.rule.Entry.{Entry as Decided}
use Rattle.trial.specs.Lockfree.{AreCounted, IsCounted, together, plus as sum}
use Rattle.trial.specs.declared.lockfree.tallies.Counts.{Counts}
use Rattle.trial.specs.declared.lockfree.tallies.Tally.{Tally}
use Rattle.trial.proofs.Keeping.{at_some, first_left, rest_left}
use Rattle.trial.proofs.Tallying.{counted_pushed, together_pushed}
use Rattle.trial.proofs.lockfree.tallies.Tallies.of.Goals as goal

pub loop-one-preserved : goal.loop-one-preserved
loop-one-preserved c =
    let i = c.loop-one.invariant in
    let xs = c.args.made.items in
    let each = c.loop-one.each.items in
    let seen = sym i.rest ∙ (at_some _ _ _ _ c.next.ensures.steps c.in-Some.is).0 in
    let more = length_push c.loop-one.yielded c.in-Some.one in
    let at : slice_get xs (length each) ≡ Some c.in-Some.one = ap (λ n. slice_get xs n) i.len ∙ first_left xs _ _ _ seen in
    let pushed = c.in_ok-push.ensures.items in
    let sums = c.requires.all (length each) c.in-Some.one at in
    let made = c.in_ok-counts.ensures.made in
    let few = c.in_ok-counts.ensures.few in
    let one : Tally = record { worker = c.len-worker.result; counts = c.in_ok-counts.counts } in
    let here : c.len-worker.result ≡ length each = search rules in
    let plus = c.plus-all.ensures in
    record {
      rest = rest_left xs _ _ _ seen ∙ ap (λ n. drop n xs) (sym more);
      len = ap length pushed ∙ length_push each _ ∙ ap (λ n. n + 1) i.len ∙ sym more;
      counted = λ log drained.
          let it = subst (λ (n : ℕ). IsCounted log n c.in-Some.one c.in_ok-counts.counts) here (c.in_ok-counts.ensures.counted log drained) in
          subst (AreCounted log xs) (sym pushed) (counted_pushed log xs each c.in-Some.one one (i.counted log drained) at here it);
      all = plus ∙ ap (λ t. sum t c.in_ok-counts.counts) i.all ∙ sym (together_pushed each one) ∙ ap together (sym pushed);
      calls = (let a = i.calls in let b = ap (λ (t : Counts). t.made) plus in let d = ap (λ (t : Counts). t.refused) plus in let f = made.0 in let h = made.1 in let most = c.requires.calls in
          omega (arith, a, b, d, f, h, sums, most, more));
      pairs = (let a = i.pairs in let b = ap (λ (t : Counts). t.pairs) plus in omega (arith, a, b, few, more));
    }

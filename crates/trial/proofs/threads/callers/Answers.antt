use Rattle.std.proofs.Common.{◌≡◌, ◌+◌, List, ℕ, Some, length, ap, arith, sym, ◌∙◌, subst}
use Rattle.std.specs.Prelude.{slice_get}
use Rattle.std.proofs.lemmas.List.{length_push}
use Rattle.trial.proofs.Keeping.{each_pushed}
use Rattle.trial.proofs.threads.callers.Goals as goal

pub loop-place-preserved : goal.loop-place-preserved
loop-place-preserved g c =
    let i = c.loop-place.invariant in
    let pushed = c.in_ok-push.ensures.items in
    let made = c.in_ok-caller.ensures.place in
    let share = c.in_ok-caller.ensures.share in
    let split = c.in_ok-caller.ensures.parts in
    let before = i.parts in record {
      len = ap length pushed ∙ length_push c.loop-place.callers.items _ ∙ ap (λ n. n + 1) i.len;
      each = subst (λ (xs : List _). (k : ℕ) (y : _) → slice_get xs k ≡ Some y → (y.place ≡ k) × (y.share.parts ≡ 1) × (y.share.count ≡ 0)) (sym pushed)
          (each_pushed (λ k y. (y.place ≡ k) × (y.share.parts ≡ 1) × (y.share.count ≡ 0)) c.loop-place.callers.items _ i.each (made ∙ sym i.len, share.0, share.1));
      parts = omega (arith, split, before);
      count = c.in_ok-caller.ensures.count ∙ i.count;
    }

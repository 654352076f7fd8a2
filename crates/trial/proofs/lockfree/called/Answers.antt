use Rattle.std.proofs.Common.{◌≡◌, ◌^◌, List, length, subst, sym, ◌∙◌}
use Rattle.optimistic.specs.declared.drain.nexts.Pair.{Pair}
use Rattle.optimistic.specs.tree.Drained.{IsDrained}
use Rattle.trial.specs.Lockfree.{in_all}
use Rattle.trial.proofs.Tallying.{worked_later}
use Rattle.trial.proofs.lockfree.called.Goals as goal

pub returns : goal.returns
returns g c =
    let all = c.in_ok-pairs.ensures in
    let value = c.deref.ensures.value in
    let made = c.in_ok-made.made.items in
    let t = c.in_ok-of.field-0 in record {
      pairs = c.in_ok-pairs.pairs.items;
      log = all.log;
      made = made;
      drained = all.told;
      worked = worked_later c.args.calls made c.in_ok-made.last.seen all.log c.in_ok-made.ensures.worked all.comes.0;
      counted = c.in_ok-of.ensures.counted all.log (subst (IsDrained all.log 0 (2 ^ 64)) (sym value) all.told);
      len = c.in_ok-of.ensures.len ∙ c.in_ok-made.ensures.len;
      all = subst (λ (ps : List Pair). t.all ≡ in_all t.each.items (length ps)) value c.in_ok-of.ensures.all;
    }

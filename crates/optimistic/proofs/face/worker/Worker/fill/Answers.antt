use Rattle.std.proofs.Common.{◌≡◌, ℕ, ◌-◌, ◌<◌, ◌≤◌, List, [], Option, IfSome, length, length-drop, take, drop, ap, sym, ◌∙◌, subst, le_refl, rules, arith}
use borrow.Rule.Slice.PartMut.{put_mid}
use Rattle.std.proofs.lemmas.List.{length-take-le}
use Rattle.std.proofs.lemmas.Slice.{take-put_mid_below}
use Rattle.optimistic.specs.declared.drain.nexts.Pair.{Pair}
use Rattle.optimistic.specs.face.Scans.{IsSoFar}
use Rattle.optimistic.specs.tree.Runs.{behind}
use Rattle.optimistic.proofs.lemmas.face.Scanning.{so_far_none, so_far_run, so_far_both, so_far_later}
use Rattle.optimistic.proofs.lemmas.tree.Few.{take_behind}
use Rattle.optimistic.proofs.face.worker.Worker.fill.Goals as goal

pub loop-count-init : goal.loop-count-init
loop-count-init g c =
    let told = c.run-run.ensures.run in
    let later = told.later in
    let v = c.args.self.now in (
      so_far_run c.args.from c.args.from (behind c.args.last c.run-run.result.next) v v c.run-run.new.self [] (take c.run-run.result.count c.run-run.new.pairs) (so_far_none c.args.from v) told.looked.0 (omega (arith, later)) told.once,
      told.later,
      told.inside,
      told.few,
      c.run-run.ensures.same,
      c.run-run.ensures.trail,
    )

pub returns-in_default-run_on-clause-filled : goal.returns-in_default-run_on-clause-filled
returns-in_default-run_on-clause-filled g c =
    let i = c.loop-count.invariant in
    let n : ℕ = c.loop-count.count in
    let key : ℕ = c.in-Some.key in
    let pairs = c.loop-count.pairs in
    let last : ℕ = c.args.last in
    let v = c.args.self.now in
    let u = c.loop-count.self in
    let w = c.run_on.new.self in
    let few = i.3 in
    let same = i.4 in
    let room = c.requires.room in
    let is : behind last c.loop-count.next ≡ key = ap (λ (o : Option ℕ). behind last o) c.in-Some.is in
    let stays : take n (put_mid n (length pairs - n) pairs c.run_on.new.pairs) ≡ take n pairs = take-put_mid_below n (length pairs - n) pairs c.run_on.new.pairs n (le_refl n) (omega (arith, few, same, room)) in
    record {
      few = few;
      later = subst (λ (z : ℕ). c.args.from < z) is i.1;
      inside = subst (λ (o : Option ℕ). IfSome o (λ k. k ≤ last)) c.in-Some.is i.2;
      far = subst (λ (l : List Pair). IsSoFar c.args.from key v w l) (sym stays) (so_far_later c.args.from key v u w (take n pairs) (subst (λ (z : ℕ). IsSoFar c.args.from z v u (take n pairs)) is i.0) c.run_on.ensures.saw);
    }

pub loop-count-preserved : goal.loop-count-preserved
loop-count-preserved g c =
    let i = c.loop-count.invariant in
    let n : ℕ = c.loop-count.count in
    let key : ℕ = c.in-Some.key in
    let pairs = c.loop-count.pairs in
    let new = c.run_on.new.pairs in
    let r = c.in-Some-run_on.run' in
    let told = c.in-Some-run_on.ensures.run in
    let last : ℕ = c.args.last in
    let v = c.args.self.now in
    let u = c.loop-count.self in
    let w = c.run_on.new.self in
    let few = i.3 in
    let same = i.4 in
    let room = c.requires.room in
    let test = c.loop-count-test.true in
    let later = told.later in
    let more = told.few in
    let to : ℕ = behind last r.next in
    let is : behind last c.loop-count.next ≡ key = ap (λ (o : Option ℕ). behind last o) c.in-Some.is in
    let before : c.args.from < key = subst (λ (z : ℕ). c.args.from < z) is i.1 in
    let part : length (take (length pairs - n) (drop n pairs)) ≡ length pairs - n = length-take-le (length pairs - n) (drop n pairs) (omega (arith, length-drop n pairs)) in
    let long : length new ≡ length pairs - n = c.run_on.ensures.same ∙ part in
    let whole : length (put_mid n (length pairs - n) pairs new) ≡ length pairs = search rules in (
      subst (λ (l : List Pair). IsSoFar c.args.from to v w l) (sym (take_behind n r.count (length pairs - n) pairs new (omega (arith, few, same, room)) (omega (arith, more, long, few, same, room))))
          (so_far_both c.args.from key to v u w (take n pairs) (take r.count new) (subst (λ (z : ℕ). IsSoFar c.args.from z v u (take n pairs)) is i.0)
          (so_far_run key key to u u w [] (take r.count new) (so_far_none key u) told.looked.0 (omega (arith, later)) told.once)),
      omega (arith, before, later),
      told.inside,
      omega (arith, more, test),
      whole ∙ i.4,
      c.run_on.ensures.trail,
    )

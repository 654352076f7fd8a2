use Rattle.std.proofs.Common.{◌≡◌, ℕ, ◌-◌, length, length-drop, take, drop, arith}
use Rattle.std.proofs.lemmas.List.{length-take-le}
use Rattle.optimistic.proofs.lemmas.tree.Few.{take_behind}
use Rattle.optimistic.proofs.tree.get.Tree.run_rest.Goals as goal

pub returns-clause-shows : goal.returns-clause-shows
returns-clause-shows c a l has =
    let n : ℕ = c.run_in-part.result.count in
    let out = c.args.out.now in
    let count : ℕ = c.args.count in
    let most : ℕ = c.args.most in
    let low = c.requires.room.0 in
    let high = c.requires.room.1 in
    let few = c.run_in-part.ensures.count in
    let same = c.run_in-part.ensures.same in
    let part : length (take (length out - count) (drop count out)) ≡ length out - count = length-take-le (length out - count) (drop count out) (omega (arith, length-drop count out)) in (
      take n c.run_in-part.new.out,
      c.run_in-part.ensures.shows a l has,
      take_behind count n (length out - count) out c.run_in-part.new.out (omega (arith, low, high)) (omega (arith, few, same, part, low, high)),
    )

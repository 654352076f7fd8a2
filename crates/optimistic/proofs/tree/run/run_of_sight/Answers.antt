use Rattle.std.proofs.Common.{◌≡◌, ℕ, take, ap, refl, ◌∙◌, arith}
use Rattle.optimistic.specs.tree.Runs.{within}
use Rattle.optimistic.proofs.lemmas.tree.Anew.{sight_up, sight_run}
use Rattle.optimistic.proofs.lemmas.tree.Runs.{run_made}
use Rattle.optimistic.proofs.tree.run.run_of_sight.Goals as goal

pub returns-clause-run : goal.returns-clause-run
returns-clause-run c from places w order reach some sight gives =
    let s = c.args.sight in
    let r = c.run_of.result in
    let e = c.run_of.ensures in
    let n : ℕ = c.put_within-count.result in
    let one = c.put_within-count.ensures.count in
    let last : ℕ = c.args.last in
    let end : ℕ = c.args.end in
    let stop : ℕ = c.lesser.result in
    let l = c.lesser.ensures in
    let few = e.same.2 in
    let next = e.next in
    let pairs = take r.count c.put_within-count.new.out in
    let told : pairs ≡ within last c.args.pair = ap (λ (z : ℕ). take z c.put_within-count.new.out) e.same.2 ∙ c.put_within-count.ensures.pairs in
    let up = sight_up s c.args.pair from end last stop w sight order reach l.0 l.1 l.2 in (
      run_made r s.at s.version r.count e.same.0 e.same.1 refl from last places pairs w
          (sight_run s c.args.pair from end last stop w sight order reach l.0 l.1 l.2 r.next r.turn r.count places pairs (e.turn w tt) (omega (arith, few, one, some)) next (e.inside tt) told gives),
      omega (arith, up, next),
    )
